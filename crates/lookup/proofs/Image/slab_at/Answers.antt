-- `lookup::Image::slab_at` meets its contract: row and slab lie within the slice, and the slab's header agrees with the row. Assumes nothing.
use native.Mathlib.Omega.{arith}
use Rattle.lookup.proofs.Laws.{slab-long, slab-inside, slab-is}
use Rattle.lookup.proofs.Image.slab_at.Goals as goal

pub overflow_add-from : goal.overflow_add-from
overflow_add-from c = omega (arith, (slab-long _ c.args.self.now.good _ c.requires), (slab-inside _ c.args.self.now.good _ c.requires))

pub get_u32-slots-requires : goal.get_u32-slots-requires
get_u32-slots-requires c = omega (arith, (slab-long _ c.args.self.now.good _ c.requires), (slab-inside _ c.args.self.now.good _ c.requires))

pub overflow_add-result : goal.overflow_add-result
overflow_add-result c = omega (arith, (slab-inside _ c.args.self.now.good _ c.requires))

pub returns : goal.returns
returns c =
    slab-is _ c.args.self.now.good _ c.requires c.row_u64-interval.ensures c.row_u32-series.ensures.0 c.row_u64-from.ensures c.row_u64-len.ensures c.get_u32-slots.ensures.0
