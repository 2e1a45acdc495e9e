-- `lookup::Image::row_u64` meets its contract: the row lies within the slice. Assumes nothing.
use native.Mathlib.Omega.{arith}
use Rattle.model.specs.Image.{row_place}
use Rattle.lookup.proofs.Laws.{few_rows, row_in_slice}
use Rattle.lookup.proofs.Image.row_u64.Goals as goal

pub overflow_mul-row : goal.overflow_mul-row
overflow_mul-row c = omega (arith, few_rows _ c.args.self.now.good)

pub overflow_add-row : goal.overflow_add-row
overflow_add-row c = omega (arith, few_rows _ c.args.self.now.good)

pub overflow_add-row-2 : goal.overflow_add-row-2
overflow_add-row-2 c = omega (arith, few_rows _ c.args.self.now.good)

pub get_u64-requires : goal.get_u64-requires
get_u64-requires c =
    omega (arith, row_in_slice _ c.args.self.now.good _ c.requires.0)

pub returns : goal.returns
unfolding row_place
returns c = c.get_u64.ensures
