-- `tiers::ring_at` meets its contract: the slab is the part of the image that the row names. Assumes nothing.
use native.Mathlib.Omega.{arith}
use Rattle.lookup.proofs.Laws.{starts-before, part-sized}
use Rattle.tiers.proofs.Laws.{reached}
use Rattle.tiers.proofs.ring_at.Goals as goal

pub slice_bounds-slab-count : goal.slice_bounds-slab-count
slice_bounds-slab-count c = starts-before c.slab_at-s.ensures

pub slice_bounds-slab-start : goal.slice_bounds-slab-start
slice_bounds-slab-start c = omega (arith, starts-before c.slab_at-s.ensures)

pub invariant_of-slab : goal.invariant_of-slab
invariant_of-slab c = record { sized = part-sized c.slab_at-s.ensures }

pub returns : goal.returns
returns c = reached c.slab_at-s.ensures c.args.wrapped c.oldest-oldest.ensures c.newest-newest.ensures c.first_place-place.ensures.0
