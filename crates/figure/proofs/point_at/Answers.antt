-- `figure::point_at` meets its contract: the slab is the part of the image that the row names. Assumes nothing.
use native.Mathlib.Omega.{arith}
use Rattle.lookup.proofs.Laws.{starts-before, part-sized}
use Rattle.figure.proofs.Laws.{column_in, last-at}
use Rattle.figure.proofs.point_at.Goals as goal

pub slice_bounds-slab-count : goal.slice_bounds-slab-count
slice_bounds-slab-count c = starts-before c.slab_at-s.ensures

pub slice_bounds-slab-start : goal.slice_bounds-slab-start
slice_bounds-slab-start c = omega (arith, starts-before c.slab_at-s.ensures)

pub invariant_of-slab : goal.invariant_of-slab
invariant_of-slab c = record { sized = part-sized c.slab_at-s.ensures }

pub last_point-requires : goal.last_point-requires
last_point-requires c = column_in c.slab_at-s.ensures c.requires.1

pub returns : goal.returns
returns c = last-at c.slab_at-s.ensures c.args.wrapped c.args.column c.last_point.ensures
