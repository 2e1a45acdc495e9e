-- `figure::service_at` meets its contract: the last point of the slab that the row names, with the ring's ends. Assumes nothing.
use native.Mathlib.Omega.{arith}
use Rattle.lookup.proofs.Laws.{starts-before, part-sized}
use Rattle.figure.proofs.Laws.{column_in, none_served, point_served}
use Rattle.figure.proofs.service_at.Goals as goal

pub slice_bounds-slab-count : goal.slice_bounds-slab-count
slice_bounds-slab-count c = starts-before c.slab_at-s.ensures

pub slice_bounds-slab-start : goal.slice_bounds-slab-start
slice_bounds-slab-start c = omega (arith, starts-before c.slab_at-s.ensures)

pub invariant_of-slab : goal.invariant_of-slab
invariant_of-slab c = record { sized = part-sized c.slab_at-s.ensures }

pub last_point-requires : goal.last_point-requires
last_point-requires c = column_in c.slab_at-s.ensures c.requires.1

pub returns-in_err-p : goal.returns-in_err-p
returns-in_err-p c = rw c.from_residual.ensures (none_served c.slab_at-s.ensures c.args.wrapped c.args.column c.in_err-p.was c.last_point.ensures)

pub returns : goal.returns
returns c = point_served c.slab_at-s.ensures c.args.wrapped c.args.column c.in_ok-p.was c.last_point.ensures c.oldest-oldest.ensures c.newest-newest.ensures
