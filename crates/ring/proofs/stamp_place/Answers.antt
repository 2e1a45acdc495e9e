-- `ring::stamp_place` meets its contract: the place is within the slab. Assumes nothing.
use Rattle.model.specs.Layout.{slab_length, stamps_at, column_at, column_behind, stamps_behind, directory}
use native.Mathlib.Omega.{arith}
use Rattle.ring.proofs.stamp_place.Goals as goal

pub stamps_at-requires : goal.stamps_at-requires
unfolding slab_length stamps_at column_at column_behind stamps_behind directory
stamps_at-requires c = omega arith

pub overflow_mul-result : goal.overflow_mul-result
unfolding slab_length stamps_at column_at column_behind stamps_behind directory
overflow_mul-result c = omega arith

pub overflow_add-result : goal.overflow_add-result
unfolding slab_length stamps_at column_at column_behind stamps_behind directory
overflow_add-result c = omega arith

pub returns : goal.returns
unfolding slab_length stamps_at column_at column_behind stamps_behind directory
returns c = omega arith
