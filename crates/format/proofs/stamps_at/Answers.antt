-- `format::stamps_at` meets its contract: header and directory. Assumes nothing.
use Rattle.model.specs.Layout.{stamps_at, stamps_behind, directory}
use native.Mathlib.Omega.{arith}
use Rattle.format.proofs.stamps_at.Goals as goal

pub overflow_mul-result : goal.overflow_mul-result
unfolding stamps_at stamps_behind directory
overflow_mul-result c = omega arith

pub overflow_add-result : goal.overflow_add-result
unfolding stamps_at stamps_behind directory
overflow_add-result c = omega arith

pub returns : goal.returns
unfolding stamps_at stamps_behind directory
returns c = omega arith
