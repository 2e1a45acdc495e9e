-- `figure_value::nearest_shifted` meets its contract. Assumes nothing.
use native.Mathlib.Omega.{arith}
use Rattle.figure_value.proofs.Laws.{Half, half_is, nearest_added}
use Rattle.figure_value.proofs.nearest_shifted.Goals as goal

half : (c : goal.Start) → Half c.args.shift
half c = half_is c.args.shift c.requires.1.1

pub overflow_sub-result : goal.overflow_sub-result
overflow_sub-result c = rw (half c).is (omega (arith, (half c).least))

pub overflow_add-result : goal.overflow_add-result
overflow_add-result c = rw (half c).is (omega (arith, (half c).most))

pub overflow_add-result-2 : goal.overflow_add-result-2
overflow_add-result-2 c = rw (half c).is (omega (arith, (half c).most))

pub returns : goal.returns
returns c = rw (half c).is (nearest_added c.args.whole c.args.shift c.requires.1.0)
