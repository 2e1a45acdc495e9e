-- `window_runs::in_range` meets its contract: both tests, in their order. Assumes nothing.
use borrow.Author.Tests.{le-leb, lt-leb}
use Rattle.window_runs.specs.Parts.{in_range}
use Rattle.window_runs.proofs.in_range.Goals as goal

pub returns-then-start-stamp : goal.returns-then-start-stamp
unfolding in_range
returns-then-start-stamp c = rw (le-leb _ _ c.if-start-stamp.true)

pub returns-else-start-stamp : goal.returns-else-start-stamp
unfolding in_range
returns-else-start-stamp c = rw (lt-leb _ _ c.if-start-stamp.false)
