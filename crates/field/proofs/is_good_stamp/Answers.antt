-- `field::is_good_stamp` meets its contract: both tests, in their order. Assumes nothing.
use borrow.Author.Tests.{lt-ltb, le-ltb}
use Rattle.model.specs.Record.{stamp_ok}
use Rattle.field.proofs.is_good_stamp.Goals as goal

pub returns-then-stamp-gt0 : goal.returns-then-stamp-gt0
unfolding stamp_ok
returns-then-stamp-gt0 c = rw (lt-ltb _ _ c.if-stamp-gt0.true)

pub returns-else-stamp-gt0 : goal.returns-else-stamp-gt0
unfolding stamp_ok
returns-else-stamp-gt0 c = rw (le-ltb _ _ c.if-stamp-gt0.false)
