-- `field::is_infinite` meets its contract: a mask of k low bits is the remainder by 2^k. Assumes nothing.
use borrow.Author.Tests.{ne_eqb}
use Rattle.model.specs.Ring.{is_infinite}
use Rattle.field.proofs.Laws.{exponent, fraction}
use Rattle.field.proofs.is_infinite.Goals as goal

pub returns-then-bits-eq2047 : goal.returns-then-bits-eq2047
unfolding is_infinite
returns-then-bits-eq2047 c = rw (exponent c.args.bits, fraction c.args.bits, c.if-bits-eq2047.true)

pub returns-else-bits-eq2047 : goal.returns-else-bits-eq2047
unfolding is_infinite
returns-else-bits-eq2047 c = rw (exponent c.args.bits, ne_eqb _ _ c.if-bits-eq2047.false)
