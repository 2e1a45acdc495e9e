-- `ring_ends::is_full` meets its contract, one case a return. Assumes nothing.
use borrow.Author.Tests.{lt-leb, le-leb}
use Rattle.model.specs.Read.{full}
use borrow.Author.Rules.{rules}
use Rattle.ring_ends.proofs.is_full.Goals as goal

pub returns-in_default : goal.returns-in_default
unfolding full
returns-in_default c = search rules

pub returns-in_default-newest : goal.returns-in_default-newest
unfolding full
returns-in_default-newest c = search rules

pub returns-then-start-o : goal.returns-then-start-o
unfolding full
returns-then-start-o c = simp (c.in-Some.is, c.in-Some-newest.is, lt-leb _ _ c.if-start-o.true)

pub returns : goal.returns
unfolding full
returns c = simp (c.in-Some.is, c.in-Some-newest.is, le-leb _ _ c.if-start-o.false)
