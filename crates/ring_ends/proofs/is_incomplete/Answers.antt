-- `ring_ends::is_incomplete` meets its contract, one case a return. Assumes nothing.
use Rattle.model.specs.Read.{incomplete}
use borrow.Author.Rules.{rules}
use Rattle.ring_ends.proofs.is_incomplete.Goals as goal

pub returns-in_default : goal.returns-in_default
unfolding incomplete
returns-in_default c = search rules

pub returns-in_default-newest : goal.returns-in_default-newest
unfolding incomplete
returns-in_default-newest c = search rules

pub returns : goal.returns
unfolding incomplete
returns c = simp (c.in-Some.is, c.in-Some-newest.is)
