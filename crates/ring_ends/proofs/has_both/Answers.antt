-- `ring_ends::has_both` meets its contract, one case a return. Assumes nothing.
use Rattle.model.specs.Read.{both_ends}
use borrow.Author.Rules.{rules}
use Rattle.ring_ends.proofs.has_both.Goals as goal

pub returns-in_default : goal.returns-in_default
unfolding both_ends
returns-in_default c = search rules

pub returns-in_default-newest : goal.returns-in_default-newest
unfolding both_ends
returns-in_default-newest c = search rules

pub returns : goal.returns
unfolding both_ends
returns c = search rules
