-- `store_reads::start_of` meets its contract, one case a return. Assumes nothing.
use Rattle.store_reads.specs.Answers.{start_of}
use Rattle.store_reads.proofs.start_of.Goals as goal

pub returns-in_default : goal.returns-in_default
unfolding start_of
returns-in_default c = simp c.in_default.is

pub returns : goal.returns
unfolding start_of
returns c = simp c.in-Ok.is
