-- `tiers::answer_of` meets its contract: the mark is that of the ends. Assumes nothing.
use mathlib.Core.Path.{refl}
use Rattle.tiers.proofs.answer_of.Goals as goal

pub returns : goal.returns
returns c = rw c.is_incomplete-incomplete.ensures refl
