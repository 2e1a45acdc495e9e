-- `lookup::with_flag` meets its contract. Assumes nothing.
use mathlib.Core.Path.{refl}
use Rattle.lookup.specs.Parts.{with_flag}
use Rattle.lookup.proofs.with_flag.Goals as goal

pub returns : goal.returns
unfolding with_flag
returns c = refl
