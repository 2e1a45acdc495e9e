-- `rows::header_good` meets its contract: the tests joined by `&` are the definition. Assumes nothing.
use mathlib.Core.Path.{refl}
use Rattle.model.specs.Image.{header, row_place}
use Rattle.rows.proofs.header_good.Goals as goal

pub returns : goal.returns
unfolding header row_place
returns c = refl
