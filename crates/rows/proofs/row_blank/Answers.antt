-- `rows::row_blank` meets its contract: the tests joined by `&` are the definition. Assumes nothing.
use mathlib.Core.Path.{refl}
use Rattle.model.specs.Image.{blank_row}
use Rattle.rows.proofs.row_blank.Goals as goal

pub returns : goal.returns
unfolding blank_row
returns c = refl
