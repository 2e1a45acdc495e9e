-- `rows::row_shaped` meets its contract: the tests joined by `&` are the definition. Assumes nothing.
use mathlib.Core.Path.{refl}
use Rattle.model.specs.Image.{row_shape}
use Rattle.rows.proofs.row_shaped.Goals as goal

pub returns : goal.returns
unfolding row_shape
returns c = refl
