-- `rows::row_follows` meets its contract: the tests joined by `&` and `|` are the definition, a tier and one more is its successor. Assumes nothing.
use native.Mathlib.Numerals.{add-one}
use Rattle.model.specs.Image.{follows}
use Rattle.rows.proofs.row_follows.Goals as goal

pub returns : goal.returns
unfolding follows
returns c = rw add-one
