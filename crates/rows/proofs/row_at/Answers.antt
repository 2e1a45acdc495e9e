-- `rows::row_at` meets its contract: each field is read at the offset that the definition names. Assumes nothing.
use Rattle.model.specs.Image.{row_at, row_place, mark_at}
use Rattle.rows.proofs.row_at.Goals as goal

pub returns : goal.returns
unfolding row_at row_place mark_at
returns c = cc
