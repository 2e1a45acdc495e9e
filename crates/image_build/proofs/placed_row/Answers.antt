-- `image_build::placed_row` meets its contract: the row as the definition makes it. Assumes nothing.
use Rattle.model.specs.Image.{placed_row}
use Rattle.image_build.proofs.placed_row.Goals as goal

pub returns : goal.returns
unfolding placed_row
returns c = cc
