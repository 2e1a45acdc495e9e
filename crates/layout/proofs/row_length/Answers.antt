-- `layout::row_length` meets its contract: a slab's length at the row's slots and series. Assumes nothing.
use Rattle.model.specs.Image.{row_length}
use Rattle.layout.proofs.row_length.Goals as goal

pub returns : goal.returns
unfolding row_length
returns c = cc
