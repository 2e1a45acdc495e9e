-- `slab::is_sound` meets its contract: each field is read at the offset that the definition names. Assumes nothing.
use Rattle.model.specs.Image.{sound}
use Rattle.slab_bytes.proofs.is_sound.Goals as goal

pub returns : goal.returns
unfolding sound
returns c = cc
