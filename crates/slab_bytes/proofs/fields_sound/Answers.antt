-- `slab::fields_sound` meets its contract: the tests joined by `&` are the definition. Assumes nothing.
use mathlib.Core.Path.{refl}
use Rattle.model.specs.Image.{sound_fields}
use Rattle.slab_bytes.proofs.fields_sound.Goals as goal

pub returns : goal.returns
unfolding sound_fields
returns c = refl
