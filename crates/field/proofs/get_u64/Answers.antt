-- `field::get_u64` meets its contract: the library's number of eight bytes is the field. Assumes nothing.
use Rattle.std.proofs.Common.{◌∙◌, ap, length}
use Rattle.model.specs.Bytes.{le, get}
use Rattle.laws.specs.Bytes.{length_part}
use Rattle.field.proofs.Laws.{from_8}
use Rattle.field.proofs.get_u64.Goals as goal

pub returns : goal.returns
unfolding get
returns c =
    let is = c.bytes_at.ensures in
    c.from_le_bytes.ensures ∙ from_8 _ (ap length is ∙ length_part c.args.s.now c.args.at 8 c.requires) ∙ ap le is
