-- `field::get_u32` meets its contract: the library's number of four bytes is the field. Assumes nothing.
use Rattle.std.proofs.Common.{arith, ◌∙◌, ap, length}
use Rattle.model.specs.Bytes.{le, get}
use Rattle.laws.specs.Bytes.{length_part}
use Rattle.field.proofs.Laws.{from_4}
use Rattle.field.proofs.get_u32.Goals as goal

pub returns : goal.returns
unfolding get
returns c =
    let is = c.bytes_at.ensures in
    (c.from.ensures ∙ c.from_le_bytes.ensures ∙ from_4 _ (ap length is ∙ length_part c.args.s.now c.args.at 4 c.requires) ∙ ap le is, omega (arith, c.from.ensures))
