-- `field::put_u32` meets its contract: the lower four of the library's bytes of x are put. Assumes nothing.
use Rattle.std.proofs.Common.{◌∙◌, ap, take}
use Rattle.field.proofs.Laws.{stored, low_bytes}
use Rattle.field.proofs.put_u32.Goals as goal

pub returns : goal.returns
returns c =
    let a = c.args in stored 4 a.s.now a.at a.x c.requires (c.copy_from_slice.ensures.after ∙ ap (take 4) c.to_le_bytes.ensures ∙ low_bytes 4 a.x)
