-- `field::put_u64` meets its contract: the library's bytes of x are put. Assumes nothing.
use Rattle.std.proofs.Common.{◌∙◌}
use Rattle.field.proofs.Laws.{stored, low_bytes}
use Rattle.field.proofs.put_u64.Goals as goal

pub returns : goal.returns
returns c =
    let a = c.args in stored 8 a.s.now a.at a.x c.requires (c.copy_from_slice.ensures.after ∙ c.to_le_bytes.ensures ∙ low_bytes 8 a.x)
