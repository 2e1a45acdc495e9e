-- `image_quick::two_u32` meets its contract: eight bytes are two numbers side by side. Assumes nothing.
use Rattle.std.proofs.Common.{◌∙◌, arith}
use Rattle.image_quick.specs.Seen.{get-two}
use Rattle.image_quick.proofs.two_u32.Goals as goal

pub returns : goal.returns
returns c =
    let low = c.get_u32-low.ensures in
    (c.get_u64.ensures ∙ get-two c.args.s.now c.args.at (omega (arith, c.requires)), omega (arith, low.0, low.1))
