-- `image_build::copy_head` meets its contract: what is copied to the front is a splice there. Assumes nothing.
use Rattle.std.proofs.Common.{arith, ◌≡◌, ◌∙◌, sym, length, take, length-take-le}
use Rattle.laws.specs.Bytes.{splice_front}
use Rattle.image_build.proofs.copy_head.Goals as goal

pub returns : goal.returns
returns c =
    let p = c.args.plan.now in
    let s = c.args.image.now in
    let long : length (take 16 p) ≡ 16 = length-take-le 16 p c.requires.0 in
    rw c.copy_from_slice.ensures.after (sym (splice_front s (take 16 p) (omega (arith, long, c.requires.1)) ∙ rw long))
