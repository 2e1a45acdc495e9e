-- `field::bytes_at` meets its contract: the slice's part is copied. Assumes nothing.
use Rattle.std.proofs.Common.{arith, ◌≡◌, ◌+◌, ◌-◌, ◌∙◌}
use Rattle.model.specs.Bytes.{part}
use Rattle.field.proofs.bytes_at.Goals as goal

pub returns : goal.returns
unfolding part
returns g c =
    let k : c.args.at + g.row.N - c.args.at ≡ g.row.N = omega arith in
    c.copy_from_slice.ensures.after ∙ rw k
