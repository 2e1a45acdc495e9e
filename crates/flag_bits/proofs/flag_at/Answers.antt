-- `flag_bits::flag_at` meets its contract: row's bit. Assumes nothing.
use mathlib.Core.Path.{sym}
use Rattle.flag_bits.specs.Bits.{bit_at}
use Rattle.flag_bits.proofs.flag_at.Goals as goal

pub returns : goal.returns
returns c = sym (bit_at 32 c.args.number c.args.row c.requires)
