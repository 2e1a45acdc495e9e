-- `flag_bits::with_flag` meets its contract: the flag's bit is set by `|`, or the flag stays. Assumes nothing.
use mathlib.Core.Path.{sym, ◌∙◌}
use Rattle.flag_bits.specs.One.{bit_set, shifted, flag_stays, not_set}
use Rattle.flag_bits.proofs.with_flag.Goals as goal

pub returns-then-flag : goal.returns-then-flag
returns-then-flag c = rw (shifted c.args.row c.requires.0, c.if-flag.true) (bit_set 32 c.args.number c.args.row c.requires.0)

pub returns : goal.returns
returns c = flag_stays _ c.args.row c.args.flag (not_set _ (λ e. sym c.if-flag.false ∙ c.requires.1 e) ∙ sym c.if-flag.false)
