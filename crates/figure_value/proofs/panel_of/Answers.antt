-- `figure_value::panel_of` meets its contract. Assumes nothing.
use Prim.Native.Nat.{◌^◌}
use mathlib.Core.Path.{sym}
use native.Mathlib.Nat.{lt_of_le_of_lt}
use native.Mathlib.Omega.{arith}
use lib.Dec.{lit<}
use mir.Syntax.{w64}
use mir.Facts.{to_z_pos}
use borrow.Author.Tests.{le-leb, lt-leb}
use Rattle.model.specs.Words.{signed}
use Rattle.model.specs.Figure.{panel_reply}
use Rattle.figure_value.proofs.Laws.{minus-fits, minus_back, shown-off, shown-on}
use Rattle.figure_value.proofs.panel_of.Goals as goal

pub returns-then-size-gt-LIMIT : goal.returns-then-size-gt-LIMIT
unfolding panel_reply
returns-then-size-gt-LIMIT c = sym (shown-off c.args.bits (omega arith))

pub returns-then-bits-lt-SIGN : goal.returns-then-bits-lt-SIGN
unfolding panel_reply signed
returns-then-bits-lt-SIGN c =
    let b = c.args.bits in
    let r = c.nearest_size-whole in
    rw (shown-on b r.result c.if-size-gt-LIMIT.false r.ensures.0, lt-leb (2 ^ 63) b (omega arith), to_z_pos w64 (lt_of_le_of_lt r.ensures.1 (lit< tt)))

pub overflow_sub-result : goal.overflow_sub-result
overflow_sub-result c = minus-fits c.nearest_size-whole.result c.nearest_size-whole.ensures.1

pub returns : goal.returns
unfolding panel_reply signed
returns c =
    let b = c.args.bits in
    let r = c.nearest_size-whole in
    rw (shown-on b r.result c.if-size-gt-LIMIT.false r.ensures.0, le-leb (2 ^ 63) b (omega arith), minus_back r.result r.ensures.1)
