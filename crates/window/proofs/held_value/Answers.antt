-- `window::held_value` meets its contract, one case a return. Assumes nothing.
use mathlib.Core.Path.{sym, ◌∙◌}
use Rattle.window_apply.specs.Fine.{not_nan}
use Rattle.window.proofs.Laws.{value_nan, value_infinite, value_finite, plain_value, plain_finite, special_infinite}
use Rattle.window.proofs.held_value.Goals as goal

pub float_from_bits-x : goal.float_from_bits-x
float_from_bits-x c = not_nan _ (plain_value _ (sym c.is_special-special.ensures ∙ c.if-not-special.true))

pub returns-then-not-special : goal.returns-then-not-special
returns-then-not-special c =
    let e = sym c.is_special-special.ensures ∙ c.if-not-special.true in
    value_finite _ (plain_value _ e) (plain_finite _ e)

pub returns-then-nan : goal.returns-then-nan
returns-then-nan c = value_nan _ (cc)

pub returns : goal.returns
returns c =
    let e = sym c.is_special-special.ensures ∙ c.if-not-special.false in
    let f = sym c.is_nan-nan.ensures ∙ c.if-nan.false in
    value_infinite _ f (special_infinite _ e f)
