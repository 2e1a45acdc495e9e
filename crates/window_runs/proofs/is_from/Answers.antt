-- `window_runs::is_from` meets its contract, one case a return. Assumes nothing.
use mathlib.Core.Path.{sym, ◌∙◌}
use native.Mathlib.Omega.{arith}
use Prim.Native.Nat.{◌+◌}
use Rattle.window_runs.proofs.Laws.{not-inside, below_limit, from-limit}
use Rattle.window_runs.proofs.is_from.Goals as goal

pub returns-then-not-inside : goal.returns-then-not-inside
returns-then-not-inside c =
    let a = c.args in not-inside a.q.start a.q.end (a.window + a.width) a.stamp (sym c.in_range-inside.ensures ∙ c.if-not-inside.true)

pub returns-then-stamp-window : goal.returns-then-stamp-window
returns-then-stamp-window c =
    let a = c.args in below_limit a.q.start a.q.end (a.window + a.width) a.stamp (sym c.in_range-inside.ensures ∙ c.if-not-inside.false) (omega (arith, c.if-stamp-window.true))

pub returns : goal.returns
returns c =
    let a = c.args in from-limit a.q.start a.q.end a.window a.width a.stamp (sym c.in_range-inside.ensures ∙ c.if-not-inside.false) (omega (arith, c.if-stamp-window.false))
