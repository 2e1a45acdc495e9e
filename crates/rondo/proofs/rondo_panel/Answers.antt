-- `rondo::rondo_panel` meets its contract: opening's refusal, or what `figure::panel_numbered` answers, as numbers. Assumes nothing.
use Rattle.std.specs.Prelude.{Some, None, Ok}
use mathlib.Core.Path.{◌≡◌, ap, ◌∙◌}
use mir.Syntax.{w64}
use mir.Val.{to_z, of_z}
use Rattle.rondo.proofs.FigureLaws.{not-shown, number-shown, nothing_shown, panel_refused, panel_unopened}
use borrow.Author.Rules.{rules}
use Rattle.rondo.proofs.rondo_panel.Goals as goal

pub returns-then-opened-ne0 : goal.returns-then-opened-ne0
returns-then-opened-ne0 c =
    let n = c.check-opened in
    let w = not-shown _ _ _ (panel_unopened _ _ _ _ _ _ c.if-opened-ne0.true n.ensures) in
    record { number = w.0; presence = w.1.0; whole = w.1.1 }

pub returns-in-Ok-Some : goal.returns-in-Ok-Some
returns-in-Ok-Some c =
    let is : c.in-Ok-Some.field-0 ≡ Some c.in-Ok-Some.whole = rw c.in-Ok-Some.is at c.in-Ok-Some.field-0-is in
    let back : to_z w64 (of_z w64 c.in-Ok-Some.whole) ≡ c.in-Ok-Some.whole = search rules in
    let told = number-shown _ _ _ c.panel_numbered-reply.ensures (c.in-Ok-Some.is ∙ ap Ok is) in
    record { number = told.0; presence = told.1.0; whole = back ∙ told.1.1 }

pub returns-in-Ok-None : goal.returns-in-Ok-None
returns-in-Ok-None c =
    let is : c.in-Ok-None.field-0 ≡ None = rw c.in-Ok-None.is at c.in-Ok-None.field-0-is in
    let w = nothing_shown _ _ _ c.panel_numbered-reply.ensures (c.in-Ok-None.is ∙ ap Ok is) in
    record { number = w.0; presence = w.1.0; whole = w.1.1 }

pub returns-in-Err : goal.returns-in-Err
returns-in-Err c =
    let w = panel_refused _ _ _ c.panel_numbered-reply.ensures c.in-Err.is c.refusal_number.ensures in
    record { number = w.0; presence = w.1.0; whole = w.1.1 }
