-- `rondo::rondo_service` meets its contract: opening's refusal, or what `figure::service_numbered` answers, as numbers. Assumes nothing.
use Rattle.std.specs.Prelude.{Some, None, Ok}
use mathlib.Core.Path.{◌≡◌, ap, ◌∙◌}
use Rattle.rondo.proofs.FigureLaws.{not_served_lem, figure_served, nothing_served, service_refused, service_unopened}
use Rattle.rondo.proofs.rondo_service.Goals as goal

pub returns-then-opened-ne0 : goal.returns-then-opened-ne0
returns-then-opened-ne0 c =
    let n = c.check-opened in
    let w = not_served_lem _ _ (service_unopened _ _ _ _ _ _ c.if-opened-ne0.true n.ensures) in
    record { number = w.0; words = w.1 }

pub returns-in-Ok-Some : goal.returns-in-Ok-Some
returns-in-Ok-Some c =
    let is : c.in-Ok-Some.field-0 ≡ Some c.in-Ok-Some.f = rw c.in-Ok-Some.is at c.in-Ok-Some.field-0-is in
    let w = figure_served _ _ c.service_numbered-reply.ensures (c.in-Ok-Some.is ∙ ap Ok is) c.figure_words.ensures in
    record { number = w.0; words = w.1 }

pub returns-in-Ok-None : goal.returns-in-Ok-None
returns-in-Ok-None c =
    let is : c.in-Ok-None.field-0 ≡ None = rw c.in-Ok-None.is at c.in-Ok-None.field-0-is in
    let w = nothing_served _ _ c.service_numbered-reply.ensures (c.in-Ok-None.is ∙ ap Ok is) in
    record { number = w.0; words = w.1 }

pub returns-in-Err : goal.returns-in-Err
returns-in-Err c =
    let w = service_refused _ _ c.service_numbered-reply.ensures c.in-Err.is c.refusal_number.ensures in
    record { number = w.0; words = w.1 }
