-- `record::ready` meets its contract: opening's refusal, or what `ready_opened` answers. Assumes nothing.
use Rattle.std.proofs.lemmas.Result.{err_from_is_err_and}
use Rattle.rows.specs.First.{refusal_no}
use Rattle.record.specs.Ready.{unopened}
use Rattle.record.proofs.ready.Goals as goal

pub returns-in_err-image : goal.returns-in_err-image
returns-in_err-image c =
    let p = err_from_is_err_and c.from_residual.result c.from_residual.ensures.1 in
    rw (p.1, p.2) (λ bs. unopened _ bs _ _ _ _ _ (refusal_no c.in_err-image.field-0.0) c.in_err-image.ensures.refused)

pub returns : goal.returns
returns c = rw (← c.in_ok-image.ensures.opened) c.ready_opened.ensures
