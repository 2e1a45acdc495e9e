-- `figure::service` meets its contract: opening's refusal, or what `service_numbered` answers. Assumes nothing.
use Rattle.std.proofs.lemmas.Result.{err_from_is_err_and}
use Rattle.query.proofs.Laws.{not_opened}
use Rattle.figure.proofs.Laws.{service_refused}
use Rattle.figure.proofs.service.Goals as goal

pub returns-in_err-image : goal.returns-in_err-image
returns-in_err-image c =
    let a = c.args in
    let reading = not_opened a.image.now a.flags.wrapped a.handle.schema a.handle.column 0 18446744073709551615 _ c.in_err-image.ensures.refused a.tier in
    let p = err_from_is_err_and c.from_residual.result c.from_residual.ensures.1 in
    rw (p.1, p.2) (service_refused a.image.now a.flags.wrapped a.handle.schema a.handle.column a.tier _ reading)

pub returns : goal.returns
returns c = rw (← c.number_of-number.ensures.1, ← c.in_ok-image.ensures.opened) c.service_numbered.ensures
