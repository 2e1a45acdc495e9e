-- `query::query_auto` meets its contract: opening's refusal, or what `auto_numbered` answers. Assumes nothing.
use Rattle.std.proofs.lemmas.Result.{err_from_is_err_and}
use Rattle.query.proofs.Laws.{auto_not-opened}
use Rattle.query.proofs.query_auto.Goals as goal

pub returns-in_err-image : goal.returns-in_err-image
returns-in_err-image c =
    let a = c.args in
    let p = err_from_is_err_and c.from_residual.result c.from_residual.ensures.1 in
    rw (p.1, p.2) (auto_not-opened a.image.now a.flags.wrapped a.handle.schema a.handle.column a.start a.end _ c.in_err-image.ensures.refused)

pub returns : goal.returns
returns c = rw (← c.number_of-number.ensures.1, ← c.in_ok-image.ensures.opened) c.auto_numbered.ensures
