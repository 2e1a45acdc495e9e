-- `query::query` meets its contract: opening's refusal, or what `query_opened` answers. Assumes nothing.
use Rattle.std.proofs.lemmas.Result.{err_from_is_err_and}
use Rattle.query.proofs.Laws.{not_opened}
use Rattle.query.proofs.query.Goals as goal

pub returns-in_err-image : goal.returns-in_err-image
returns-in_err-image c =
    let a = c.args in
    let p = err_from_is_err_and c.from_residual.result c.from_residual.ensures.1 in
    rw (p.1, p.2) (not_opened a.image.now a.flags.wrapped a.handle.schema a.handle.column a.start a.end _ c.in_err-image.ensures.refused a.tier)

pub returns : goal.returns
returns c = rw (← c.in_ok-image.ensures.opened) c.query_opened.ensures
