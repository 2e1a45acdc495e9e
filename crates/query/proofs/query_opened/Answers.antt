-- `query::query_opened` meets its contract: the refusal that `seek` found, or the answer of the row that it found. Assumes nothing.
use Rattle.std.proofs.lemmas.Result.{err_from_is_err_and}
use mathlib.Core.Path.{◌∙◌}
use Rattle.query.proofs.query_opened.Goals as goal

pub returns : goal.returns
returns c =
    c.answer-found.ensures c.args.flags.wrapped c.flag-wrapped.ensures ∙ c.in_ok-row.ensures.replies c.args.flags.wrapped

pub returns-in_err-row : goal.returns-in_err-row
returns-in_err-row c =
    let p = err_from_is_err_and c.from_residual.result c.from_residual.ensures.1 in
    rw (p.1, p.2) (c.in_err-row.ensures c.args.flags.wrapped)
