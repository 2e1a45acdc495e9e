-- `query::query_numbered` meets its contract: the refusal that `seek` found, or the answer of the row that it found. Assumes nothing.
use Rattle.std.proofs.lemmas.Result.{err_from_is_err_and}
use mathlib.Core.Path.{◌∙◌}
use Rattle.flag_bits.specs.Bits.{bits}
use Rattle.query.proofs.query_numbered.Goals as goal

pub returns : goal.returns
returns c =
    c.answer-found.ensures (bits 32 c.args.flags) c.flag_at-wrapped.ensures ∙ c.in_ok-row.ensures.replies (bits 32 c.args.flags)

pub returns-in_err-row : goal.returns-in_err-row
returns-in_err-row c =
    let p = err_from_is_err_and c.from_residual.result c.from_residual.ensures.1 in
    rw (p.1, p.2) (c.in_err-row.ensures (bits 32 c.args.flags))
