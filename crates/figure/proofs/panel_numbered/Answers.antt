-- `figure::panel_numbered` meets its contract: the refusal that `seek` found, or the last point of the row that it found. Assumes nothing.
use Rattle.std.proofs.lemmas.Result.{err_from_is_err_and}
use mathlib.Core.Path.{◌∙◌}
use Rattle.flag_bits.specs.Bits.{bits}
use Rattle.query.specs.Sought.{SoughtAt}
use Rattle.figure.proofs.Laws.{panel-row, panel_refused}
use Rattle.figure.proofs.panel_numbered.Goals as goal

pub flag_at-wrapped-requires : goal.flag_at-wrapped-requires
flag_at-wrapped-requires c =
    let row : let a = c.args in SoughtAt a.image.now.bytes.now a.handle.schema a.handle.column a.tier 0 18446744073709551615 c.in_ok-row.row = c.in_ok-row.ensures in
    row.few_rows

pub point_at-last-requires : goal.point_at-last-requires
point_at-last-requires c =
    let row : let a = c.args in SoughtAt a.image.now.bytes.now a.handle.schema a.handle.column a.tier 0 18446744073709551615 c.in_ok-row.row = c.in_ok-row.ensures in
    (row.there, row.column_there)

pub returns : goal.returns
returns c =
    let row : let a = c.args in SoughtAt a.image.now.bytes.now a.handle.schema a.handle.column a.tier 0 18446744073709551615 c.in_ok-row.row = c.in_ok-row.ensures in
    let a = c.args in
    let answer = panel-row a.image.now.bytes.now (bits 32 a.flags) a.handle.schema a.handle.column a.tier c.in_ok-row.row row c.flag_at-wrapped.ensures in
    c.shown_point.ensures ∙ rw c.point_at-last.ensures answer

pub returns-in_err-row : goal.returns-in_err-row
returns-in_err-row c =
    let a = c.args in
    let refused = panel_refused a.image.now.bytes.now (bits 32 a.flags) a.handle.schema a.handle.column a.tier c.in_err-row.field-0.0 (c.in_err-row.ensures (bits 32 a.flags)) in
    let p = err_from_is_err_and c.from_residual.result c.from_residual.ensures.1 in
    rw (p.1, p.2) refused
