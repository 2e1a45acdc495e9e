-- `image::check_layout` meets its contract: the schemas' refusal, then 8. Assumes nothing.
use Rattle.std.proofs.lemmas.Result.{err_from_is_err_and}
use mathlib.Core.Path.{◌≡◌, sym, ap, ◌∙◌}
use native.Mathlib.Omega.{arith}
use Rattle.model.specs.Words.{number_of, outcome_no}
use Rattle.model.specs.Image.{tier_check, row_count, schemas, schema_checks}
use Rattle.rows.specs.Rows.{sizes, rows_to}
use Rattle.rows.specs.First.{accepted, refusal_no}
use Rattle.image.specs.Ways as ways
use Rattle.image.proofs.check_layout.Goals as goal

pub get_u32-k-requires : goal.get_u32-k-requires
get_u32-k-requires c =
    let z = sizes c.args.s.now c.requires in omega arith

pub of-table-requires : goal.of-table-requires
of-table-requires c =
    let z = sizes c.args.s.now c.requires in z.there

pub returns-in_err-check_schemas : goal.returns-in_err-check_schemas
unfolding row_count schemas
returns-in_err-check_schemas c =
    let w = c.in_err-check_schemas.field-0.0 in
    let refused : number_of w ≡ outcome_no c.check_schemas.result = ap outcome_no (sym c.in_err-check_schemas.was) in
    let checks_are : outcome_no c.check_schemas.result ≡ schema_checks tier_check 0 (schemas c.args.s.now) (rows_to c.args.s.now (row_count c.args.s.now) 0) = cc in
    let p = err_from_is_err_and c.from_residual.result c.from_residual.ensures.1 in rw (p.1, p.2) (ways.layout_schemas c.args.s.now tier_check (refused ∙ checks_are) (refusal_no w))

pub returns-then-l-gt-LIMIT : goal.returns-then-l-gt-LIMIT
unfolding row_count schemas
returns-then-l-gt-LIMIT c =
    let checks_are : outcome_no c.check_schemas.result ≡ schema_checks tier_check 0 (schemas c.args.s.now) (rows_to c.args.s.now (row_count c.args.s.now) 0) = cc in
    let schemas-good : let s = c.args.s.now in schema_checks tier_check 0 (schemas s) (rows_to s (row_count s) 0) ≡ 0 = sym checks_are ∙ accepted c.in_ok-check_schemas.was in
    ways.layout_8 c.args.s.now tier_check schemas-good (omega arith)

pub returns : goal.returns
unfolding row_count schemas
returns c =
    let checks_are : outcome_no c.check_schemas.result ≡ schema_checks tier_check 0 (schemas c.args.s.now) (rows_to c.args.s.now (row_count c.args.s.now) 0) = cc in
    let schemas-good : let s = c.args.s.now in schema_checks tier_check 0 (schemas s) (rows_to s (row_count s) 0) ≡ 0 = sym checks_are ∙ accepted c.in_ok-check_schemas.was in
    ways.layout_0 c.args.s.now tier_check schemas-good (omega arith)
