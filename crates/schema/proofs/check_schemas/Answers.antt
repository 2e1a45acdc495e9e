-- `schema::check_schemas` meets its contract: the schemas left are refused as all are. Assumes nothing.
use native.Mathlib.Omega.{arith}
use mathlib.Core.Path.{sym, ◌∙◌}
use Rattle.model.specs.Image.{tier_check}
use Rattle.std.proofs.lemmas.Result.{err_from_is_err_and}
use Rattle.rows.specs.First.{accepted, refusal_no}
use Rattle.schema.proofs.Laws as laws
use Rattle.schema.proofs.check_schemas.Goals as goal

pub returns-in_err-check_schema : goal.returns-in_err-check_schema
returns-in_err-check_schema c =
    let l = c.loop-j in
    let k = c.args.k in
    let w = c.in_err-check_schema.field-0.0 in
    let stopped = laws.schemas_stop tier_check l.j k _ c.loop-j-test.true c.in_err-check_schema.ensures (refusal_no w) in
    let p = err_from_is_err_and c.from_residual.result c.from_residual.ensures.1 in rw (p.1, p.2) (stopped ∙ l.invariant.passed)

pub loop-j-preserved : goal.loop-j-preserved
loop-j-preserved c =
    let l = c.loop-j in
    let k = c.args.k in
    let t = c.loop-j-test.true in
    record {
      in_schemas = omega (arith, t);
      passed = laws.schemas-on tier_check l.j k _ t (sym c.check_schema.ensures ∙ accepted c.in_ok-check_schema.was) ∙ l.invariant.passed;
    }

pub returns : goal.returns
returns c =
    let l = c.loop-j in
    sym (laws.schemas_end tier_check l.j c.args.k _ c.loop-j-test.false) ∙ l.invariant.passed
