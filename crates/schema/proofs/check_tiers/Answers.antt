-- `schema::check_tiers` meets its contract: the tiers left are refused as all are. Assumes nothing.
use native.Mathlib.Omega.{arith}
use mathlib.Core.Path.{sym, ◌∙◌}
use Rattle.model.specs.Image.{tier_check}
use Rattle.std.proofs.lemmas.Result.{err_from_is_err_and}
use Rattle.rows.specs.Checks.{good}
use Rattle.rows.specs.First.{refusal_no}
use Rattle.schema.proofs.Laws.{tiers_skip, tiers_stop, tiers-on, checks_end}
use Rattle.schema.proofs.check_tiers.Goals as goal

pub loop-i-preserved-then-r-j : goal.loop-i-preserved-then-r-j
loop-i-preserved-then-r-j c =
    let l = c.loop-i in
    let a = c.args in
    let t = c.loop-i-test.true in
    record {
      in_rows = omega (arith, t);
      passed = rw (tiers_skip a.table.now.bytes.now a.table.now.count l.i a.j t c.row-r.ensures c.if-r-j.true) l.invariant.passed;
    }

pub returns-in_err-checked_tier : goal.returns-in_err-checked_tier
returns-in_err-checked_tier c =
    let l = c.loop-i in
    let a = c.args in
    let w = c.in_err-checked_tier.field-0.0 in
    let stopped = tiers_stop a.table.now.bytes.now a.table.now.count l.i a.j c.loop-i-test.true c.row-r.ensures c.if-r-j.false tier_check c.in_err-checked_tier.ensures.number (refusal_no w) in
    let p = err_from_is_err_and c.from_residual.result c.from_residual.ensures.1 in rw (p.1, p.2) (stopped ∙ l.invariant.passed)

pub loop-i-preserved : goal.loop-i-preserved
loop-i-preserved c =
    let l = c.loop-i in
    let a = c.args in
    let t = c.loop-i-test.true in
    let tier = (good c.checked_tier.ensures c.in_ok-checked_tier.was).0 in
    record {
      in_rows = omega (arith, t);
      passed = tiers-on a.table.now.bytes.now a.table.now.count l.i a.j t c.row-r.ensures c.if-r-j.false tier_check tier ∙ l.invariant.passed;
    }

pub returns : goal.returns
returns c =
    let l = c.loop-i in
    let a = c.args in
    sym (checks_end tier_check a.table.now.bytes.now a.table.now.count l.i a.j c.loop-i-test.false) ∙ l.invariant.passed
