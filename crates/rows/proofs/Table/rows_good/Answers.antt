-- `rows::rows_good` meets its contract: the rows left, behind the last one seen, are good exactly when all are. Assumes nothing.
use mathlib.Core.Path.{sym, ◌∙◌}
use native.Mathlib.Omega.{arith}
use Rattle.rows.specs.Checks.{passes, fails}
use Rattle.rows.proofs.Laws as laws
use Rattle.rows.proofs.Table.rows_good.Goals as goal

pub returns-then-self-eq0 : goal.returns-then-self-eq0
returns-then-self-eq0 c =
    let a = c.args in sym (laws.good_none a.self.now.bytes.now a.schemas c.if-self-eq0.true)

pub returns-in_default : goal.returns-in_default
returns-in_default c =
    let a = c.args in
    sym (laws.first_bad a.self.now.bytes.now a.self.now.count a.schemas (omega arith) (fails _ 1 c.checked_row.ensures c.in_default.is))

pub returns-then-first-ne0 : goal.returns-then-first-ne0
returns-then-first-ne0 c =
    let a = c.args in
    sym (laws.first-late a.self.now.bytes.now a.self.now.count a.schemas (omega arith) (passes _ 0 c.checked_row.ensures c.in-Ok.is).1 c.if-first-ne0.true)

pub loop-i-init : goal.loop-i-init
loop-i-init c =
    let a = c.args in
    record {
      in_rows = omega arith;
      behind = laws.first_on a.self.now.bytes.now a.self.now.count a.schemas (omega arith) (passes _ 0 c.checked_row.ensures c.in-Ok.is).1 (passes _ 0 c.checked_row.ensures c.in-Ok.is).0 c.if-first-ne0.false;
    }

pub returns-in_default-checked_row : goal.returns-in_default-checked_row
returns-in_default-checked_row c =
    let l = c.loop-i in
    let a = c.args in
    sym (laws.next_bad a.self.now.bytes.now a.self.now.count l.i a.schemas l.p c.loop-i-test.true (fails _ 1 c.checked_row-in-loop-i.ensures c.in_default-checked_row.is))
    ∙ l.invariant.behind

pub returns-then-not-next : goal.returns-then-not-next
returns-then-not-next c =
    let l = c.loop-i in
    let a = c.args in
    let late = sym c.row_follows-next.ensures ∙ c.if-not-next.true in
    sym (laws.next-late a.self.now.bytes.now a.self.now.count l.i a.schemas l.p c.loop-i-test.true (passes _ 0 c.checked_row-in-loop-i.ensures c.in-Ok-checked_row.is).1 late) ∙ l.invariant.behind

pub loop-i-preserved : goal.loop-i-preserved
loop-i-preserved c =
    let l = c.loop-i in
    let a = c.args in
    let t = c.loop-i-test.true in
    let on = sym c.row_follows-next.ensures ∙ c.if-not-next.false in
    let ok = passes _ 0 c.checked_row-in-loop-i.ensures c.in-Ok-checked_row.is in
    record {
      in_rows = omega (arith, t);
      behind = laws.next-on a.self.now.bytes.now a.self.now.count l.i a.schemas l.p t ok.1 ok.0 on ∙ l.invariant.behind;
    }

pub returns : goal.returns
returns c =
    let l = c.loop-i in
    let a = c.args in
    sym (laws.good_end a.self.now.bytes.now a.self.now.count l.i a.schemas l.p c.loop-i-test.false) ∙ l.invariant.behind
