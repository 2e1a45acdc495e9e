-- `schema::is_rising` meets its contract: the test so far and the tiers left rise exactly when all do. Assumes nothing.
use native.Mathlib.Omega.{arith}
use mathlib.Core.Path.{sym, ◌∙◌}
use Rattle.schema.proofs.Laws.{tiers_skip, rising-on, rising_end}
use Rattle.schema.proofs.is_rising.Goals as goal

pub loop-i-preserved-then-r-j : goal.loop-i-preserved-then-r-j
loop-i-preserved-then-r-j c =
    let l = c.loop-i in
    let a = c.args in
    let t = c.loop-i-test.true in
    record {
      in_rows = omega (arith, t);
      rises = rw (tiers_skip a.table.now.bytes.now a.table.now.count l.i a.j t c.row-r.ensures c.if-r-j.true) l.invariant.rises;
    }

pub loop-i-preserved : goal.loop-i-preserved
loop-i-preserved c =
    let l = c.loop-i in
    let a = c.args in
    let t = c.loop-i-test.true in
    record {
      in_rows = omega (arith, t);
      rises = rising-on a.table.now.bytes.now a.table.now.count l.i a.j t c.row-r.ensures c.if-r-j.false l.good l.finer ∙ l.invariant.rises;
    }

pub returns : goal.returns
returns c =
    let l = c.loop-i in
    let a = c.args in
    sym (rising_end a.table.now.bytes.now a.table.now.count l.i a.j l.good l.finer c.loop-i-test.false) ∙ l.invariant.rises
