-- `schema::first_tier` meets its contract: rows of other schemas are skipped, so the tiers left are the tiers asked for. Assumes nothing.
use borrow.Author.Rules.{rules}
use native.Mathlib.Omega.{arith}
use mathlib.Core.Path.{sym, ◌∙◌}
use Rattle.schema.proofs.Laws.{tiers-take, tiers_skip, tiers_end}
use Rattle.schema.proofs.first_tier.Goals as goal

pub returns-then-r-j : goal.returns-then-r-j
returns-then-r-j c =
    let l = c.loop-i in
    let a = c.args in
    let t = c.loop-i-test.true in
    (sym l.invariant.skipped ∙ tiers-take a.table.now.bytes.now a.table.now.count l.i a.j t c.row-r.ensures c.if-r-j.true, omega (arith, t))

pub loop-i-preserved : goal.loop-i-preserved
loop-i-preserved c =
    let l = c.loop-i in
    let a = c.args in
    let t = c.loop-i-test.true in
    record {
      in_rows = omega (arith, t);
      skipped = tiers_skip a.table.now.bytes.now a.table.now.count l.i a.j t c.row-r.ensures c.if-r-j.false ∙ l.invariant.skipped;
    }

pub returns : goal.returns
returns c =
    let l = c.loop-i in
    let a = c.args in
    (sym l.invariant.skipped ∙ tiers_end a.table.now.bytes.now a.table.now.count l.i a.j c.loop-i-test.false, search rules)
