-- `rows::rows_blank` meets its contract: the test so far and the rows left are blank exactly when all are. Assumes nothing.
use mathlib.Core.Path.{sym, ap, ◌∙◌}
use native.Mathlib.Omega.{arith}
use Rattle.model.specs.Image.{blank_row}
use Rattle.rows.proofs.Laws.{every_more, every_end}
use Rattle.rows.proofs.Table.rows_blank.Goals as goal

pub loop-i-preserved : goal.loop-i-preserved
loop-i-preserved c =
    let l = c.loop-i in
    let a = c.args in
    let one = c.row_blank-one.ensures ∙ ap blank_row c.row-r.ensures in
    record {
      in_rows = omega (arith, c.loop-i-test.true);
      tested = every_more a.self.now.bytes.now a.self.now.count l.i blank_row l.good c.loop-i-test.true one ∙ l.invariant.tested;
    }

pub returns : goal.returns
returns c =
    let l = c.loop-i in
    let a = c.args in
    sym (every_end a.self.now.bytes.now a.self.now.count l.i blank_row l.good c.loop-i-test.false) ∙ l.invariant.tested
