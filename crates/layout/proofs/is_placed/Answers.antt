-- `layout::is_placed` meets its contract: the test so far and the rows left are placed exactly when all are. Assumes nothing.
use Prim.Native.Nat.{◌+◌, ◌≤◌}
use mathlib.Core.Path.{◌≡◌, sym, ap, ◌∙◌}
use native.Mathlib.Omega.{arith}
use Rattle.model.specs.Image.{row_at, row_length}
use Rattle.layout.specs.Ends.{ends_on, ends_more}
use Rattle.layout.proofs.Laws.{placed_more, placed_end}
use Rattle.layout.proofs.is_placed.Goals as goal

pub overflow_add-at-in-loop-i : goal.overflow_add-at-in-loop-i
overflow_add-at-in-loop-i c =
    let more : let l = c.loop-i in l.at + row_length (row_at c.args.table.now.bytes.now l.i) ≤ 1099511627776 =
    let l = c.loop-i in
    omega (arith, ends_more c.args.table.now.bytes.now c.args.table.now.count l.i c.loop-i-test.true l.at, l.invariant.ends_low) in
    let len_is : c.row_length-l.result ≡ row_length (row_at c.args.table.now.bytes.now c.loop-i.i) = omega (arith, c.row_length-l.ensures, ap row_length c.row-r.ensures, more) in
    omega (arith, len_is, more)

pub loop-i-preserved : goal.loop-i-preserved
loop-i-preserved c =
    let more : let l = c.loop-i in l.at + row_length (row_at c.args.table.now.bytes.now l.i) ≤ 1099511627776 =
    let l = c.loop-i in
    omega (arith, ends_more c.args.table.now.bytes.now c.args.table.now.count l.i c.loop-i-test.true l.at, l.invariant.ends_low) in
    let len_is : c.row_length-l.result ≡ row_length (row_at c.args.table.now.bytes.now c.loop-i.i) = omega (arith, c.row_length-l.ensures, ap row_length c.row-r.ensures, more) in
    let l = c.loop-i in
    let n = c.args.table.now.count in
    let t = c.loop-i-test.true in
    let r = c.row-r in
    record {
      in_rows = omega (arith, t);
      ends_low = rw (len_is, ← ends_on c.args.table.now.bytes.now n l.i t l.at) l.invariant.ends_low;
      tested = placed_more c.args.table.now.bytes.now n l.i l.at t l.good r.result c.row_length-l.result r.ensures len_is ∙ l.invariant.tested;
    }

pub returns : goal.returns
returns c =
    let a = c.args in
    let l = c.loop-i in
    sym (placed_end a.table.now.bytes.now a.table.now.count l.i l.at l.good c.loop-i-test.false) ∙ l.invariant.tested
