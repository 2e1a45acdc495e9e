-- `layout::image_length` meets its contract: the end so far and the rows left end where all end. Assumes nothing.
use mathlib.Core.Path.{◌≡◌, sym, ap, ◌∙◌}
use native.Mathlib.Omega.{arith}
use Rattle.model.specs.Image.{row_at, row_length}
use Rattle.layout.specs.Ends.{capped, ends_on, ends_end}
use Rattle.layout.proofs.Laws.{ends-over}
use Rattle.layout.proofs.image_length.Goals as goal

pub returns-then-l-at : goal.returns-then-l-at
returns-then-l-at c =
    let l = c.loop-i in
    let over = ends-over c.args.table.now.bytes.now c.args.table.now.count l.i l.at c.row_length-l.result c.loop-i-test.true ((c.row_length-l.ensures ∙ ap (λ r. capped (row_length r)) c.row-r.ensures)) (omega arith) in
    omega (arith, over, l.invariant.same_end)

pub loop-i-preserved : goal.loop-i-preserved
loop-i-preserved c =
    let l = c.loop-i in
    let t = c.loop-i-test.true in
    let f : c.row_length-l.result ≡ row_length (row_at c.args.table.now.bytes.now l.i) = omega (arith, (c.row_length-l.ensures ∙ ap (λ r. capped (row_length r)) c.row-r.ensures), l.invariant.low) in
    record {
      in_rows = omega (arith, t);
      low = omega (arith, l.invariant.low);
      same_end = rw f (sym (ends_on c.args.table.now.bytes.now c.args.table.now.count l.i t l.at) ∙ l.invariant.same_end);
    }

pub returns : goal.returns
returns c =
    let a = c.args in
    let l = c.loop-i in
    omega (arith, ends_end a.table.now.bytes.now a.table.now.count l.i l.at c.loop-i-test.false, l.invariant.same_end, l.invariant.low)
