-- `image_build::put_rows` meets its contract: the rows put so far and the rows left are all rows. Assumes nothing.
use Prim.Native.Nat.{◌+◌, ◌*◌, ◌≤◌}
use mathlib.Core.Path.{◌≡◌, sym, ap, ◌∙◌}
use native.Mathlib.Omega.{arith}
use lib.ListN.{length}
use Rattle.model.specs.Image.{row_at, row_length, row_bytes, placed_row}
use Rattle.layout.specs.Ends.{ends_on, ends_more}
use Rattle.laws.specs.Fresh.{length-row}
use Rattle.image_build.specs.Made.{lent-long, lent-kept, rows_turn, rows_none}
use Rattle.image_build.proofs.put_rows.Goals as goal

-- its length is not capped
len_is : (c : goal.After-row_length-len) → c.row_length-len.result ≡ row_length (row_at c.args.plan.now.bytes.now c.loop-i.i)
len_is c =
    let l = c.loop-i in
    let m = ends_more c.args.plan.now.bytes.now c.args.plan.now.count l.i c.loop-i-test.true l.at in
    omega (arith, c.row_length-len.ensures, ap row_length c.row-r.ensures, m, l.invariant.ends_low)

pub placed_row-q-requires : goal.placed_row-q-requires
placed_row-q-requires c = len_is c ∙ ap row_length (sym c.row-r.ensures)

pub put_row-requires : goal.put_row-requires
put_row-requires c =
    let rows_in : 32 + 64 * c.args.plan.now.count ≤ length c.loop-i.image = omega (arith, c.loop-i.invariant.same-long, c.requires.rows_in) in
    let l = c.loop-i in
    lent-long l.image (32 + 64 * l.i) 64 (omega (arith, c.loop-i-test.true, rows_in))

pub overflow_add-at-in-loop-i : goal.overflow_add-at-in-loop-i
overflow_add-at-in-loop-i c =
    let len_is : c.row_length-len.result ≡ row_length (row_at c.args.plan.now.bytes.now c.loop-i.i) =
    let l = c.loop-i in
    let m = ends_more c.args.plan.now.bytes.now c.args.plan.now.count l.i c.loop-i-test.true l.at in
    omega (arith, c.row_length-len.ensures, ap row_length c.row-r.ensures, m, l.invariant.ends_low) in
    let l = c.loop-i in
    omega (arith, len_is, ends_more c.args.plan.now.bytes.now c.args.plan.now.count l.i c.loop-i-test.true l.at, l.invariant.ends_low)

pub loop-i-preserved : goal.loop-i-preserved
loop-i-preserved c =
    let put_is : c.put_row.new.row ≡ row_bytes (placed_row (row_at c.args.plan.now.bytes.now c.loop-i.i) c.loop-i.at) =
    let at = c.loop-i.at in
    c.put_row.ensures ∙ ap row_bytes (c.placed_row-q.ensures ∙ ap (λ r. placed_row r at) c.row-r.ensures) in
    let len_is : c.row_length-len.result ≡ row_length (row_at c.args.plan.now.bytes.now c.loop-i.i) =
    let l = c.loop-i in
    let m = ends_more c.args.plan.now.bytes.now c.args.plan.now.count l.i c.loop-i-test.true l.at in
    omega (arith, c.row_length-len.ensures, ap row_length c.row-r.ensures, m, l.invariant.ends_low) in
    let rows_in : 32 + 64 * c.args.plan.now.count ≤ length c.loop-i.image = omega (arith, c.loop-i.invariant.same-long, c.requires.rows_in) in
    let l = c.loop-i in
    let n = c.args.plan.now.count in
    let h = c.loop-i-test.true in
    let room = rows_in in
    let len = len_is in
    let put-long = ap length put_is ∙ length-row (placed_row (row_at c.args.plan.now.bytes.now c.loop-i.i) l.at) in
    record {
      in_rows = omega (arith, h);
      same-long = lent-kept l.image (32 + 64 * l.i) 64 c.put_row.new.row (omega (arith, h, room)) put-long ∙ l.invariant.same-long;
      ends_low = rw (len, ← ends_on c.args.plan.now.bytes.now n l.i h l.at) l.invariant.ends_low;
      put = rows_turn c.args.plan.now.bytes.now n l.i h l.image l.at room len put_is ∙ l.invariant.put;
    }

pub returns : goal.returns
returns c =
    let a = c.args in
    let l = c.loop-i in
    sym (rows_none a.plan.now.bytes.now a.plan.now.count l.i l.image (32 + 64 * l.i) l.at c.loop-i-test.false) ∙ l.invariant.put
