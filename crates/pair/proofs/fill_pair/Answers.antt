-- `pair::fill_pair` meets its contract: what was filled is put back and closed as the definition closes it. Assumes nothing.
use Prim.Native.Nat.{suc, ◌<◌}
use native.Mathlib.Omega.{arith}
use mathlib.Core.Path.{refl}
use Rattle.pair.proofs.Rows.{row_inside, row_low}
use Rattle.pair.proofs.Laws.{pair_done}
use borrow.Author.Rules.{rules}
use Rattle.pair.proofs.fill_pair.Goals as goal

pub overflow_add-row : goal.overflow_add-row
overflow_add-row c =
    let low : suc c.args.row < 32 =
    let a = c.args in
    row_low a.image.now a.row c.requires.adjacent in
    omega (arith, low)

pub flag-wrapped-requires : goal.flag-wrapped-requires
flag-wrapped-requires c =
    let low : suc c.args.row < 32 =
    let a = c.args in
    row_low a.image.now a.row c.requires.adjacent in
    omega (arith, low)

pub fill_pair-passed-requires : goal.fill_pair-passed-requires
fill_pair-passed-requires c =
    let k = c.pair_at-p.ensures in record { lies = k.lies; outcome_value = (refl, omega (arith, k.few)) }

pub overflow_add-row-2 : goal.overflow_add-row-2
overflow_add-row-2 c =
    let low : suc c.args.row < 32 =
    let a = c.args in
    row_low a.image.now a.row c.requires.adjacent in
    omega (arith, low)

pub with_flag-after-requires : goal.with_flag-after-requires
with_flag-after-requires c =
    let low : suc c.args.row < 32 =
    let a = c.args in
    row_low a.image.now a.row c.requires.adjacent in
    omega (arith, low)

pub move_mark-requires : goal.move_mark-requires
move_mark-requires c = omega (arith, row_inside c.args.image.now c.args.row c.requires.adjacent c.args.row (omega arith), c.fill_pair-passed.ensures.keeps.0.long)

pub overflow_add-result : goal.overflow_add-result
overflow_add-result c = omega (arith, c.requires.row_value.1, c.fill_pair-passed.ensures.keeps.1, c.pair_at-p.ensures.few)

pub returns : goal.returns
returns c =
    let w = c.fill_pair-passed in
    let k = c.pair_at-p in
    let a = c.args in
    let done = pair_done a.image.now w.new.image a.u a.row a.f k.result k.ensures w.ensures.keeps.0 w.result.filling c.before-stamp.result
    c.flag-wrapped.ensures w.ensures.filling_after c.before-stamp.ensures c.move_mark.ensures c.with_flag-after.ensures in
    (done, omega (arith, w.ensures.keeps.1, k.ensures.few))
