-- `figure_point::back_from` meets its contract. The loop's invariant: going backward from here finds what it does from the place on. Assumes nothing.
use Prim.Native.Nat.{◌+◌, ◌-◌}
use native.Mathlib.Omega.{arith}
use mathlib.Core.Path.{◌≡◌, sym, ◌∙◌}
use mathlib.Core.Bool.{false}
use Rattle.model.specs.Ring.{is_nan_bits, cell}
use Rattle.model.specs.Figure.{end_of_time}
use Rattle.figure_point.proofs.Laws.{is-handed, nan_not-handed, late-not-handed, same_next, back_there, back_none}
use Rattle.figure_point.proofs.back_from.Goals as goal

pub loop-preserved-then-nan : goal.loop-preserved-then-nan
loop-preserved-then-nan c =
    let a = c.args in
    let l = c.loop in
    let passed = nan_not-handed a.slab.now.bytes.now a.column a.slab.now.slots l.slot (a.place.left - l.counter) (rw (← c.cell-value.ensures) (sym c.is_nan-nan.ensures ∙ c.if-nan.true)) in
    let one_less : a.place.left - (l.counter + 1) ≡ a.place.left - l.counter - 1 = omega arith in
    rw one_less (same_next _ l.invariant (omega arith) passed c.slot_before-slot.ensures)

pub returns-then-stamp-lt-END_OF_TIME : goal.returns-then-stamp-lt-END_OF_TIME
unfolding end_of_time
returns-then-stamp-lt-END_OF_TIME c =
    let number : let a = c.args in is_nan_bits (cell a.slab.now.bytes.now a.column c.loop.slot) ≡ false = rw (← c.cell-value.ensures) (sym c.is_nan-nan.ensures ∙ c.if-nan.false) in
    let a = c.args in
    let l = c.loop in
    let t = c.stamp-stamp.ensures in
    let handed = is-handed a.slab.now.bytes.now a.column a.slab.now.slots l.slot (a.place.left - l.counter) (rw t at c.if-stamp-lt-END_OF_TIME.true) number in
    rw (t, c.cell-value.ensures) (back_there a.slab.now.bytes.now a.column a.slab.now.slots l.slot (a.place.left - l.counter) (omega arith) handed ∙ l.invariant.finds)

pub loop-preserved : goal.loop-preserved
unfolding end_of_time
loop-preserved c =
    let a = c.args in
    let l = c.loop in
    let one_less : a.place.left - (l.counter + 1) ≡ a.place.left - l.counter - 1 = omega arith in
    rw one_less (same_next _ l.invariant (omega arith) (late-not-handed a.slab.now.bytes.now a.column a.slab.now.slots l.slot (a.place.left - l.counter) (rw c.stamp-stamp.ensures at c.if-stamp-lt-END_OF_TIME.false)) c.slot_before-slot.ensures)

pub returns : goal.returns
returns c =
    let a = c.args in
    let l = c.loop in
    back_none a.slab.now.bytes.now a.column a.slab.now.slots l.slot (a.place.left - l.counter) (omega arith) ∙ l.invariant.finds
