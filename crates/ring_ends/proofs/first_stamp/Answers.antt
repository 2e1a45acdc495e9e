-- `ring_ends::first_stamp` meets its contract. The loop's invariant: the first stamp from here on is the first stamp from the place on. Assumes nothing.
use Prim.Native.Nat.{◌-◌, ◌+◌}
use native.Mathlib.Omega.{arith}
use mathlib.Core.Path.{◌≡◌, sym, ◌∙◌}
use Rattle.ring_ends.proofs.Laws.{stamp_there, stamp-later, stamp_none}
use Rattle.ring_ends.proofs.first_stamp.Goals as goal

pub returns-then-stamp-ne0 : goal.returns-then-stamp-ne0
returns-then-stamp-ne0 c =
    let a = c.args in
    let l = c.loop in
    let t = c.stamp-stamp.ensures in
    t ∙ stamp_there a.slab.now.bytes.now a.slab.now.slots l.slot (a.place.left - l.counter) (omega arith) (λ e. c.if-stamp-ne0.true (t ∙ e)) ∙ l.invariant.first

pub loop-preserved : goal.loop-preserved
loop-preserved c =
    let a = c.args in
    let l = c.loop in
    let one_less : a.place.left - (l.counter + 1) ≡ a.place.left - l.counter - 1 = omega arith in
    let zero = sym c.stamp-stamp.ensures ∙ c.if-stamp-ne0.false in
    let later = stamp-later a.slab.now.bytes.now a.slab.now.slots l.slot (a.place.left - l.counter) (omega arith) zero in
    record { in_slots = c.next_slot-slot.ensures.1; first = rw (c.next_slot-slot.ensures.0, one_less) (sym later ∙ l.invariant.first) }

pub returns : goal.returns
returns c =
    let a = c.args in
    let l = c.loop in
    stamp_none a.slab.now.bytes.now a.slab.now.slots l.slot (a.place.left - l.counter) (omega arith) ∙ l.invariant.first
