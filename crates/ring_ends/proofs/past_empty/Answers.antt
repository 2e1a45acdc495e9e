-- `ring_ends::past_empty` meets its contract. The loop's invariant: the first stamp from here on is the first stamp from the place on. Assumes nothing.
use Prim.Native.Nat.{suc, ◌+◌}
use native.Mathlib.Omega.{arith}
use mathlib.Core.Path.{◌≡◌, sym, ap, ◌∙◌}
use mathlib.Core.Bool.{not}
use lib.Dec.{eqb}
use Rattle.ring_ends.proofs.Laws.{stamps_later}
use Rattle.ring_ends.proofs.past_empty.Goals as goal

pub loop-left-preserved : goal.loop-left-preserved
loop-left-preserved c =
    let l = c.loop-left in
    let a = c.args in
    let e : suc (l.slot + 7) ≡ l.slot + 8 = omega arith in
    let later = stamps_later a.slab.now.bytes.now a.slab.now.slots l.slot l.left 7 ((sym c.eight-eight.ensures ∙ ap (λ x. not (eqb x 0)) c.if-eight-ne0.false)) (omega arith) (omega arith) in
    record { in_slots = c.next_slot-slot.ensures.1; first = rw (c.next_slot-slot.ensures.0, e) (sym later ∙ l.invariant.first) }
