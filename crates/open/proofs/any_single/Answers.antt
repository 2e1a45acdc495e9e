-- `open::any_single` meets its contract: what is left of the search is the search. Assumes nothing.
use Rattle.std.proofs.Common.{arith, ◌≡◌, ◌+◌, ◌-◌, ◌∙◌}
use Rattle.ring_joined.specs.Slots.{one_slot_lem, piece_some, piece_none, piece_last}
use Rattle.open.proofs.any_single.Goals as goal

pub returns-then-t-ne0 : goal.returns-then-t-ne0
returns-then-t-ne0 c =
    let l = c.loop-slot in
    piece_some _ l.slot _ 1 (omega arith) _ (one_slot_lem _ _ c.stamp-t.ensures) c.if-t-ne0.true ∙ l.invariant

pub loop-slot-preserved : goal.loop-slot-preserved
loop-slot-preserved c =
    let l = c.loop-slot in
    let a = c.args in
    let one : a.first + a.count - (l.slot + 1) ≡ a.first + a.count - l.slot - 1 = omega arith in
    rw one (piece_none _ l.slot _ 1 (omega arith) _ (one_slot_lem _ _ c.stamp-t.ensures) c.if-t-ne0.false ∙ l.invariant)

pub returns : goal.returns
returns c =
    let l = c.loop-slot in
    let a = c.args in
    let none : a.first + a.count - l.slot ≡ 0 = omega arith in
    piece_last _ l.slot ∙ rw none at l.invariant
