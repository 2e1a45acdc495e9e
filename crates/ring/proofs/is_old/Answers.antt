-- `ring::is_old` meets its contract: the stamp against the one in its slot. Assumes nothing.
use mathlib.Core.Path.{◌≡◌, ◌∙◌, sym}
use Rattle.model.specs.Ring.{slot_of, is_old}
use Rattle.ring_theory.specs.Sound.{some_slots, slot_is}
use Rattle.ring.specs.Parts.{sized}
use Rattle.ring.proofs.is_old.Goals as goal

pub slot_of-slot-requires : goal.slot_of-slot-requires
slot_of-slot-requires c = (c.requires.interval_nonzero, some_slots c.requires.sound)

pub invariant_of-ring : goal.invariant_of-ring
invariant_of-ring c = record { sized = sized c.requires.sound }

pub returns : goal.returns
unfolding is_old
returns c =
    let slot = c.slot_of-slot in
    let e : slot_of c.args.slab.now c.args.stamp ≡ slot.result = slot_is c.requires.sound c.args.stamp ∙ sym slot.ensures.0 in
    rw (e, ← c.stamp-held.ensures)
