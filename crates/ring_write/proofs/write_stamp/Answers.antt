-- `ring_write::write_stamp` meets its contract: the stamp's place is in the slab and behind its header. Assumes nothing.
use mathlib.Core.Path.{◌≡◌}
use Rattle.model.specs.Bytes.{put}
use Rattle.model.specs.Ring.{stamp_at}
use Rattle.laws.specs.Slab.{stamp_place, stamp_at_high}
use Rattle.ring_theory.specs.Sound.{some_slots}
use Rattle.ring.specs.Parts.{sized}
use Rattle.ring_write.proofs.Laws.{sound-put}
use Rattle.ring_write.proofs.write_stamp.Goals as goal

pub slot_of-slot-requires : goal.slot_of-slot-requires
slot_of-slot-requires c = (c.requires.interval_nonzero, some_slots c.requires.sound)

pub invariant_of-before : goal.invariant_of-before
invariant_of-before c = record { sized = sized c.requires.sound }

pub returns : goal.returns
returns c =
    let slot = c.slot_of-slot in
    let s = c.args.slab.now in
    let at : c.stamp_place-at.result ≡ stamp_at s slot.result = cc (stamp_place s c.requires.sound.series-is slot.result) in
    let e : c.put_u64.new.s ≡ put 8 s (stamp_at s slot.result) c.args.stamp = cc in
    record {
      slot_is = slot.ensures.0;
      slot_in = slot.ensures.1;
      flag_is = cc;
      slab-is = e;
      sound = rw e (sound-put c.requires.sound _ _ (stamp_at_high s slot.result));
    }
