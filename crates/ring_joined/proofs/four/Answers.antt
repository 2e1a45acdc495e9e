-- `ring_joined::four` meets its contract: four slots read, in order. Assumes nothing.
use Rattle.ring_joined.specs.Slots.{four-slots}
use Rattle.ring_joined.proofs.four.Goals as goal

pub returns : goal.returns
returns c =
    let a = c.args in
    four-slots a.slab.now.bytes.now a.slot c.stamp-t0.ensures c.stamp-t1.ensures c.stamp-t2.ensures c.stamp-t3.ensures
