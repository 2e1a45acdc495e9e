-- `ring_joined::eight` meets its contract: four slots, and four. Assumes nothing.
use Rattle.ring_joined.specs.Slots.{eight_slots}
use Rattle.ring_joined.proofs.eight.Goals as goal

pub returns : goal.returns
returns c =
    let a = c.args in
    let low = c.four-low in
    eight_slots a.slab.now.bytes.now a.slot low.result c.four-high.result low.ensures c.four-high.ensures
