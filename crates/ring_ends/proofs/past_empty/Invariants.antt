use Rattle.ring_ends.proofs.Laws.{Same}
use Rattle.ring_ends.proofs.past_empty.Given as goal

abbrev pub invariant-loop-left : goal.invariant-loop-left
invariant-loop-left l = Same l.slab.bytes.now l.slab.slots l.initial.slot l.initial.left l.slot l.left

abbrev pub decreases-loop-left : goal.decreases-loop-left
decreases-loop-left l = l.left
