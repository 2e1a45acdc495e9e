use Prim.Native.Nat.{◌-◌}
use Rattle.ring_ends.proofs.Laws.{Same}
use Rattle.ring_ends.proofs.first_stamp.Given as goal

abbrev pub invariant-loop : goal.invariant-loop
invariant-loop l = Same l.slab.bytes.now l.slab.slots l.initial.slot l.end l.slot (l.end - l.counter)
