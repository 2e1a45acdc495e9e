use Prim.Native.Nat.{◌-◌}
use Rattle.figure_point.proofs.Laws.{Same}
use Rattle.figure_point.proofs.back_from.Given as goal

abbrev pub invariant-loop : goal.invariant-loop
invariant-loop l = Same l.slab.bytes.now l.column l.slab.slots l.initial.slot l.end l.slot (l.end - l.counter)
