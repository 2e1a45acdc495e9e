use Prim.Native.Nat.{◌-◌}
use Rattle.tiers.proofs.Laws.{Choosing}
use Rattle.tiers.proofs.choose_behind.Given as goal

abbrev pub invariant-loop-wrapped : goal.invariant-loop-wrapped
invariant-loop-wrapped l = Choosing l.image.bytes.now l.flags l.schema l.first l.start l.end l.best.tier l.best.reach l.tier

abbrev pub decreases-loop-wrapped : goal.decreases-loop-wrapped
decreases-loop-wrapped l = 33 - l.tier
