use Rattle.std.proofs.Common.{◌≡◌, ◌++◌, take, flat_map}
use Rattle.model.specs.Bytes.{bytes}
use Rattle.owned.proofs.put_halves.Given as goal

abbrev pub invariant-loop-half : goal.invariant-loop-half
invariant-loop-half l = l.plan.items ≡ l.initial.plan.items ++ flat_map (bytes 4) (take l.half-index l.halves)
