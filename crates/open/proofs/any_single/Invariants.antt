use Rattle.std.proofs.Common.{◌≡◌, ◌+◌, ◌-◌}
use Rattle.model.specs.Ring.{any_stamp}
use Rattle.open.proofs.any_single.Given as goal

-- what is left of the search is the search
abbrev pub invariant-loop-slot : goal.invariant-loop-slot
invariant-loop-slot l = any_stamp l.slab.bytes.now l.slot (l.first + l.count - l.slot) ≡ any_stamp l.slab.bytes.now l.first l.count
