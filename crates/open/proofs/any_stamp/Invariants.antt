use Rattle.std.proofs.Common.{◌≡◌, ◌+◌, ◌*◌, ◌-◌}
use Rattle.model.specs.Ring.{any_stamp}
use Rattle.open.proofs.any_stamp.Given as goal

-- what is left of the search is the search
abbrev pub invariant-loop-group : goal.invariant-loop-group
invariant-loop-group l = any_stamp l.slab.bytes.now (l.first + 8 * l.group) (l.count - 8 * l.group) ≡ any_stamp l.slab.bytes.now l.first l.count
