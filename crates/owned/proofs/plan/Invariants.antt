use Rattle.std.proofs.Common.{◌≡◌, ◌++◌, length, take}
use Rattle.model.specs.Image.{all_rows}
use Rattle.owned.specs.Plan.{plan_header, plan_rows}
use Rattle.owned.proofs.plan.Given as goal

abbrev pub invariant-loop-i : goal.invariant-loop-i
invariant-loop-i l = l.plan.items ≡ plan_header (length l.tiers) ++ all_rows (plan_rows 0 (take l.i l.tiers))
