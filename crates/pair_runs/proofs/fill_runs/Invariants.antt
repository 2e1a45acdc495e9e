use Rattle.std.specs.Prelude.{Ok}
use Prim.Native.Nat.{ℕ, ◌+◌, ◌*◌, ◌≤◌, ◌<◌}
use mathlib.Core.Path.{◌≡◌}
use mathlib.Core.List.{List}
use Rattle.model.specs.Ring.{walk}
use Rattle.window_runs.specs.Rest.{Rest}
use Rattle.window_write.specs.declared.Filling.{Filling}
use Rattle.pair_fill.specs.declared.Pair.{Pair}
use Rattle.pair_fill.specs.Parts.{Keeps, pair_job, filled_in}
use Rattle.pair_runs.specs.Parts.{all_filled}
use Rattle.pair_runs.proofs.fill_runs.Given as goal

-- the image was s0, and is s; these slots are left
pub record Running (s0 s : List ℕ) (p : Pair) (filling done : Filling) (slot left : ℕ) : Type 0 where
  pub slot_in : slot < p.reading.slots
  pub few_left : left ≤ p.reading.slots
  pub keeps : Keeps s0 s p
  pub fine : done.outcome ≡ Ok tt
  pub few : done.writes + p.reading.series * left ≤ filling.writes + p.reading.series * p.reading.slots
  pub rest : Rest (pair_job s0 p) p.reading.series (all_filled s0 p filling) (filled_in s p done)
      (walk p.reading.slots slot left)

abbrev pub invariant-loop-here : goal.invariant-loop-here
invariant-loop-here l = Running l.initial.image l.image l.p l.initial.done l.done l.here.slot l.here.left

abbrev pub decreases-loop-here : goal.decreases-loop-here
decreases-loop-here l = l.here.left
