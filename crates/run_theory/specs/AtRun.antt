-- What a run between two calls leaves. Assumes nothing.
use Prim.Native.Nat.{ℕ, ◌<◌}
use Rattle.std.specs.Prelude.{◌≡◌, true, List}
use Rattle.model.specs.Consolidate.{run}
use Rattle.model.specs.Consolidate as C
use Rattle.demand.specs.Demand.{Sample, Event, last_of, scheduled}
use Rattle.sample_theory.specs.Schedule.{last_stamp}
use Rattle.run_theory.specs.Setup.{Setup, interval_of, first_no}
use Rattle.run_theory.specs.Run.{Settled}
use Rattle.run_theory.specs.Between.{Between}

-- the run v was not refused, and left every tier with its numbers of e ticks
pub record RanOn (S : Setup) (v : C.Run) (ys : List Sample) (rest : List Event) : Type 0 where
  pub fine : v.refusal ≡ 0
  pub e : ℕ
  pub pos : 0 < e
  pub settled : Settled S v.lent e
  pub store : Between S v.lent ys e e
  pub on_schedule : scheduled S.coarsest (last_of ys) (last_stamp (interval_of S 0) (first_no S 0) e) rest ≡ true
