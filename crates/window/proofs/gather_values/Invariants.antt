use Prim.Native.Nat.{ℕ, ◌<◌, ◌≤◌}
use mathlib.Core.List.{List}
use Rattle.window.specs.declared.Reading.{Reading}
use Rattle.window.specs.declared.Gathered.{Gathered}
use Rattle.window.specs.Gather.{SoFar}
use Rattle.window.proofs.gather_values.Given as goal

-- after `passed` slots of the `left`
pub record Inv (s : List ℕ) (q : Reading) (window column slot₀ left : ℕ) (g : Gathered) (slot passed : ℕ) : Type 0 where
  pub in_slots : slot < q.slots
  pub few : left ≤ q.slots
  pub so_far : SoFar s q window column slot₀ passed slot g

abbrev pub invariant-loop : goal.invariant-loop
invariant-loop l = Inv l.slab l.q l.window l.column l.initial.slot l.end l.g l.slot l.counter
