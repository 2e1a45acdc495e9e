use Prim.Native.Nat.{ℕ, ◌+◌, ◌-◌, ◌%◌, ◌≤◌}
use mathlib.Core.List.{List}
use Rattle.model.specs.declared.Place.{Place}
use Rattle.model.specs.Ring.{walk}
use Rattle.window.specs.declared.Reading.{Reading}
use Rattle.window.specs.Parts.{job_in}
use Rattle.window_theory.specs.Cut.{onward}
use Rattle.window_runs.specs.Strand.{Edged}
use Rattle.window_runs.proofs.Laws.{place_at}
use Rattle.window_runs.proofs.edge_of.Given as goal

-- the slots from v on are met, up to where the reading ends, and of these the part is known
pub record Met (s : List ℕ) (q : Reading) (start : ℕ) (place : Place) (end low head v : ℕ) : Type 0 where
  pub from_first : place.slot ≤ v
  pub v_in : v ≤ place.slot + place.left
  pub head_in : head ≤ place.slot + place.left
  pub edged : Edged (onward (job_in s q) start) q.slots (walk q.slots (v % q.slots) (place.slot + place.left - v)) end low (place_at q.slots (place.slot + place.left) head)

abbrev pub invariant-loop-v : goal.invariant-loop-v
invariant-loop-v l = Met l.slab l.q l.start l.fn.place l.end l.low l.head l.v
