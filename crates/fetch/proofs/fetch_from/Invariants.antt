use Prim.Native.Nat.{ℕ, ◌-◌, ◌≤◌}
use mathlib.Core.List.{List}
use Rattle.model.specs.declared.Place.{Place}
use Rattle.fetch.specs.Fetch.{fetch_up_to}
use Rattle.fetch.proofs.Turn.{Goes}
use Rattle.fetch.proofs.fetch_from.Given as goal

pub record Inv (s : List ℕ) (c start end : ℕ) (old : List ℕ) (room : ℕ) (first : Place) (out : List ℕ) (p : Place) (count : ℕ) : Type 0 where
  pub in_room : count ≤ room
  pub goes : Goes s c start end (fetch_up_to room s c start end first) old out (room - count) count p

abbrev pub invariant-loop-count : goal.invariant-loop-count
invariant-loop-count l = Inv l.slab l.column l.start l.end l.initial.points l.room l.initial.here l.points l.here l.count
