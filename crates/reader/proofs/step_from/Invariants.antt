use Prim.Native.Nat.{ℕ, ◌<◌}
use mathlib.Core.Path.{◌≡◌}
use mathlib.Core.List.{List}
use Rattle.model.specs.Read.{step_from}
use Rattle.reader.proofs.step_from.Given as goal

pub record Inv (s : List ℕ) (n column start end slot₀ left₀ slot left : ℕ) : Type 0 where
  pub in_slots : slot < n
  pub same : step_from s column start end slot left ≡ step_from s column start end slot₀ left₀

abbrev pub invariant-loop-left : goal.invariant-loop-left
invariant-loop-left l = Inv l.slab l.n l.column l.start l.end l.initial.slot l.initial.left l.slot l.left
