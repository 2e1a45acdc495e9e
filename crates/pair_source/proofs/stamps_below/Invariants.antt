use Prim.Native.Nat.{ℕ, ◌-◌, ◌≤◌}
use mathlib.Core.Path.{◌≡◌}
use mathlib.Core.List.{List}
use Rattle.model.specs.Consolidate.{stamps_below}
use Rattle.pair_source.proofs.stamps_below.Given as goal

pub record Inv (s : List ℕ) (n i : ℕ) : Type 0 where
  pub in_slots : i ≤ n
  pub same : stamps_below s i (n - i) ≡ stamps_below s 0 n

abbrev pub invariant-loop-i : goal.invariant-loop-i
invariant-loop-i l = Inv l.slab.bytes.now l.slab.slots l.i
