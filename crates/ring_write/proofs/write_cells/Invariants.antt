use Prim.Native.Nat.{ℕ, ◌-◌, ◌≤◌}
use mathlib.Core.Path.{◌≡◌}
use mathlib.Core.List.{List}
use lib.ListN.{length}
use Rattle.model.specs.Ring.{ColumnValue, put_cells, interval}
use Rattle.model.specs.Record.{entries, entries_from, entries_of}
use Rattle.ring_theory.specs.Sound.{Sound}
use Rattle.ring_write.specs.Stored.{Columns}
use Rattle.ring_write.proofs.write_cells.Given as goal

-- the values from entry i of count on
abbrev pub rest : List ℕ → ℕ → ℕ → ℕ → List ColumnValue
rest batch schema count i = entries_of schema (entries_from batch i (count - i))

pub record Inv (slab₀ : List ℕ) (n m slot : ℕ) (batch : List ℕ) (schema count : ℕ) (slab : List ℕ) (i : ℕ) : Type 0 where
  pub in_bounds : i ≤ count
  pub long : length slab ≡ length slab₀
  pub sound : Sound slab n m (interval slab₀)
  pub columns : Columns m (rest batch schema count i)
  pub leads : put_cells slab slot (rest batch schema count i) ≡ put_cells slab₀ slot (entries_of schema (entries batch))

abbrev pub invariant-loop-i : goal.invariant-loop-i
invariant-loop-i l = Inv l.initial.slab l.z.slots l.z.series l.slot l.batch l.schema l.count l.slab l.i
