use Prim.Native.Nat.{ℕ, ◌≤◌}
use mathlib.Core.Path.{◌≡◌}
use mathlib.Core.Bool.{Bool, ◌&&◌}
use mathlib.Core.List.{List}
use Rattle.model.specs.declared.Row.{Row}
use Rattle.model.specs.Image.{tiers_of, rising}
use Rattle.rows.specs.Rows.{rows_to}
use Rattle.schema.proofs.is_rising.Given as goal

-- the tiers before row i and the tiers left
pub record Rises (s : List ℕ) (n j from : ℕ) (finer₀ : Row) (good : Bool) (finer : Row) (i : ℕ) : Type 0 where
  pub in_rows : i ≤ n
  pub rises : (good && rising finer (tiers_of j (rows_to s n i))) ≡ rising finer₀ (tiers_of j (rows_to s n from))

abbrev pub invariant-loop-i : goal.invariant-loop-i
invariant-loop-i l = Rises l.table.bytes.now l.table.count l.j l.from l.initial.finer l.good l.finer l.i
