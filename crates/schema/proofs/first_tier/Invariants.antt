use Prim.Native.Nat.{ℕ, ◌≤◌}
use mathlib.Core.Path.{◌≡◌}
use mathlib.Core.List.{List}
use Rattle.model.specs.Image.{tiers_of}
use Rattle.rows.specs.Rows.{rows_to}
use Rattle.schema.proofs.first_tier.Given as goal

-- the rows before row i are of other schemas
pub record Skipped (s : List ℕ) (n j i : ℕ) : Type 0 where
  pub in_rows : i ≤ n
  pub skipped : tiers_of j (rows_to s n i) ≡ tiers_of j (rows_to s n 0)

abbrev pub invariant-loop-i : goal.invariant-loop-i
invariant-loop-i l = Skipped l.table.bytes.now l.table.count l.j l.i
