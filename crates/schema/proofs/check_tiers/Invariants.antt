use Prim.Native.Nat.{ℕ, ◌≤◌}
use mathlib.Core.Path.{◌≡◌}
use mathlib.Core.List.{List}
use Rattle.model.specs.Image.{tier_check, tiers_of, tier_checks}
use Rattle.rows.specs.Rows.{rows_to}
use Rattle.schema.proofs.check_tiers.Given as goal

-- the tiers before row i passed
pub record Passed (s : List ℕ) (n j i : ℕ) : Type 0 where
  pub in_rows : i ≤ n
  pub passed : tier_checks tier_check (tiers_of j (rows_to s n i)) ≡ tier_checks tier_check (tiers_of j (rows_to s n 0))

abbrev pub invariant-loop-i : goal.invariant-loop-i
invariant-loop-i l = Passed l.table.bytes.now l.table.count l.j l.i
