use Prim.Native.Nat.{ℕ, ◌-◌, ◌≤◌}
use mathlib.Core.Path.{◌≡◌}
use mathlib.Core.List.{List}
use Rattle.model.specs.Image.{tier_check, schema_checks}
use Rattle.rows.specs.Rows.{rows_to}
use Rattle.schema.proofs.check_schemas.Given as goal

-- the schemas before schema j passed
pub record Passed (s : List ℕ) (n k j : ℕ) : Type 0 where
  pub in_schemas : j ≤ k
  pub passed : schema_checks tier_check j (k - j) (rows_to s n 0) ≡ schema_checks tier_check 0 k (rows_to s n 0)

abbrev pub invariant-loop-j : goal.invariant-loop-j
invariant-loop-j l = Passed l.table.bytes.now l.table.count l.k l.j
