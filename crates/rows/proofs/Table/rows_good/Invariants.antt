use Prim.Native.Nat.{ℕ, ◌≤◌}
use mathlib.Core.Path.{◌≡◌}
use mathlib.Core.List.{List}
use Rattle.model.specs.declared.Row.{Row}
use Rattle.rows.specs.Rows.{rows_to, good_rows}
use Rattle.rows.proofs.Laws as laws
use Rattle.rows.proofs.Table.rows_good.Given as goal

-- the rows behind p, from row i on, are good exactly when all rows are
pub record Behind (s : List ℕ) (n schemas : ℕ) (p : Row) (i : ℕ) : Type 0 where
  pub in_rows : i ≤ n
  pub behind : laws.good_after schemas p (rows_to s n i) ≡ good_rows schemas (rows_to s n 0)

abbrev pub invariant-loop-i : goal.invariant-loop-i
invariant-loop-i l = Behind l.self.bytes.now l.self.count l.schemas l.p l.i
