use Prim.Native.Nat.{ℕ, ◌≤◌}
use mathlib.Core.Path.{◌≡◌}
use mathlib.Core.Bool.{Bool, ◌&&◌}
use mathlib.Core.List.{List}
use Rattle.model.specs.Image.{every, blank_row}
use Rattle.rows.specs.Rows.{rows_to}
use Rattle.rows.proofs.Table.rows_blank.Given as goal

-- the rows before row i and the rows left
pub record Tested (s : List ℕ) (n : ℕ) (good : Bool) (i : ℕ) : Type 0 where
  pub in_rows : i ≤ n
  pub tested : good && every blank_row (rows_to s n i) ≡ every blank_row (rows_to s n 0)

abbrev pub invariant-loop-i : goal.invariant-loop-i
invariant-loop-i l = Tested l.self.bytes.now l.self.count l.good l.i
