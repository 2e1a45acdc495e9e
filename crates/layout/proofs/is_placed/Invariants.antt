use Prim.Native.Nat.{ℕ, ◌+◌, ◌*◌, ◌≤◌}
use mathlib.Core.Path.{◌≡◌}
use mathlib.Core.Bool.{Bool, ◌&&◌}
use mathlib.Core.List.{List}
use Rattle.model.specs.Image.{slabs_end, placed}
use Rattle.rows.specs.Rows.{rows_to}
use Rattle.layout.proofs.is_placed.Given as goal

-- the rows before row i and the rows left
pub record Tested (s : List ℕ) (n : ℕ) (good : Bool) (at i : ℕ) : Type 0 where
  pub in_rows : i ≤ n
  pub ends_low : slabs_end at (rows_to s n i) ≤ 1099511627776
  pub tested : (good && placed at (rows_to s n i)) ≡ placed (32 + 64 * n) (rows_to s n 0)

abbrev pub invariant-loop-i : goal.invariant-loop-i
invariant-loop-i l = Tested l.table.bytes.now l.table.count l.good l.at l.i
