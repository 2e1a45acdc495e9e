use Prim.Native.Nat.{ℕ, ◌+◌, ◌*◌, ◌≤◌}
use mathlib.Core.Path.{◌≡◌}
use mathlib.Core.List.{List}
use Rattle.model.specs.Image.{slabs_end}
use Rattle.rows.specs.Rows.{rows_to}
use Rattle.layout.proofs.image_length.Given as goal

-- the slabs before slab i end at `at`, and with the slabs left where all end
pub record Ended (s : List ℕ) (n at i : ℕ) : Type 0 where
  pub in_rows : i ≤ n
  pub low : at ≤ 1099511627776
  pub same_end : slabs_end at (rows_to s n i) ≡ slabs_end (32 + 64 * n) (rows_to s n 0)

abbrev pub invariant-loop-i : goal.invariant-loop-i
invariant-loop-i l = Ended l.table.bytes.now l.table.count l.at l.i
