use Prim.Native.Nat.{ℕ, ◌+◌, ◌*◌, ◌≤◌}
use mathlib.Core.Path.{◌≡◌}
use mathlib.Core.List.{List}
use lib.ListN.{length}
use Rattle.model.specs.Bytes.{splice}
use Rattle.model.specs.Image.{placed_rows, all_rows, slabs_end}
use Rattle.rows.specs.Rows.{rows_to}
use Rattle.image_build.proofs.put_rows.Given as goal

-- the rows put before row i and the rows left make all rows
pub record Put (plan : List ℕ) (n : ℕ) (image₀ image : List ℕ) (at i : ℕ) : Type 0 where
  pub in_rows : i ≤ n
  pub same-long : length image ≡ length image₀
  pub ends_low : slabs_end at (rows_to plan n i) ≤ 1099511627776
  pub put : splice image (32 + 64 * i) (all_rows (placed_rows at (rows_to plan n i))) ≡ splice image₀ 32 (all_rows (placed_rows (32 + 64 * n) (rows_to plan n 0)))

abbrev pub invariant-loop-i : goal.invariant-loop-i
invariant-loop-i l = Put l.plan.bytes.now l.plan.count l.initial.image l.image l.at l.i
