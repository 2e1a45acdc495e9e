use Prim.Native.Nat.{ℕ, ◌+◌, ◌*◌, ◌≤◌}
use mathlib.Core.Path.{◌≡◌}
use mathlib.Core.List.{List}
use lib.ListN.{length}
use Rattle.model.specs.Bytes.{splice}
use Rattle.model.specs.Image.{fresh_slabs, slabs_end}
use Rattle.rows.specs.Rows.{rows_to}
use Rattle.image_build.proofs.put_slabs.Given as goal

-- the slabs filled before slab i and the slabs left make all slabs
pub record Filled (plan : List ℕ) (n : ℕ) (image₀ image : List ℕ) (at i : ℕ) : Type 0 where
  pub in_rows : i ≤ n
  pub same-long : length image ≡ length image₀
  pub same_end : slabs_end at (rows_to plan n i) ≡ slabs_end (32 + 64 * n) (rows_to plan n 0)
  pub filled : splice image at (fresh_slabs (rows_to plan n i)) ≡ splice image₀ (32 + 64 * n) (fresh_slabs (rows_to plan n 0))

abbrev pub invariant-loop-i : goal.invariant-loop-i
invariant-loop-i l = Filled l.plan.bytes.now l.plan.count l.initial.image l.image l.at l.i
