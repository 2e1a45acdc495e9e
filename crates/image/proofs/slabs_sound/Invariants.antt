use Prim.Native.Nat.{ℕ, ◌≤◌}
use mathlib.Core.Path.{◌≡◌}
use mathlib.Core.Bool.{Bool, ◌&&◌}
use mathlib.Core.List.{List}
use Rattle.model.specs.Image.{sound_all}
use Rattle.rows.specs.Rows.{rows_to}
use Rattle.image.proofs.slabs_sound.Given as goal

-- the slabs before slab i and the slabs left
pub record Tested (s : List ℕ) (n : ℕ) (good : Bool) (i : ℕ) : Type 0 where
  pub in_rows : i ≤ n
  pub tested : (good && sound_all s (rows_to s n i)) ≡ sound_all s (rows_to s n 0)

abbrev pub invariant-loop-i : goal.invariant-loop-i
invariant-loop-i l = Tested l.table.bytes.now l.table.count l.good l.i
