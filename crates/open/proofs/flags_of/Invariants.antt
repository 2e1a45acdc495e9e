use Prim.Native.Nat.{ℕ, ◌≤◌}
use mathlib.Core.Bool.{Bool}
use mathlib.Core.List.{List}
use mathlib.Core.Path.{◌≡◌}
use lib.ListN.{length}
use lib.Seq.{sets}
use Rattle.model.specs.Lent.{wrap_flags}
use Rattle.rows.specs.Rows.{rows_to}
use Rattle.open.proofs.flags_of.Given as goal

pub record Inv (s : List ℕ) (n : ℕ) (next₀ next : List Bool) (i : ℕ) : Type 0 where
  pub long : length next ≡ 32
  pub in_bounds : i ≤ n
  pub leads : sets next i (wrap_flags s (rows_to s n i)) ≡ sets next₀ 0 (wrap_flags s (rows_to s n 0))

abbrev pub invariant-loop-i : goal.invariant-loop-i
invariant-loop-i l = Inv l.table.bytes.now l.table.count l.initial.next l.next l.i
