use Rattle.std.specs.Prelude.{Ok}
use Prim.Native.Nat.{ℕ, ◌*◌, ◌-◌, ◌≤◌, ◌^◌}
use mathlib.Core.Path.{◌≡◌}
use mathlib.Core.List.{List}
use Rattle.model.specs.Image.{row_count}
use Rattle.model.specs.Consolidate.{Run, pairs}
use Rattle.pair.specs.declared.Progress.{Progress}
use Rattle.pair.specs.Parts.{run_of}
use Rattle.consolidate.proofs.Laws.{Goes}
use Rattle.consolidate.proofs.run_pairs.Given as goal

pub record Inv (s : List ℕ) (n : ℕ) (total : Run) (t : List ℕ) (u : Progress) (i : ℕ) : Type 0 where
  pub goes : Goes s t
  pub rows_are : row_count s ≡ n
  pub few_rows : n ≤ 32
  pub accepted : u.outcome ≡ Ok tt
  pub few_writes : u.count ≤ i * 2 ^ 40
  pub same : pairs (run_of t u) i (n - 1 - i) ≡ total

abbrev pub invariant-loop-i : goal.invariant-loop-i
invariant-loop-i l = Inv l.initial.image l.n (pairs (run_of l.initial.image l.initial.u) 0 (row_count l.initial.image - 1)) l.image l.u l.i
