use Rattle.std.specs.Prelude.{Ok}
use Prim.Native.Nat.{ℕ, ◌+◌, ◌-◌, ◌≤◌}
use mathlib.Core.Path.{◌≡◌}
use mathlib.Core.List.{List}
use Rattle.model.specs.Consolidate.{fill_window}
use Rattle.window_write.specs.declared.Filling.{Filling}
use Rattle.pair_fill.specs.declared.Pair.{Pair}
use Rattle.pair_fill.specs.Parts.{Keeps, pair_job, filled_in}
use Rattle.pair_fill.proofs.fill_window.Given as goal

-- the image was s0, and is s; the columns before `column` are written
pub record Written (s0 s : List ℕ) (p : Pair) (window : ℕ) (filling done : Filling) (column : ℕ) : Type 0 where
  pub column_in : column ≤ p.reading.series
  pub keeps : Keeps s0 s p
  pub fine : done.outcome ≡ Ok tt
  pub few : done.writes ≤ filling.writes + column
  pub left : fill_window (pair_job s0 p) (filled_in s p done) window column (p.reading.series - column)
      ≡ fill_window (pair_job s0 p) (filled_in s0 p filling) window 0 p.reading.series

abbrev pub invariant-loop-column : goal.invariant-loop-column
invariant-loop-column l = Written l.initial.image l.image l.p l.window l.initial.done l.done l.column
