use Rattle.std.specs.Prelude.{Ok}
use Prim.Native.Nat.{ℕ, ◌-◌, ◌≤◌}
use mathlib.Core.Path.{◌≡◌}
use mathlib.Core.List.{List}
use Rattle.model.specs.Consolidate.{fill, windows}
use Rattle.window_theory.specs.Cut.{onward}
use Rattle.window_write.specs.declared.Filling.{Filling}
use Rattle.pair_fill.specs.declared.Pair.{Pair}
use Rattle.pair_fill.specs.Parts.{Keeps, pair_job, filled_in}
use Rattle.pair_runs.specs.Parts.{all_filled}
use Rattle.pair_runs.proofs.Strands.{Strands}
use Rattle.pair_runs.proofs.fill_pair.Given as goal

-- the image was s0, and is s; the range is done up to `start`
pub record Passing (s0 s : List ℕ) (p : Pair) (filling done : Filling) (start strands : ℕ) : Type 0 where
  pub keeps : Keeps s0 s p
  pub fine : done.outcome ≡ Ok tt
  pub left : fill (onward (pair_job s0 p) start) (filled_in s p done) (windows (onward (pair_job s0 p) start)) p.reading.series
      ≡ all_filled s0 p filling
  pub counted : Strands (pair_job s0 p) strands start
  pub few : strands ≤ start

abbrev pub invariant-loop-start : goal.invariant-loop-start
invariant-loop-start l = Passing l.initial.image l.image l.p l.initial.done l.done l.start l.strands

abbrev pub decreases-loop-start : goal.decreases-loop-start
decreases-loop-start l = l.p.reading.end - l.start
