use Prim.Native.Nat.{ℕ, ◌-◌, ◌<◌}
use mathlib.Core.List.{List}
use Rattle.model.specs.Image.{row_count}
use Rattle.lookup.proofs.Laws.{Finding}
use Rattle.lookup.proofs.Image.finest_row.Given as goal

pub record Inv (image : List ℕ) (schema i : ℕ) : Type 0 where
  pub in_rows : i < row_count image
  pub finding : Finding image schema (row_count image) i

abbrev pub invariant-loop-series : goal.invariant-loop-series
invariant-loop-series l = Inv l.self.bytes.now l.schema l.i

abbrev pub decreases-loop-series : goal.decreases-loop-series
decreases-loop-series l = row_count l.self.bytes.now - l.i
