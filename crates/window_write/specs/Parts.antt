-- The words of the writer's contracts: a filling as the definition has it, and a destination that can be written. Assumes nothing.
use Rattle.std.specs.Prelude.{ℕ, ◌^◌, ◌<◌, List}
use Rattle.model.specs.Words.{outcome_no}
use Rattle.model.specs.Consolidate.{Filled}
use Rattle.ring_theory.specs.Sound.{Sound}
use Rattle.ring.specs.Parts.{ring_of}
use Rattle.ring.specs.declared.Sizes.{Sizes}
use Rattle.window_write.specs.declared.Filling.{Filling}

-- a filling of the destination's slab s
abbrev pub filled_of : List ℕ → Filling → Filled
filled_of s r = record { ring = ring_of s r.wrapped; writes = r.writes; refusal = outcome_no r.outcome }

-- the slab s with sizes z can take a value of the column
pub record Ready (s : List ℕ) (z : Sizes) (r : Filling) (column : ℕ) : Type 0 where
  pub sound : Sound s z.slots z.series z.interval
  pub some_interval : 0 < z.interval
  pub column_in : column < z.series
  pub few_writes : r.writes < 2 ^ 63
