-- The number of what a call does, as a list of calls has it (`Encoded`). Assumes nothing.
use Rattle.std.specs.Prelude.{ℕ, ◌≡◌, ◌≢◌}
use Rattle.tie_calls.specs.declared.Kind.{Kind}
use Rattle.tie_calls.specs.declared.Kind.TheVariants.{Record, Batch, Query, Auto, Open, Run}

abbrev pub KindIs : Kind → ℕ → Type 0
KindIs Record n = n ≡ 0
KindIs Batch n = n ≡ 1
KindIs Query n = n ≡ 2
KindIs Auto n = n ≡ 3
KindIs Open n = n ≡ 4
KindIs Run n = (n ≢ 0) × (n ≢ 1) × (n ≢ 2) × (n ≢ 3) × (n ≢ 4)
