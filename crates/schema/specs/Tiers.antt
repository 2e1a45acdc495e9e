-- A schema's tiers by where its first one stands. Assumes nothing.
use Rattle.std.specs.Prelude.{ℕ, ◌+◌, List, [], ◌∷◌, Option, Some, None}
use Rattle.model.specs.declared.Row.{Row}
use Rattle.model.specs.Image.{tiers_of, row_at}
use Rattle.rows.specs.Rows.{rows_to}

-- the tiers of schema j, if f is its first among n rows
abbrev pub tiers_at : List ℕ → ℕ → ℕ → Option ℕ → List Row
tiers_at s n j (Some i) = row_at s i ∷ tiers_of j (rows_to s n (i + 1))
tiers_at s n j None = []

-- a first tier that was found stands below row n
abbrev pub reach : Option ℕ → ℕ
reach (Some i) = i + 1
reach None = 0
