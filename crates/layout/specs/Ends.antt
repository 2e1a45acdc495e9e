-- Where slabs end, row by row; a length, or one more than the limit. Assumes nothing.
use Rattle.std.specs.Prelude.{ℕ, ◌+◌, ◌*◌, ◌≤◌, ◌<◌, min, ◌≡◌, List, [], ◌∷◌}
use Rattle.std.proofs.Common.{mul_assoc, arith}
use Rattle.model.specs.declared.Row.{Row}
use Rattle.model.specs.Layout.{slab_length, column_at, column_behind, stamps_behind, directory}
use Rattle.model.specs.Image.{row_at, row_length, slabs_end}
use Rattle.rows.specs.Rows.{rows_to, rows_step, rows_end}

-- x, or 2^40 + 1 where it is more than 2^40
abbrev pub capped : ℕ → ℕ
capped x = min x 1099511627777

-- a slab's length in one line
pub long : (n m : ℕ) → slab_length n m ≡ 64 + 4 * m + 8 * n + 8 * (n * m)
unfolding slab_length column_at column_behind stamps_behind directory
long n m = omega (arith, mul_assoc 8 n m)

pub ends_ge : (at : ℕ) (rs : List Row) → at ≤ slabs_end at rs
unfolding slabs_end
ends_ge at [] = omega arith
ends_ge at (r ∷ rs) = omega (arith, ends_ge (at + row_length r) rs)

module _ (s : List ℕ) (n i : ℕ) (h : i < n) (at : ℕ) where
  pub ends_on : slabs_end at (rows_to s n i) ≡ slabs_end (at + row_length (row_at s i)) (rows_to s n (i + 1))
  unfolding slabs_end
  ends_on = rw (rows_step s n i h)

  pub ends_more : at + row_length (row_at s i) ≤ slabs_end at (rows_to s n i)
  ends_more = omega (arith, ends_on, ends_ge (at + row_length (row_at s i)) (rows_to s n (i + 1)))

pub ends_end : (s : List ℕ) (n i at : ℕ) → n ≤ i → slabs_end at (rows_to s n i) ≡ at
unfolding slabs_end
ends_end s n i at h = rw (rows_end s n i h)
