-- Rows by index, as loops over them go: the rows from one on, below another; the shape as the code tests it. Assumes nothing.
use Rattle.std.specs.Prelude.{ℕ, suc, ◌+◌, ◌*◌, ◌-◌, ◌≤◌, ◌<◌, ◌≡◌, Bool, true, ◌&&◌, List, [], ◌∷◌, length, leb}
use Rattle.std.proofs.Math.Nat.{sub-zero}
use Rattle.std.proofs.Common.{add-one, arith}
use Rattle.std.proofs.Math.Bool.{and_assoc}
use Rattle.model.specs.declared.Row.{Row}
use Rattle.model.specs.Bytes.{get}
use Rattle.model.specs.Image.{row_at, rows_from, rows, row_count, schemas, row_place, every, orderly, row_shape, header, shape}
use Rattle.image_theory.specs.Checks.{shape-parts}

-- the rows of s from row i on, below row n
unfoldable pub rows_to : List ℕ → ℕ → ℕ → List Row
rows_to s n i = rows_from s i (n - i)

pub rows_all : (s : List ℕ) → rows_to s (row_count s) 0 ≡ rows s
unfolding rows_to rows
rows_all s = rw sub-zero

pub rows_end : (s : List ℕ) (n i : ℕ) → n ≤ i → rows_to s n i ≡ []
unfolding rows_to rows_from
rows_end s n i h = let e : n - i ≡ 0 = omega arith in rw e

pub rows_step : (s : List ℕ) (n i : ℕ) → i < n → rows_to s n i ≡ row_at s i ∷ rows_to s n (i + 1)
unfolding rows_to rows_from
rows_step s n i h = let e : n - i ≡ suc (n - (i + 1)) = omega arith in rw (e, add-one)

-- ---- the shape of header and rows

-- rows in order, each in range
unfoldable pub good_rows : ℕ → List Row → Bool
good_rows k rs = orderly rs && every (row_shape k) rs

pub shape-rest : (s : List ℕ) → shape s
    ≡ (leb 32 (length s) && header (length s) (get 4 s 0) (get 4 s 4) (get 4 s 8) (get 4 s 12) (get 8 s 24)) && good_rows (get 4 s 8) (rows_to s (get 4 s 12) 0)
unfolding shape schemas row_count good_rows
shape-rest s = rw (rows_all s) (and_assoc (leb 32 (length s) && header (length s) (get 4 s 0) (get 4 s 4) (get 4 s 8) (get 4 s 12) (get 8 s 24)) _ _)

-- what a shape that passed says of the slice, in the numbers that code reads
pub record Sizes (s : List ℕ) : Type 0 where
  pub long : 32 ≤ length s
  pub count : get 4 s 12 ≤ 32
  pub there : 32 + 64 * get 4 s 12 ≤ length s

pub sizes : (s : List ℕ) → shape s ≡ true → Sizes s
unfolding row_count row_place
sizes s e = let p = shape-parts s e in record { long = p.long; count = p.few_rows; there = p.head-fits }
