-- One turn of a loop over the rows: what is left of the claim is what was asked. Assumes nothing.
use Prim.Native.Nat.{ℕ, ◌+◌, ◌*◌, ◌≤◌, ◌<◌}
use native.Mathlib.Omega.{arith}
use mathlib.Core.Path.{◌≡◌, sym, ap, ◌∙◌}
use mathlib.Core.Bool.{Bool, true, false, ◌&&◌, and_assoc, and-true, and-false}
use mathlib.Core.List.{List}
use lib.ListN.{length}
use lib.Dec.{eqb, leb}
use borrow.Author.Tests.{eq-eqb, ne_eqb, le-leb, lt-leb}
use Rattle.laws.specs.Tests.{le_is, and_right}
use Rattle.model.specs.declared.Row.{Row}
use Rattle.model.specs.Bytes.{get}
use Rattle.model.specs.Image.{row_at, every, follows, in_order, orderly, row_shape, header, shape, blank, blank_row, row_place, row_count, total_length}
use Rattle.rows.specs.Rows.{rows_to, rows_step, rows_end, rows_all, good_rows, shape-rest}

-- ---- a test of every row, carried in a bool

pub every_more : (s : List ℕ) (n i : ℕ) (f : Row → Bool) (good : Bool) {one : Bool} → i < n → one ≡ f (row_at s i)
    → (good && one) && every f (rows_to s n (i + 1)) ≡ good && every f (rows_to s n i)
unfolding every
every_more s n i f good h e = rw (rows_step s n i h, e) (and_assoc good _ _)

pub every_end : (s : List ℕ) (n i : ℕ) (f : Row → Bool) (good : Bool) → n ≤ i → good && every f (rows_to s n i) ≡ good
unfolding every
every_end s n i f good h = rw (rows_end s n i h) (and-true good)

-- ---- order and range, row by row

-- the rows behind p, in order, each in range
unfoldable pub good_after : ℕ → Row → List Row → Bool
good_after k p rs = in_order p rs && every (row_shape k) rs

pub good_none : (s : List ℕ) (k : ℕ) {n : ℕ} → n ≡ 0 → good_rows k (rows_to s n 0) ≡ true
unfolding good_rows orderly every
good_none s k {n} e = rw (rows_end s n 0 (omega arith))

module _ (s : List ℕ) (n k : ℕ) (h : 0 < n) where
  pub first_bad : row_shape k (row_at s 0) ≡ false → good_rows k (rows_to s n 0) ≡ false
  unfolding good_rows orderly every
  first_bad e = rw (rows_step s n 0 h, e) (and-false (eqb (row_at s 0).tier 0 && in_order (row_at s 0) (rows_to s n 1)))

  module _ {q : Row} (is : q ≡ row_at s 0) where
    pub first-late : (q.tier ≡ 0 → ⊥) → good_rows k (rows_to s n 0) ≡ false
    unfolding good_rows orderly every
    first-late e = rw (rows_step s n 0 h, ne_eqb _ _ (λ z. e (ap (λ r. r.tier) is ∙ z)))

    pub first_on : row_shape k (row_at s 0) ≡ true → q.tier ≡ 0 → good_after k q (rows_to s n 1) ≡ good_rows k (rows_to s n 0)
    unfolding good_rows good_after orderly every
    first_on e f = rw (is, rows_step s n 0 h, e, eq-eqb _ _ (ap (λ r. r.tier) (sym is) ∙ f))

module _ (s : List ℕ) (n i k : ℕ) (p : Row) (h : i < n) where
  pub next_bad : row_shape k (row_at s i) ≡ false → good_after k p (rows_to s n i) ≡ false
  unfolding good_after in_order every
  next_bad e = rw (rows_step s n i h, e) (and-false (follows p (row_at s i) && in_order (row_at s i) (rows_to s n (i + 1))))

  module _ {q : Row} (is : q ≡ row_at s i) where
    pub next-late : follows p q ≡ false → good_after k p (rows_to s n i) ≡ false
    unfolding good_after in_order every
    next-late e = rw (rows_step s n i h, ← is, e)

    pub next-on : row_shape k (row_at s i) ≡ true → follows p q ≡ true → good_after k q (rows_to s n (i + 1)) ≡ good_after k p (rows_to s n i)
    unfolding good_after in_order every
    next-on e f = rw (rows_step s n i h, e, ← is, f)

pub good_end : (s : List ℕ) (n i k : ℕ) (p : Row) → n ≤ i → good_after k p (rows_to s n i) ≡ true
unfolding good_after in_order every
good_end s n i k p h = rw (rows_end s n i h)

-- ---- header and rows together

module _ (s : List ℕ) where
  abbrev pub header_of : Bool
  header_of = header (length s) (get 4 s 0) (get 4 s 4) (get 4 s 8) (get 4 s 12) (get 8 s 24)

  pub header-fits : header_of ≡ true → 32 + 64 * get 4 s 12 ≤ length s
  unfolding header row_place
  header-fits e = le_is _ _ (and_right (eqb (get 4 s 0) 0x4f545352 && eqb (get 4 s 4) 1 && leb 1 (get 4 s 8) && leb (get 4 s 8) 8 && leb (get 4 s 12) 32 && eqb (get 8 s 24) 0)
      (leb (32 + 64 * get 4 s 12) (length s)) e)

  pub shape-short : length s < 32 → shape s ≡ false
  shape-short h = shape-rest s ∙ rw (lt-leb _ _ h)

  pub shape-head : header_of ≡ false → shape s ≡ false
  shape-head e = shape-rest s ∙ rw (e, and-false)

  pub shape-rows : 32 ≤ length s → header_of ≡ true → shape s ≡ good_rows (get 4 s 8) (rows_to s (get 4 s 12) 0)
  shape-rows h e = shape-rest s ∙ rw (le-leb 32 (length s) h, e)

  pub blank-is : blank s ≡ eqb (get 8 s 16) 0 && every blank_row (rows_to s (get 4 s 12) 0)
  unfolding blank total_length row_count
  blank-is = rw (rows_all s)
