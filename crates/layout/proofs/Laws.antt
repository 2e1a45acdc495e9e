-- One slab's length, and one turn of the loops over the rows. Assumes nothing.
use Prim.Native.Nat.{ℕ, ◌+◌, ◌*◌, ◌/◌, ◌≤◌, ◌<◌}
use native.Mathlib.Nat.{mul-add, div-lt_iff_lt-mul, div-zero}
use native.Mathlib.Decide.{dec_lt}
use native.Mathlib.Omega.{arith}
use mathlib.Core.Path.{◌≡◌, sym}
use mathlib.Core.Bool.{Bool, ◌&&◌, and_assoc, and-true}
use mathlib.Core.List.{List}
use lib.Dec.{eqb}
use Rattle.model.specs.declared.Row.{Row}
use Rattle.model.specs.Layout.{slab_length, slot_count}
use Rattle.model.specs.Image.{row_at, row_slots, row_length, slabs_end, placed}
use Rattle.rows.specs.Rows.{rows_to, rows_step, rows_end}
use Rattle.layout.specs.Ends.{capped, long, ends_more}

pub slots_none : (r : Row) → r.interval ≡ 0 → 0 ≡ row_slots r
unfolding row_slots slot_count
slots_none r e = sym (rw (e, div-zero))

-- the stamps and each column are a list of n words
pub lists : (n m : ℕ) → slab_length n m ≡ 64 + 4 * m + 8 * (n * (m + 1))
lists n m = omega (arith, long n m, mul-add n m 1)

-- n lists of k words pass 2^37 words exactly when n passes 2^37 / k
pub over : (n k : ℕ) → 0 < k → 137438953472 / k < n → 137438953472 < n * k
over n k p h = (div-lt_iff_lt-mul p).0 h

pub within : (n k : ℕ) → 0 < k → n ≤ 137438953472 / k → n * k ≤ 137438953472
within n k p h = go (dec_lt 137438953472 (n * k))
  where
    go : Dec (137438953472 < n * k) → n * k ≤ 137438953472
    go (yes q) = let z : 137438953472 / k < n = (div-lt_iff_lt-mul p).1 q in omega arith
    go (no q) = omega arith

-- ---- rows

-- the next slab passes the limit, and with it the whole
pub ends-over : (s : List ℕ) (n i at l : ℕ) → i < n → l ≡ capped (row_length (row_at s i)) → 1099511627776 < at + l
    → capped (slabs_end at (rows_to s n i)) ≡ 1099511627777
ends-over s n i at l h e f = omega (arith, ends_more s n i h at)

module _ (s : List ℕ) (n i at : ℕ) (h : i < n) (good : Bool) where
  pub placed_more : (r : Row) (l : ℕ) → r ≡ row_at s i → l ≡ row_length (row_at s i)
      → (good && (eqb r.offset at && eqb r.len l)) && placed (at + l) (rows_to s n (i + 1)) ≡ good && placed at (rows_to s n i)
  unfolding placed
  placed_more r l e f = rw (rows_step s n i h, e, f) (and_assoc good _ _)

pub placed_end : (s : List ℕ) (n i at : ℕ) (good : Bool) → n ≤ i → good && placed at (rows_to s n i) ≡ good
unfolding placed
placed_end s n i at good h = rw (rows_end s n i h) (and-true good)
