-- The places that the code works out, in cells; the next slot by compare and reset; and the place where a reading starts, case by case. Assumes nothing.
use Prim.Native.Nat.{ℕ, suc, ◌+◌, ◌*◌, ◌%◌, ◌≤◌, ◌<◌}
use native.Mathlib.Nat.{mul-suc, mul_assoc, mul-le-mul_left, mod-eq_of_lt, mod_self}
use native.Mathlib.Numerals.{add-one}
use native.Mathlib.Omega.{arith}
use mathlib.Core.Path.{◌≡◌, sym}
use mathlib.Core.Logic.{◌≢◌}
use mathlib.Core.Bool.{Bool, true, false}
use mathlib.Core.List.{List}
use borrow.Author.Tests.{eq-eqb, ne_eqb}
use Rattle.model.specs.Ring.{cursor, stamp, is_empty, first_place}
use Rattle.ring.specs.Parts.{Sized, ring_of}

-- column c's k bytes end where the next column's begin
pub column_ends : (k c m : ℕ) → c < m → k * c + k ≤ k * m
column_ends k c m h = omega (arith, mul-suc k c, mul-le-mul_left k h)

-- in cells: the stamps and c columns behind the directory are c + 1 times n, and column c ends within m columns
pub record Cells (n c m : ℕ) : Type 0 where
  pub behind : 8 * (n * (c + 1)) ≡ 8 * n + 8 * n * c
  pub ends : 8 * n * c + 8 * n ≤ 8 * n * m

pub cells : (n c m : ℕ) → c < m → Cells n c m
cells n c m h = record {
  behind = rw (add-one c) (omega (arith, mul-suc n c, mul_assoc 8 n c));
  ends = column_ends (8 * n) c m h;
}

pub next_in : (n i : ℕ) → i + 1 < n → i + 1 ≡ suc i % n
next_in n i h = let e : suc i < n = omega arith in omega (arith, mod-eq_of_lt e)

pub next_round : (n i : ℕ) → i < n → n ≤ i + 1 → 0 ≡ suc i % n
next_round n i h k = let e : suc i ≡ n = omega arith in rw e (sym (mod_self n))

module _ (s : List ℕ) (n m : ℕ) (h : Sized s n m) (w : Bool) where
  pub first_none : stamp s (cursor s) ≡ 0 → first_place (ring_of s w) ≡ record { slot = 0; left = 0 }
  unfolding first_place is_empty
  first_none e = rw (eq-eqb _ _ e)

  pub first_round : w ≡ true → stamp s (cursor s) ≢ 0 → first_place (ring_of s w) ≡ record { slot = suc (cursor s) % n; left = n }
  unfolding first_place is_empty
  first_round t e = rw (ne_eqb _ _ e, t, h.slots-is)

  pub first_plain : w ≡ false → stamp s (cursor s) ≢ 0 → first_place (ring_of s w) ≡ record { slot = 0; left = cursor s + 1 }
  unfolding first_place is_empty
  first_plain t e = rw (ne_eqb _ _ e, t, add-one)
