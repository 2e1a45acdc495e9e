-- Reading a ring that took numbers without gaps: points in a row, and a range of stamps with the numbers in it. The laws of reading stand in
-- proofs/Read.antt. Assumes nothing.
use Prim.Native.Nat.{ℕ, zero, suc, ◌*◌, ◌≤◌, ◌<◌}
use Rattle.std.proofs.Common.{mul-le-mul_right}
use native.Mathlib.Omega.{arith}
use mathlib.Core.List.{List, [], ◌∷◌}
use Rattle.model.specs.declared.Point.{Point}
use Rattle.ring_theory.specs.Numbers.{mul-lt}

-- k points from number q on
unfoldable pub pts : (ℕ → ℕ) → ℕ → ℕ → ℕ → List Point
pts X d q zero = []
pts X d q (suc k) = record { stamp = q * d; value = X q } ∷ pts X d (suc q) k

-- ---- a range of stamps, and the numbers in it

-- of the numbers from f up to t, those from g up to h are the ones whose stamps are from lo up to hi; t, h and hi are left out
pub record InRange (d lo hi f t g h : ℕ) : Type 0 where
  pub first : f ≤ g
  pub rising : g ≤ h
  pub last : h ≤ t
  pub early : (p : ℕ) → f ≤ p → p < g → p * d < lo
  pub inside : (p : ℕ) → g ≤ p → p < h → (lo ≤ p * d) × (p * d < hi)
  pub late : (p : ℕ) → h ≤ p → p < t → hi ≤ p * d

-- from number g to the newest, b
pub range_from : (d f b g : ℕ) → 0 < d → f ≤ g → g ≤ suc b → InRange d (g * d) (suc (b * d)) f (suc b) g (suc b)
range_from d f b g z l u = record {
  first = l;
  rising = u;
  last = omega arith;
  early = λ p x y. mul-lt p g d z y;
  inside = λ p x y. let w : p ≤ b = omega arith in (mul-le-mul_right d x, omega (arith, mul-le-mul_right d w));
  late = λ p x y. absurd (omega arith);
}

-- all time
pub range_all : (d hi f t : ℕ) → f ≤ t → ((p : ℕ) → p < t → p * d < hi) → InRange d 0 hi f t f t
range_all d hi f t l top = record {
  first = omega arith;
  rising = l;
  last = omega arith;
  early = λ p x y. absurd (omega arith);
  inside = λ p x y. (omega arith, top p y);
  late = λ p x y. absurd (omega arith);
}
