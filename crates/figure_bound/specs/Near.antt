-- From a value's distance to that of the whole number shown for it: rounding adds at most half a nanosecond, and a value that near a mean of at most 2^30 in size
-- is not beyond 2^53. Assumes nothing.
use Rattle.std.specs.Prelude.{ℕ, suc, ◌+◌, ◌*◌, ◌^◌, ◌≤◌, ◌<◌, ◌≡◌, Bool, true, false, ℤ, negsuc, neg_ℤ, nat_abs, ◌-ℤ◌, ◌*ℤ◌}
use Rattle.std.proofs.Common.{mul-le-mul_right, le_of_mul-le-mul_right, arith}
use Rattle.std.proofs.Math.IntN.{pos}
use Rattle.std.specs.Float.Ieee.Nearest.{closest}
use Rattle.model.specs.Words.{signed}
use Rattle.mean_theory.specs.Exact.{pos_part, neg_part}
use Rattle.mean_theory.specs.Rounding.{closest_near}
use Rattle.demand_proved.specs.Exact.{Is, is-add, is_neg, is_mul, is_signed, abs_le}

-- ---- whole numbers as differences

-- z is above - below, one of which is 0
pub record Parts (z : ℤ) : Type 0 where
  pub above : ℕ
  pub below : ℕ
  pub is : Is z above below
  pub size : above + below ≡ nat_abs z

pub parts : (z : ℤ) → Parts z
parts (pos a) = record { above = a; below = 0; is = omega arith; size = omega arith }
parts (negsuc a) = record { above = 0; below = suc a; is = omega arith; size = omega arith }

pub abs_ge : (z : ℤ) (p n : ℕ) → Is z p n → nat_abs z ≤ p + n
abs_ge (pos a) p n h = omega arith
abs_ge (negsuc a) p n h = omega arith

-- the other way from abs_le
le_abs : (z : ℤ) (p n k : ℕ) → Is z p n → nat_abs z * 4096 ≤ k → (4096 * p ≤ 4096 * n + k) × (4096 * n ≤ 4096 * p + k)
le_abs (pos a) p n k h x = (omega arith, omega arith)
le_abs (negsuc a) p n k h x = (omega arith, omega arith)

-- ---- a / b and the whole number nearest to it, against (p - q) / n

-- |a / b - (p - q) / n| ≤ k / 4,096
abbrev Apart : (k a b p q n : ℕ) → Type 0
Apart k a b p q n = (4096 * (a * n + q * b) ≤ 4096 * (p * b) + k * (n * b)) × (4096 * (p * b) ≤ 4096 * (a * n + q * b) + k * (n * b))

rounded : (k a b p q n : ℕ) → 0 < b → Apart k a b p q n
    → (4096 * (closest a b * n + q) ≤ 4096 * p + (k + 2048) * n) × (4096 * p ≤ 4096 * (closest a b * n + q) + (k + 2048) * n)
rounded k a b p q n B h =
    let r = closest a b in
    let c = closest_near a b B in
    let lo : r * b * 2 * n ≤ (a * 2 + b) * n = mul-le-mul_right n c.0 in
    let hi : a * 2 * n ≤ (r * b * 2 + b) * n = mul-le-mul_right n c.1 in
    (le_of_mul-le-mul_right {k = b} (omega (arith, h.0, lo)) B, le_of_mul-le-mul_right {k = b} (omega (arith, h.1, hi)) B)

not_far : (k a b p q n : ℕ) → 0 < n → k ≤ 4096 → p ≤ 2 ^ 30 * n → Apart k a b p q n → a ≤ 2 ^ 53 * b
not_far k a b p q n N K P h =
    let x : p * b ≤ 2 ^ 30 * n * b = mul-le-mul_right b P in
    let y : k * (n * b) ≤ 4096 * (n * b) = mul-le-mul_right (n * b) K in
    let z : a ≤ (2 ^ 30 + 1) * b = le_of_mul-le-mul_right {k = n} (omega (arith, h.0, x, y)) N in
    omega (arith, z)

module _ (k n : ℕ) (z : ℤ) (N : 0 < n) (K : k ≤ 4096) (small : nat_abs z ≤ 2 ^ 30 * n) where
  abbrev p : ℕ
  p = (parts z).above

  abbrev q : ℕ
  q = (parts z).below

  -- the difference of ±a / b and z / n, times both
  differ : (s : Bool) (a b : ℕ) → Is (signed s a *ℤ pos n -ℤ z *ℤ pos b) (pos_part s a * n + q * b) (neg_part s a * n + p * b)
  differ s a b =
      is-add (signed s a *ℤ pos n) (neg_ℤ (z *ℤ pos b)) (pos_part s a * n) (neg_part s a * n) (q * b) (p * b)
      (is_mul (signed s a) (pos_part s a) (neg_part s a) n (is_signed s a)) (is_neg (z *ℤ pos b) (p * b) (q * b) (is_mul z p q b (parts z).is))

  differs : (s : Bool) (a : ℕ) → Is (signed s a *ℤ pos n -ℤ z) (pos_part s a * n + q) (neg_part s a * n + p)
  differs s a =
      is-add (signed s a *ℤ pos n) (neg_ℤ z) (pos_part s a * n) (neg_part s a * n) q p
      (is_mul (signed s a) (pos_part s a) (neg_part s a) n (is_signed s a)) (is_neg z p q (parts z).is)

  pub shown : (s : Bool) (a b : ℕ) → 0 < b → nat_abs (signed s a *ℤ pos n -ℤ z *ℤ pos b) * 4096 ≤ k * (n * b)
      → (nat_abs (signed s (closest a b) *ℤ pos n -ℤ z) * 4096 ≤ (k + 2048) * n) × (a ≤ 2 ^ 53 * b)
  shown false a b B h =
      let w = le_abs (signed false a *ℤ pos n -ℤ z *ℤ pos b) (a * n + q * b) (0 * n + p * b) (k * (n * b)) (differ false a b) h in
      let g : Apart k a b p q n = (omega (arith, w.0), omega (arith, w.1)) in
      let r = rounded k a b p q n B g in (
        abs_le (signed false (closest a b) *ℤ pos n -ℤ z) (closest a b * n + q) (0 * n + p) ((k + 2048) * n) (differs false (closest a b)) (omega (arith, r.0)) (omega (arith, r.1)),
        not_far k a b p q n N K (omega (arith, (parts z).size)) g,
      )
  shown true a b B h =
      let w = le_abs (signed true a *ℤ pos n -ℤ z *ℤ pos b) (0 * n + q * b) (a * n + p * b) (k * (n * b)) (differ true a b) h in
      let g : Apart k a b q p n = (omega (arith, w.1), omega (arith, w.0)) in
      let r = rounded k a b q p n B g in (
        abs_le (signed true (closest a b) *ℤ pos n -ℤ z) (0 * n + q) (closest a b * n + p) ((k + 2048) * n) (differs true (closest a b)) (omega (arith, r.1)) (omega (arith, r.0)),
        not_far k a b q p n N K (omega (arith, (parts z).size)) g,
      )
