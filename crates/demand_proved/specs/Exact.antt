-- The statement's `within`, which goes by whole numbers with a sign, from the float bound, which goes by two natural numbers. It is the one
-- step from the floats to the statement's words. Assumes nothing.
use Rattle.std.specs.Prelude.{ℕ, zero, suc, ◌+◌, ◌*◌, ◌≤◌, ◌<◌, ◌≡◌, refl, Bool, true, false, ℤ, pos, negsuc, neg_ℤ, nat_abs, ◌+ℤ◌, ◌-ℤ◌, ◌*ℤ◌, Float}
use Rattle.std.proofs.Common.{arith, ap}
use Rattle.std.proofs.Math.Decide.{dec_lt}
use Rattle.std.proofs.Math.IntN.{sub_ℕ}
use Rattle.std.specs.Float.{nan, inf, fin}
use Rattle.std.specs.Float.Ieee.{up, down}
use Rattle.model.specs.Words.{signed}
use Rattle.demand.specs.Demand.{within}
use Rattle.laws.specs.Tests.{yes_le, yes_lt, no_lt}
use Rattle.mean_theory.specs.Exact.{pos_part, neg_part, Within}

-- of a whole number the part above 0 and the part below
abbrev over : ℤ → ℕ
over (pos a) = a
over (negsuc a) = 0

abbrev under : ℤ → ℕ
under (pos a) = 0
under (negsuc a) = suc a

-- z is p - n
abbrev pub Is : ℤ → ℕ → ℕ → Type 0
Is z p n = over z + n ≡ under z + p

sub_is : (a b : ℕ) → over (sub_ℕ a b) + b ≡ under (sub_ℕ a b) + a
sub_is a b = go (dec_lt a b)
  where
    go : Dec (a < b) → over (sub_ℕ a b) + b ≡ under (sub_ℕ a b) + a
    go (yes p) = rw (yes_lt a b p) (omega arith)
    go (no p) = rw (no_lt a b (omega arith)) (omega arith)

pub is-add : (y z : ℤ) (p n p' n' : ℕ) → Is y p n → Is z p' n' → Is (y +ℤ z) (p + p') (n + n')
is-add (pos a) (pos b) p n p' n' h g = omega arith
is-add (pos a) (negsuc b) p n p' n' h g = omega (arith, sub_is a (suc b))
is-add (negsuc a) (pos b) p n p' n' h g = omega (arith, sub_is b (suc a))
is-add (negsuc a) (negsuc b) p n p' n' h g = omega arith

neg_pos : (k : ℕ) → (over (neg_ℤ (pos k)) ≡ 0) × (under (neg_ℤ (pos k)) ≡ k)
neg_pos zero = (refl, refl)
neg_pos (suc k) = (refl, refl)

pub is_neg : (z : ℤ) (p n : ℕ) → Is z p n → Is (neg_ℤ z) n p
is_neg (pos a) p n h = omega (arith, neg_pos a)
is_neg (negsuc a) p n h = omega arith

pub is_mul : (z : ℤ) (p n e : ℕ) → Is z p n → Is (z *ℤ pos e) (p * e) (n * e)
is_mul (pos a) p n e h = let f : (a + n) * e ≡ (0 + p) * e = ap (λ (x : ℕ). x * e) h in omega arith
is_mul (negsuc a) p n e h = let f : (0 + n) * e ≡ (suc a + p) * e = ap (λ (x : ℕ). x * e) h in omega (arith, neg_pos (suc a * e))

pub is_signed : (s : Bool) (a : ℕ) → Is (signed s a) (pos_part s a) (neg_part s a)
unfolding signed
is_signed false a = omega arith
is_signed true a = omega (arith, neg_pos a)

pub abs_le : (z : ℤ) (p n k : ℕ) → Is z p n → 4096 * p ≤ 4096 * n + k → 4096 * n ≤ 4096 * p + k → nat_abs z * 4096 ≤ k
abs_le (pos a) p n k h x y = omega arith
abs_le (negsuc a) p n k h x y = omega arith

-- z is p - n, and x is within k / 4,096 of (p - n) / o
pub within-is : (k : ℕ) (x : Float) (z : ℤ) (p n o : ℕ) → Is z p n → Within x (record { above = p; below = n; over = o }) k → within k x z o ≡ true
unfolding within
within-is k nan z p n o h w = absurd w.0
within-is k (inf s) z p n o h w = absurd w.0
within-is k (fin s m e) z p n o h w =
    let a = m * up e in
    let d = down e in
    let u = is_mul (signed s a) (pos_part s a) (neg_part s a) o (is_signed s a) in
    let v = is_neg (z *ℤ pos d) (p * d) (n * d) (is_mul z p n d h) in
    let t = is-add (signed s a *ℤ pos o) (neg_ℤ (z *ℤ pos d)) (pos_part s a * o) (neg_part s a * o) (n * d) (p * d) u v in
    yes_le (nat_abs (signed s a *ℤ pos o -ℤ z *ℤ pos d) * 4096) (k * (o * d))
    (abs_le (signed s a *ℤ pos o -ℤ z *ℤ pos d) (pos_part s a * o + n * d) (neg_part s a * o + p * d) (k * (o * d)) t w.1.0 w.1.1)
