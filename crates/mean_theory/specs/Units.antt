-- A finite value of binary64 as a whole number of units, a unit being 2 ^ -1074, its smallest positive value. In units the exact sum of floats is a
-- difference of two natural numbers, and errors add up. Assumes nothing.
use Rattle.std.specs.Prelude.{◌≡◌, refl, Bool, List, [], ◌∷◌, ℕ, ◌+◌, ◌*◌, ◌/◌, ◌^◌, ◌≤◌, ◌<◌, T, Float}
use Rattle.std.proofs.Common.{sym, ap, ◌∙◌, le_trans, le_of_eq, mul-one, mul-le-mul_right, le_of_mul-le-mul_right, mul-div_cancel, arith, lit<, pow_pos}
use Rattle.std.specs.Float.{nan, inf, fin, binary64}
use Rattle.std.specs.Float.Ieee.{up, down, fits}
use Rattle.std.specs.Float.Ieee.Fits.{down_pos}
use Rattle.std.specs.Float.Ieee.Exact.{HasValue}
use Rattle.std.specs.Float.Ieee.Positive.{num, den, den_pos}
use Rattle.mean_theory.specs.Exact.{max_count, sign, pos_part, neg_part, Bounded}
use Rattle.mean_theory.specs.Operations.{value_says, in_units}
use Rattle.mean_theory.specs.Rounding.{rounded, rounded-exact}

-- In units: 1; 2 ^ -12, which bounds the error of one addition; 2 ^ -24, which bounds that of the division; and 2 ^ 30. They are shut, so that linear
-- arithmetic has them for unknowns: their numerals are too long for it.
unfoldable pub one : ℕ
one = 2 ^ 1074

unfoldable pub add_error : ℕ
add_error = 2 ^ 1062

unfoldable pub div_error : ℕ
div_error = 2 ^ 1050

unfoldable pub limit : ℕ
limit = 2 ^ 1104

pub one_pos : 0 < one
unfolding one
one_pos = pow_pos 1074

pub one-is : one ≡ 4096 * add_error
unfolding one add_error
one-is = refl

pub add_error-is : add_error ≡ max_count * div_error
unfolding add_error div_error
add_error-is = refl

limit_is : limit ≡ 2 ^ 30 * one
unfolding limit one
limit_is = refl

-- ---- a finite value is ±units, the exact sum of several is pos_sum - neg_sum

abbrev pub units : Float → ℕ
units x = num x * one / den x

abbrev pub pos_units : Float → ℕ
pos_units x = pos_part (sign x) (units x)

abbrev pub neg_units : Float → ℕ
neg_units x = neg_part (sign x) (units x)

unfoldable pub pos_sum : List Float → ℕ
pos_sum [] = 0
pos_sum (x ∷ xs) = pos_units x + pos_sum xs

unfoldable pub neg_sum : List Float → ℕ
neg_sum [] = 0
neg_sum (x ∷ xs) = neg_units x + neg_sum xs

pub units_are : (x : Float) (s : Bool) (w : ℕ) → HasValue x s w one → (sign x ≡ s) × (units x ≡ w)
units_are x s w v =
    let k = value_says x s w one v in
    (k.1, ap (λ (z : ℕ). z / den x) k.2 ∙ mul-div_cancel w (den_pos x))

-- ---- a bounded value: its units are at most 2 ^ 30, and rounding leaves them as they are

pub record OwnUnits (x : Float) : Type 0 where
  pub value : HasValue x (sign x) (units x) one
  pub bound : units x ≤ limit
  pub kept : rounded 53 (units x) 1 ≡ units x

pub own-units : (x : Float) → Bounded x → OwnUnits x
unfolding one
own-units nan h = absurd h.0
own-units (inf s) h = absurd h.0
own-units (fin s m e) h =
    let u = in_units binary64 s m e h.1 in
    let w = m * 2 ^ u.power in
    let is : units (fin s m e) ≡ w = (units_are (fin s m e) s w u.value).1 in
    record {
      value = (refl, rw is u.value.1);
      bound = rw (is, limit_is) (le_of_mul-le-mul_right (size_le (m * up e) (down e) w (2 ^ 30) one u.value.1 h.2) (down_pos e));
      kept = rw is (ap (λ (z : ℕ). rounded 53 z 1) (sym (mul-one w)) ∙ rounded-exact 53 1 m u.power (lit< tt) u.digits);
    }
  where
    size_le : (n d w t u : ℕ) → n * u ≡ w * d → n ≤ t * d → w * d ≤ t * u * d
    size_le n d w t u e h = omega (arith, mul-le-mul_right u h)

pub bounded_of : (x : Float) (s : Bool) (w : ℕ) → T (fits binary64 x) → HasValue x s w one → w ≤ limit → Bounded x
bounded_of x s w f v h =
    let k = value_says x s w one v in
    (k.0, f, le_of_mul-le-mul_right (size_le (num x) (den x) w (2 ^ 30) one k.2 (le_trans h (le_of_eq limit_is))) one_pos)
  where
    size_le : (n d w t u : ℕ) → n * u ≡ w * d → w ≤ t * u → n * u ≤ t * d * u
    size_le n d w t u e h = omega (arith, mul-le-mul_right d h)
