-- The sum from -0.0, left to right, of at most 4,096 values of at most 2 ^ 30 in size, which an average divides: the first addition is exact, since the
-- first value is one of the format, and each later one errs by at most 2 ^ -12, since the sum of c values is at most c * 2 ^ 30, and so at most 2 ^ 42.
-- Assumes nothing.
use Rattle.std.specs.Prelude.{◌≡◌, refl, Bool, true, false, List, [], ◌∷◌, ℕ, suc, ◌+◌, ◌*◌, ◌^◌, ◌≤◌, ◌<◌, length, Float}
use Rattle.std.proofs.Common.{sym, zero-le, le_trans, le_of_eq, lt_of_le_of_lt, zero-mul, mul-one, mul-le-mul_right, arith, lit<, lit≤}
use Rattle.std.specs.Float.{binary64}
use Rattle.std.specs.Float.Ieee.{add}
use Rattle.std.specs.Float.Ieee.Exact.{HasValue}
use Rattle.std.specs.Float.Ieee.Scale.{overflow}
use Rattle.model.specs.declared.ConsolidationFn.TheVariants.{Average}
use Rattle.model.specs.Window.{fold, fold_start, fold_step}
use Rattle.mean_theory.specs.Exact.{All, max_count, sign, pos_part, neg_part, Bounded}
use Rattle.mean_theory.specs.Operations.{Balance, balance_le, add_once}
use Rattle.mean_theory.specs.Rounding.{rounded, rounded_near, rounded-le, round_value}
use Rattle.mean_theory.specs.Units.{one, one_pos, add_error, limit, units, pos_units, neg_units, pos_sum, neg_sum, own-units}

-- ---- one rounding: w units, the sum of c values, become at most c * 2 ^ 30 and err by at most e

abbrev Rounds : ℕ → ℕ → ℕ → Type 0
Rounds w c e = (rounded 53 w 1 ≤ c * limit) × (rounded 53 w 1 ≤ w + e) × (w ≤ rounded 53 w 1 + e)

rounds : (w c : ℕ) → c ≤ max_count → w ≤ c * limit → Rounds w c add_error
unfolding limit add_error
rounds w c C h =
    let n = rounded_near 53 w 1 1063 (lit≤ tt) (lit< tt) (le_trans h (le_trans (mul-le-mul_right (2 ^ 1104) C) (lit≤ tt))) in
    let e = halve (rounded 53 w 1) w (2 ^ 1062) n in
    (rounded-le 53 w 1 c 1104 (lit< tt) (lt_of_le_of_lt C (lit< tt)) (le_trans h (le_of_eq (sym (mul-one (c * 2 ^ 1104))))), e.0, e.1)
  where
    halve : (g w e : ℕ) → (g * 1 * 2 ≤ w * 2 + 1 * (2 * e)) × (w * 2 ≤ g * 1 * 2 + 1 * (2 * e)) → (g ≤ w + e) × (w ≤ g + e)
    halve g w e h = omega arith

-- ---- x is the sum of c values, up to e units: their exact sum is p - n units

pub record SumNear (x : Float) (c e p n : ℕ) : Type 0 where
  pub sign : Bool
  pub size : ℕ
  pub value : HasValue x sign size one
  pub bound : size ≤ c * limit
  pub over : pos_part sign size + n ≤ neg_part sign size + p + e
  pub under : neg_part sign size + p ≤ pos_part sign size + n + e

recast : {x : Float} {c e p n : ℕ} (c' e' p' n' : ℕ) → SumNear x c e p n → c' ≡ c → e' ≡ e → p' ≡ p → n' ≡ n → SumNear x c' e' p' n'
recast c' e' p' n' a hc he hp hn = rw (hc, he, hp, hn) a

-- one value more, whose addition errs by at most d
step : (x y : Float) (c e d p n : ℕ) (t : Bool) (b : ℕ) (a : SumNear x c e p n) → HasValue y t b one → suc c ≤ max_count
    → ((r : Bool) (w : ℕ) → Balance r w a.sign a.size t b → Rounds w (suc c) d)
    → SumNear (add binary64 x y) (suc c) (e + d) (p + pos_part t b) (n + neg_part t b)
unfolding one
step x y c e d p n t b a v C errs =
    let k = add_once binary64 one x y a.sign a.size t b one_pos a.value v in
    let r = errs k.sign k.size k.balance in
    let o = lt_of_le_of_lt (le_trans r.0 (mul-le-mul_right limit C)) below_overflow in
    let m = moved k.sign k.size (rounded 53 k.size 1) a.sign a.size k.balance r.1 r.2 a.over a.under in
    record {
      sign = k.sign;
      size = rounded 53 k.size 1;
      value = rw k.once (round_value binary64 k.sign k.size 1 (lit< tt) o);
      bound = r.0;
      over = m.0;
      under = m.1;
    }
  where
    below_overflow : max_count * limit < overflow binary64
    below_overflow = unfold limit in (lit< tt)

    moved : (r : Bool) (w g : ℕ) (s : Bool) (a : ℕ) → Balance r w s a t b → g ≤ w + d → w ≤ g + d
        → pos_part s a + n ≤ neg_part s a + p + e → neg_part s a + p ≤ pos_part s a + n + e
        → (pos_part r g + (n + neg_part t b) ≤ neg_part r g + (p + pos_part t b) + (e + d))
        × (neg_part r g + (p + pos_part t b) ≤ pos_part r g + (n + neg_part t b) + (e + d))
    moved true w g s a h k l o u = omega arith
    moved false w g s a h k l o u = omega arith

-- the first value
first : (x : Float) → Bounded x → SumNear (add binary64 (fold_start Average) x) 1 0 (pos_units x) (neg_units x)
unfolding fold_start
first x h =
    let o = own-units x h in
    let none : SumNear (fold_start Average) 0 0 0 0 =
    record { sign = true; size = 0; value = (refl, zero-mul one); bound = zero-le; over = zero-le; under = zero-le } in
    recast 1 0 (pos_units x) (neg_units x)
    (step (fold_start Average) x 0 0 0 0 0 (sign x) (units x) none o.value (lit≤ tt)
    (λ r w b. rw (alone r w (sign x) (units x) b, o.kept) (omega (arith, o.bound))))
    refl refl (omega arith) (omega arith)
  where
    alone : (r : Bool) (w : ℕ) (t : Bool) (b : ℕ) → Balance r w true 0 t b → w ≡ b
    alone true w true b h = omega arith
    alone true w false b h = omega arith
    alone false w true b h = omega arith
    alone false w false b h = omega arith

-- the values behind it
rest : (ys : List Float) (x : Float) (c e p n : ℕ) → SumNear x c e p n → All Bounded ys → c + length ys ≤ max_count
    → SumNear (fold Average x ys) (c + length ys) (e + length ys * add_error) (p + pos_sum ys) (n + neg_sum ys)
unfolding fold fold_step pos_sum neg_sum
rest [] x c e p n a h l = recast (c + 0) (e + 0 * add_error) (p + 0) (n + 0) a (omega arith) (omega arith) (omega arith) (omega arith)
rest (y ∷ ys) x c e p n a h l =
    let o = own-units y h.0 in
    let C : suc c ≤ max_count = omega arith in
    let a' = step x y c e add_error p n (sign y) (units y) a o.value C
    (λ r w b. rounds w (suc c) C (omega (arith, balance_le r w a.sign a.size (sign y) (units y) b, a.bound, o.bound))) in
    recast (c + suc (length ys)) (e + suc (length ys) * add_error) (p + (pos_units y + pos_sum ys)) (n + (neg_units y + neg_sum ys))
    (rest ys (add binary64 x y) (suc c) (e + add_error) (p + pos_units y) (n + neg_units y) a' h.1 (omega arith))
    (omega arith) (omega arith) (omega arith) (omega arith)

pub sum_near : (x : Float) (xs : List Float) → All Bounded (x ∷ xs) → length (x ∷ xs) ≤ max_count
    → SumNear (fold Average (fold_start Average) (x ∷ xs)) (length (x ∷ xs)) (length xs * add_error) (pos_sum (x ∷ xs)) (neg_sum (x ∷ xs))
unfolding fold fold_step pos_sum neg_sum
sum_near x xs h l =
    recast (suc (length xs)) (length xs * add_error) (pos_units x + pos_sum xs) (neg_units x + neg_sum xs)
    (rest xs (add binary64 (fold_start Average) x) 1 0 (pos_units x) (neg_units x) (first x h.0) h.1 (omega arith))
    (omega arith) (omega arith) refl refl
