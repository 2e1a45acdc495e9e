-- The average of 1 to 4,096 bounded values is bounded, so it can be averaged in turn, and within 1 / 4,096 of their exact mean: the sum of c values errs
-- by at most (c - 1) * 2 ^ -12, so a c-th of it by at most 2 ^ -12 - 2 ^ -12 / c; the division adds at most 2 ^ -24, and that is at most 2 ^ -12 / c, since
-- c is at most 4,096. So where each value is within e / n of an exact number, the average is within e / n + 1 / 4,096 of the mean of those
-- (`average_within`). Assumes nothing.
use Rattle.std.specs.Prelude.{◌≡◌, refl, Bool, List, [], ◌∷◌, ℕ, suc, ◌+◌, ◌*◌, ◌^◌, ◌≤◌, ◌<◌, pos, T, length, Float}
use Rattle.std.proofs.Common.{sym, ap, le_trans, le_of_eq, lt_of_le_of_lt, mul_comm, mul-le-mul_right, zero-lt-suc, lt_irrefl, lit<, lit≤}
use Rattle.std.proofs.Math.Bool.{true, false}
use native.Mathlib.Omega.{arith}
use Rattle.std.specs.Float.Ieee.{binary64, round, div, of_int, fits}
use Rattle.std.specs.Float.Ieee.Fits.{div-fits}
use Rattle.std.specs.Float.Ieee.Back.{round_whole}
use Rattle.std.specs.Float.Ieee.Exact.{HasValue}
use Rattle.std.specs.Float.Ieee.Positive.{num, den, den_pos}
use Rattle.model.specs.declared.ConsolidationFn.TheVariants.{Average}
use Rattle.model.specs.Window.{fold, fold_start, fold_end, apply}
use Rattle.mean_theory.specs.Exact.{All, All2, max_count, Counted, Frac, exact_sum, exact_mean, sign, pos_part, neg_part, Near, Distance, Bounded}
use Rattle.mean_theory.specs.Operations.{value_says, div_once}
use Rattle.mean_theory.specs.Rounding.{rounded, rounded_near, rounded-le, round_value}
use Rattle.mean_theory.specs.Units.{one, one_pos, one-is, add_error, add_error-is, div_error, limit, units, pos_units, neg_units, pos_sum, neg_sum, units_are, own-units, bounded_of}
use Rattle.mean_theory.specs.Nearness.{near_carry, near_add, near_mean}
use Rattle.mean_theory.proofs.Sums.{SumNear, sum_near}

pub average_fits : (xs : List Float) → T (fits binary64 (apply Average xs))
unfolding apply fold_end
average_fits xs = div-fits binary64 (fold Average (fold_start Average) xs) (of_int binary64 (pos (length xs)))

-- ---- the division: a / c units, at most 2 ^ 30, stay at most 2 ^ 30 and err by at most 2 ^ -24

quotient_rounds : (a c : ℕ) → 0 < c → a ≤ c * limit
    → (rounded 53 a c ≤ limit) × (rounded 53 a c * c ≤ a + c * div_error) × (a ≤ rounded 53 a c * c + c * div_error)
unfolding limit div_error
quotient_rounds a c C h =
    let l : a ≤ 1 * 2 ^ 1104 * c = le_trans h (le_of_eq (mul_comm c (2 ^ 1104))) in
    let e = halve (rounded 53 a c) a c (2 ^ 1050) (rounded_near 53 a c 1051 (lit≤ tt) C l) in
    (rounded-le 53 a c 1 1104 C (lit< tt) l, e.0, e.1)
  where
    halve : (g a c e : ℕ) → (g * c * 2 ≤ a * 2 + c * (2 * e)) × (a * 2 ≤ g * c * 2 + c * (2 * e)) → (g * c ≤ a + c * e) × (a ≤ g * c + c * e)
    halve g a c e h = omega arith

-- c times x is p - n units, up to e units
abbrev TimesNear : ℕ → Float → ℕ → ℕ → ℕ → Type 0
TimesNear c x p n e = (pos_units x * c + n ≤ neg_units x * c + p + e) × (neg_units x * c + p ≤ pos_units x * c + n + e)

quotient_near : (x : Float) (c e p n : ℕ) → SumNear x c e p n → 0 < c → c ≤ max_count
    → let y = div binary64 x (of_int binary64 (pos c)) in Bounded y × TimesNear c y p n (e + c * div_error)
unfolding of_int one
quotient_near x c e p n a C L =
    let count = round binary64 false c 1 in
    let y = div binary64 x count in
    let g = rounded 53 a.size c in
    let r = quotient_rounds a.size c C a.bound in
    let v : HasValue y a.sign g one =
    rw (div_once binary64 one x count a.sign a.size c one_pos C a.value (round_whole binary64 false c (le_trans L (lit≤ tt))))
    (round_value binary64 a.sign a.size c C (lt_of_le_of_lt r.0 (unfold limit in (lit< tt)))) in
    let u = units_are y a.sign g v in
    (bounded_of y a.sign g (div-fits binary64 x count) v r.0, rw (u.0, u.1) (moved a.sign a.size g r.1 r.2 a.over a.under))
  where
    moved : (s : Bool) (a g : ℕ) → g * c ≤ a + c * div_error → a ≤ g * c + c * div_error
        → pos_part s a + n ≤ neg_part s a + p + e → neg_part s a + p ≤ pos_part s a + n + e
        → (pos_part s g * c + n ≤ neg_part s g * c + p + (e + c * div_error)) × (neg_part s g * c + p ≤ pos_part s g * c + n + (e + c * div_error))
    moved true a g h k o u = omega arith
    moved false a g h k o u = omega arith

-- ---- the average against the values' exact mean

average_near : (x : Float) (xs : List Float) → All Bounded (x ∷ xs) → length (x ∷ xs) ≤ max_count
    → let c = length (x ∷ xs) in
    Bounded (apply Average (x ∷ xs)) × TimesNear c (apply Average (x ∷ xs)) (pos_sum (x ∷ xs)) (neg_sum (x ∷ xs)) (c * add_error)
unfolding apply fold_end
average_near x xs h l =
    let c = suc (length xs) in
    let P = pos_sum (x ∷ xs) in
    let N = neg_sum (x ∷ xs) in
    let k = quotient_near (fold Average (fold_start Average) (x ∷ xs)) c (length xs * add_error) P N (sum_near x xs h l) (zero-lt-suc (length xs)) l in
    let d : c * div_error ≤ add_error = le_trans (mul-le-mul_right div_error l) (le_of_eq (sym add_error-is)) in
    (k.0, looser (apply Average (x ∷ xs)) c P N (length xs * add_error + c * div_error) (c * add_error) (omega arith) k.1)
  where
    looser : (y : Float) (c p n e e' : ℕ) → e ≤ e' → TimesNear c y p n e → TimesNear c y p n e'
    looser y c p n e e' h k = (omega (arith, k.0), omega (arith, k.1))

-- ---- and against the mean of exact numbers that the values are near to

-- `Distance` in units, and back
carried : (s : Bool) (a c w u : ℕ) → a * u ≡ w * c → (pos_part s a * u ≡ pos_part s w * c) × (neg_part s a * u ≡ neg_part s w * c)
carried true a c w u h = (omega arith, h)
carried false a c w u h = (h, omega arith)

units_value : (x : Float) → Bounded x → num x * one ≡ units x * den x
units_value x h = (value_says x (sign x) (units x) one (own-units x h).value).2

to_units : (x : Float) (q : Frac) (e n : ℕ) → Bounded x → Distance x q e n → Near (pos_units x) (neg_units x) one q e n
to_units x q e n h k =
    let c = carried (sign x) (num x) (den x) (units x) one (units_value x h) in
    near_carry (pos_part (sign x) (num x)) (neg_part (sign x) (num x)) (den x) (pos_units x) (neg_units x) one q e n (den_pos x) c.0 c.1 k.1

of_units : (x : Float) (q : Frac) (e n : ℕ) → Bounded x → Near (pos_units x) (neg_units x) one q e n → Distance x q e n
of_units x q e n h k =
    let c = carried (sign x) (units x) one (num x) (den x) (sym (units_value x h)) in
    (h.0, near_carry (pos_units x) (neg_units x) one (pos_part (sign x) (num x)) (neg_part (sign x) (num x)) (den x) q e n one_pos c.0 c.1 k)

sums_near : (xs : List Float) (qs : List Frac) (e n : ℕ) → All2 (λ x q. Bounded x × Distance x q e n) xs qs
    → All Bounded xs × (length xs ≡ length qs) × Near (pos_sum xs) (neg_sum xs) one (exact_sum qs) (length xs * e) n
unfolding pos_sum neg_sum exact_sum
sums_near [] (q ∷ qs) e n h = elim h [ ]
sums_near (x ∷ xs) [] e n h = elim h [ ]
sums_near [] [] e n h = (tt, refl, (omega arith, omega arith))
sums_near (x ∷ xs) (q ∷ qs) e n h =
    let r = sums_near xs qs e n h.1 in
    let z : suc (length xs) * e ≡ e + length xs * e = omega arith in
    let u = to_units x q e n h.0.0 h.0.1 in
    let k = near_add (pos_units x) (neg_units x) (pos_sum xs) (neg_sum xs) one q (exact_sum qs) e (length xs * e) n u r.2 in
    ((h.0.0, r.0), ap suc r.1, rw z k)

pub average_within : (xs : List Float) (qs : List Frac) (e n : ℕ) → Counted xs → All2 (λ x q. Bounded x × Distance x q e n) xs qs
    → Bounded (apply Average xs) × Distance (apply Average xs) (exact_mean qs) (4096 * e + n) (4096 * n)
unfolding exact_mean
average_within [] qs e n c h = absurd (lt_irrefl 0 c.0)
average_within (x ∷ xs) qs e n c h =
    let y = apply Average (x ∷ xs) in
    let s = sums_near (x ∷ xs) qs e n h in
    let m = average_near x xs s.0 c.1 in
    let P = pos_sum (x ∷ xs) in
    let N = neg_sum (x ∷ xs) in
    let k = near_mean (pos_units y) (neg_units y) P N (length (x ∷ xs)) one add_error (exact_sum qs) e n one-is m.1.0 m.1.1 s.2 in
    (m.0, of_units y (exact_mean qs) (4096 * e + n) (4096 * n) m.0 (rw (← s.1) k))

-- bounded, whatever the values stand for: a window that is still open
pub average_bounded : (xs : List Float) → Counted xs → All Bounded xs → Bounded (apply Average xs)
average_bounded [] c h = absurd (lt_irrefl 0 c.0)
average_bounded (x ∷ xs) c h = (average_near x xs h c.1).0
