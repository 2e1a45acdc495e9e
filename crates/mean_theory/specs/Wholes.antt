-- "Whole offsets add exactly, the mean rounds once" (document 01). The sum of whole numbers from -0.0, left to right, is exact as long as their sizes
-- add up to at most 2 ^ 53, as those of 4,096 whole offsets do; a sum of 0 has the sign that the values give it. So the sum is known bit for bit
-- (proofs/Wholes), and the average of whole offsets is the exact quotient, rounded once. Assumes nothing.
use Rattle.std.specs.Prelude.{◌≡◌, refl, Bool, not, ◌&&◌, cond, pos, negsuc, eqb, leb, length, Float}
use Rattle.std.proofs.Common.{sym, ap, ◌∙◌, subst, le_trans, zero-add, add-zero, add_assoc, mul-one, mul-le-mul_left, mul-div_cancel, arith, T_not, eqb→eq, leb→le, lit<, lit≤}
use Rattle.std.proofs.Math.Bool.{true, false, and-true, and-false, and_assoc}
use mathlib.Core.List.{List, [], ◌∷◌, ◌++◌}
use Prim.Native.Nat.{ℕ, zero, suc, ◌+◌, ◌-◌, ◌*◌, ◌/◌, ◌^◌, ◌≤◌, ◌<◌}
use Rattle.std.proofs.Math.Nat.{mod-add-div', mul-mod_left, zero-div}
use Rattle.std.proofs.Math.Dec.{T, eqb-suc-zero, eqb_refl, nleb→lt}
use Rattle.std.specs.Float.{nan, inf, fin}
use Rattle.std.specs.Float.Ieee.{binary64, up, round, add, of_int, fits}
use Rattle.std.specs.Float.Ieee.Fits.{add-fits, of_int-fits, and_l, and_r}
use Rattle.std.specs.Float.Ieee.Back.{round_whole, whole_unique}
use Rattle.std.specs.Float.Ieee.Exact.{HasValue}
use Rattle.std.specs.Float.Ieee.Positive.{num, den, den_pos}
use Rattle.model.specs.declared.ConsolidationFn.TheVariants.{Average, Sum}
use Rattle.model.specs.Window.{fold, fold_start, fold_step, fold_end, apply}
use Rattle.mean_theory.specs.Exact.{All, max_count, Counted, sign, pos_part, neg_part, WholeNumber, Offset, aboves, belows, neg_zero, neg_zeros, whole_float}
use Rattle.mean_theory.specs.Operations.{value_says, parts, add_once, div_once}

-- ---- one whole number

pub whole-num : (x : Float) → WholeNumber x → num x ≡ num x / den x * den x
whole-num x h = sym (mod-add-div' (num x) (den x)) ∙ rw h.2 (zero-add (num x / den x * den x))

whole_value : (x : Float) → WholeNumber x → HasValue x (sign x) (num x / den x) 1
whole_value nan h = absurd h.0
whole_value (inf s) h = absurd h.0
whole_value (fin s m e) h = (refl, mul-one (m * up e) ∙ whole-num (fin s m e) h)

pub whole_of : (x : Float) (s : Bool) (a : ℕ) → T (fits binary64 x) → HasValue x s a 1 → WholeNumber x × (sign x ≡ s) × (num x / den x ≡ a)
whole_of x s a f v =
    let k = value_says x s a 1 v in
    let e : num x ≡ a * den x = sym (mul-one (num x)) ∙ k.2 in
    ((k.0, f, rw e (mul-mod_left a (den x))), k.1, rw e (mul-div_cancel a (den_pos x)))

-- x is the whole number p - n, and if that is 0 it has the sign b
pub record IsWhole (x : Float) (p n : ℕ) (b : Bool) : Type 0 where
  pub sign : Bool
  pub size : ℕ
  pub value : HasValue x sign size 1
  pub exact : pos_part sign size + n ≡ neg_part sign size + p
  pub zero_sign : size ≡ 0 → sign ≡ b

pub size_le : (s : Bool) (w p n : ℕ) → pos_part s w + n ≡ neg_part s w + p → w ≤ p + n
size_le true w p n h = omega arith
size_le false w p n h = omega arith

-- ---- the sum

-- ±a + ±c is 0, and m is c times d: the sum is -0.0 where both are
zeros : (s t b : Bool) (a c m d : ℕ) → neg_part s a + neg_part t c ≡ pos_part s a + pos_part t c → (a ≡ 0 → s ≡ b) → 0 < d → m ≡ c * d
    → s && t ≡ b && (t && eqb m 0)
zeros s false b a c m d h z D k = and-false s ∙ sym (and-false b)
zeros true true b a c zero d h z D k = ap (λ (v : Bool). v && true) (z (omega arith))
zeros false true b a c zero d h z D k = ap (λ (v : Bool). v && true) (z (omega (arith, mul-le-mul_left c D)))
zeros true true b a c (suc m) d h z D k = let e : c ≡ 0 = omega arith in absurd (omega (arith, rw e at k))
zeros false true b a c (suc m) d h z D k = rw (eqb-suc-zero m) (sym (and-false b))

step : (x y : Float) (p n : ℕ) (b : Bool) → IsWhole x p n b → WholeNumber y
    → let z = num y / den y in p + pos_part (sign y) z + (n + neg_part (sign y) z) ≤ 2 ^ 53
    → IsWhole (add binary64 x y) (p + pos_part (sign y) z) (n + neg_part (sign y) z) (b && neg_zero y)
step x y p n b a h l =
    let z = num y / den y in
    let p' = p + pos_part (sign y) z in
    let n' = n + neg_part (sign y) z in
    let k = add_once binary64 1 x y a.sign a.size (sign y) z (lit< tt) a.value (whole_value y h) in
    let e : pos_part k.sign k.size + n' ≡ neg_part k.sign k.size + p' = omega (arith, k.balance, a.exact) in
    let none : k.size ≡ 0 → neg_part a.sign a.size + neg_part (sign y) z ≡ pos_part a.sign a.size + pos_part (sign y) z =
    λ w. omega (arith, k.balance, parts k.sign k.size) in
    record {
      sign = k.sign;
      size = k.size;
      value = rw k.once (round_whole binary64 k.sign k.size (le_trans (size_le k.sign k.size p' n' e) l));
      exact = e;
      zero_sign = λ w. k.zero_sign w ∙ zeros a.sign (sign y) b a.size z (num y) (den y) (none w) a.zero_sign (den_pos y) (whole-num y h);
    }

sums_from : (ys : List Float) (x : Float) (p n : ℕ) (b : Bool) → IsWhole x p n b → All WholeNumber ys → p + aboves ys + (n + belows ys) ≤ 2 ^ 53
    → IsWhole (fold Average x ys) (p + aboves ys) (n + belows ys) (b && neg_zeros ys)
unfolding fold fold_step aboves belows neg_zeros
sums_from [] x p n b a h l = rw (add-zero p, add-zero n, and-true b) a
sums_from (y ∷ ys) x p n b a h l =
    let u = pos_part (sign y) (num y / den y) in
    let v = neg_part (sign y) (num y / den y) in
    rw (← add_assoc p u (aboves ys), ← add_assoc n v (belows ys), ← and_assoc b (neg_zero y) (neg_zeros ys))
    (sums_from ys (add binary64 x y) (p + u) (n + v) (b && neg_zero y) (step x y p n b a h.0 (omega arith)) h.1 (omega arith))

average_sum : (xs : List Float) → All WholeNumber xs → aboves xs + belows xs ≤ 2 ^ 53
    → IsWhole (fold Average (fold_start Average) xs) (aboves xs) (belows xs) (neg_zeros xs)
unfolding fold_start
average_sum xs h l =
    let none : IsWhole (fold_start Average) 0 0 true = record { sign = true; size = 0; value = (refl, refl); exact = refl; zero_sign = λ z. refl } in
    rw (← zero-add (aboves xs), ← zero-add (belows xs)) (sums_from xs (fold_start Average) 0 0 true none h (omega arith))

-- Sum adds as Average does
pub sum_same : (xs : List Float) → fold Sum (fold_start Sum) xs ≡ fold Average (fold_start Average) xs
unfolding fold fold_start fold_step
sum_same xs = from (fin true 0 (pos 0)) xs
  where
    from : (a : Float) (xs : List Float) → fold Sum a xs ≡ fold Average a xs
    from a [] = refl
    from a (x ∷ xs) = from (add binary64 a x) xs

pub sum-exact : (xs : List Float) → All WholeNumber xs → aboves xs + belows xs ≤ 2 ^ 53
    → IsWhole (fold Sum (fold_start Sum) xs) (aboves xs) (belows xs) (neg_zeros xs)
sum-exact xs h l = rw (sum_same xs) (average_sum xs h l)

pub sum_fits : (xs : List Float) → T (fits binary64 (fold Sum (fold_start Sum) xs))
unfolding fold fold_start fold_step
sum_fits xs = from (fin true 0 (pos 0)) xs (unfold fits in tt)
  where
    from : (a : Float) (xs : List Float) → T (fits binary64 a) → T (fits binary64 (fold Sum a xs))
    from a [] h = h
    from a (x ∷ xs) h = from (add binary64 a x) xs (add-fits binary64 a x)

pub append_sums : (xs ys : List Float) → (aboves (xs ++ ys) ≡ aboves xs + aboves ys) × (belows (xs ++ ys) ≡ belows xs + belows ys)
unfolding aboves belows
append_sums [] ys = (omega arith, omega arith)
append_sums (x ∷ xs) ys = let r = append_sums xs ys in (omega (arith, r.0), omega (arith, r.1))

-- ---- the sum bit for bit: a whole number is one float, but for the sign of 0

same_number : (s t b : Bool) (a c p n p' n' : ℕ) → pos_part s a + n ≡ neg_part s a + p → pos_part t c + n' ≡ neg_part t c + p' → p + n' ≡ n + p'
    → (a ≡ 0 → s ≡ b) → (c ≡ 0 → t ≡ b) → (s ≡ t) × (a ≡ c)
same_number true true b a c p n p' n' h k e y z = (refl, omega arith)
same_number false false b a c p n p' n' h k e y z = (refl, omega arith)
same_number true false b a c p n p' n' h k e y z = (y (omega arith) ∙ sym (z (omega arith)), omega arith)
same_number false true b a c p n p' n' h k e y z = (y (omega arith) ∙ sym (z (omega arith)), omega arith)

pub whole_same : (x y : Float) (p n p' n' : ℕ) (b : Bool) → T (fits binary64 x) → T (fits binary64 y) → IsWhole x p n b → IsWhole y p' n' b
    → p + n' ≡ n + p' → x ≡ y
whole_same x y p n p' n' b f g v w e =
    let k = same_number v.sign w.sign b v.size w.size p n p' n' v.exact w.exact e v.zero_sign w.zero_sign in
    whole_unique binary64 x y v.sign v.size f g v.value (rw (k.0, k.1) w.value)

pub float_whole : (p n : ℕ) (b : Bool) → p + n ≤ 2 ^ 53 → IsWhole (whole_float p n b) p n b × T (fits binary64 (whole_float p n b))
unfolding whole_float of_int
float_whole p n b l =
    go (eqb p n) (leb n p) (eqb→eq p n) (λ t e. T_not (eqb p n) t (subst (λ (z : ℕ). T (eqb p z)) e (eqb_refl p))) (leb→le n p) (nleb→lt n p)
  where
    zero_exact : (b : Bool) → p ≡ n → pos_part b 0 + n ≡ neg_part b 0 + p
    zero_exact true e = omega arith
    zero_exact false e = omega arith

    go : (x y : Bool) → (T x → p ≡ n) → (T (not x) → p ≡ n → ⊥) → (T y → n ≤ p) → (T (not y) → p < n)
        → let z = cond x (fin b 0 (pos 0)) (of_int binary64 (cond y (pos (p - n)) (negsuc (n - suc p)))) in IsWhole z p n b × T (fits binary64 z)
    go true y e d g k =
        (record { sign = b; size = 0; value = (refl, refl); exact = zero_exact b (e tt); zero_sign = λ z. refl }, unfold fits in tt)
    go false true e d g k =
        let v = round_whole binary64 false (p - n) (omega arith) in
        let z : p - n ≡ 0 → false ≡ b = λ h. absurd (d tt (omega (arith, g tt))) in
        (record { sign = false; size = p - n; value = v; exact = omega (arith, g tt); zero_sign = z }, of_int-fits binary64 (pos (p - n)))
    go false false e d g k =
        let a = suc (n - suc p) in
        let v = round_whole binary64 true a (omega arith) in
        let z : a ≡ 0 → true ≡ b = λ h. absurd (omega arith) in
        (record { sign = true; size = a; value = v; exact = omega (arith, k tt); zero_sign = z }, of_int-fits binary64 (negsuc (n - suc p)))

pub neg_zeros_none : (xs : List Float) → T (neg_zeros xs) → (aboves xs ≡ 0) × (belows xs ≡ 0)
unfolding aboves belows neg_zeros
neg_zeros_none [] h = (refl, refl)
neg_zeros_none (x ∷ xs) h =
    let r = neg_zeros_none xs (and_r (neg_zero x) (neg_zeros xs) h) in
    let z : num x ≡ 0 = eqb→eq (num x) 0 (and_r (sign x) (eqb (num x) 0) (and_l (neg_zero x) (neg_zeros xs) h)) in
    let q : num x / den x ≡ 0 = rw z (zero-div (den x)) in
    (omega (arith, r.0, parts (sign x) (num x / den x)), omega (arith, r.1, parts (sign x) (num x / den x)))

-- ---- whole offsets

offsets_bound : (xs : List Float) → All Offset xs → All WholeNumber xs × (aboves xs + belows xs ≤ length xs * 2 ^ 30)
unfolding aboves belows
offsets_bound [] h = (tt, lit≤ tt)
offsets_bound (x ∷ xs) h = let r = offsets_bound xs h.1 in ((h.0.0, r.0), omega (arith, r.1, h.0.1, parts (sign x) (num x / den x)))

pub offsets_whole : (xs : List Float) → All Offset xs → length xs ≤ max_count → All WholeNumber xs × (aboves xs + belows xs ≤ 2 ^ 53)
offsets_whole xs h l = let r = offsets_bound xs h in (r.0, omega (arith, r.1))

-- document 01's sentence: whole offsets add exactly
pub offsets_sum : (xs : List Float) → All Offset xs → length xs ≤ max_count → IsWhole (fold Sum (fold_start Sum) xs) (aboves xs) (belows xs) (neg_zeros xs)
offsets_sum xs h l = let o = offsets_whole xs h l in sum-exact xs o.0 o.1

-- and the mean rounds once: the average is the exact quotient, rounded
pub average_once : (xs : List Float) → All Offset xs → Counted xs
    → (w : IsWhole (fold Average (fold_start Average) xs) (aboves xs) (belows xs) (neg_zeros xs))
    × (apply Average xs ≡ round binary64 w.sign w.size (length xs))
unfolding apply fold_end of_int
average_once xs h c =
    let n = length xs in
    let x = fold Average (fold_start Average) xs in
    let o = offsets_whole xs h c.1 in
    let w = average_sum xs o.0 o.1 in
    let v = round_whole binary64 false n (le_trans c.1 (lit≤ tt)) in
    let q = div_once binary64 1 x (round binary64 false n 1) w.sign w.size n (lit< tt) c.0 w.value v in
    (w, q ∙ ap (λ (z : ℕ). round binary64 w.sign w.size z) (mul-one n))
