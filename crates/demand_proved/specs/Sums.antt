-- The samples of a window, counted and summed: where a column has one sample at each tick of the window, they are as many as its ticks, and their whole sum is
-- that of the tick's values. So the statement's exact mean is the one that the float bound speaks of. Assumes nothing.
use Prim.Native.Nat.{ℕ, zero, suc, ◌+◌, ◌*◌, ◌/◌, ◌%◌, ◌≤◌, ◌<◌}
use Rattle.std.proofs.Common.{zero-add, add-zero, zero-mul, mul-le-mul_right, lt_of_mul-lt-mul_right, sym, ap, ◌∙◌}
use native.Mathlib.Omega.{arith}
use Rattle.std.proofs.Math.Decide.{dec_lt, ℕ_discrete}
use Rattle.std.specs.Prelude.{◌≡◌, Bool, true, false, ◌&&◌, cond, leb, ltb, eqb, pos, Float}
use Rattle.std.proofs.Math.Path.{refl}
use Rattle.std.proofs.Math.Bool.{and-false}
use mathlib.Core.List.{List, [], ◌∷◌, ◌++◌}
use Rattle.std.specs.Float.{nan, inf, fin, binary64}
use Rattle.std.specs.Float.Ieee.{of_bits, up, down}
use Rattle.std.specs.Float.Ieee.Positive.{num, den}
use Rattle.demand.specs.Demand.{Sample, count, is_at, in_window, sum_of, whole_part}
use Rattle.laws.specs.Tests.{yes_le, yes_lt, yes_eq, no_le, no_lt, no_eq}
use Rattle.ring_theory.specs.Numbers.{upto}
use Rattle.pair_theory.specs.Answers.{values_of}
use Rattle.sample_theory.specs.Lists.{at_yes, at_no_stamp, at_no_column, value_at, multiple}
use Rattle.mean_theory.specs.Exact.{sign, pos_part, neg_part, aboves, belows}
use Rattle.demand_proved.specs.Exact.{Is, is-add, is_signed}

-- ---- a weight for each value, summed over the samples that a test takes

unfoldable weigh : (Sample → Bool) → (ℕ → ℕ) → List Sample → ℕ
weigh f W [] = 0
weigh f W (x ∷ xs) = cond (f x) (W x.value) 0 + weigh f W xs

count-weigh : (f : Sample → Bool) (xs : List Sample) → count f xs ≡ weigh f (λ v. 1) xs
unfolding count weigh
count-weigh f [] = refl
count-weigh f (x ∷ xs) = ap (λ (n : ℕ). cond (f x) 1 0 + n) (count-weigh f xs)

none_weigh : (f : Sample → Bool) (W : ℕ → ℕ) (xs : List Sample) → count f xs ≡ 0 → weigh f W xs ≡ 0
unfolding count weigh
none_weigh f W [] h = refl
none_weigh f W (x ∷ xs) h = go (none_weigh f W xs) (f x) refl
  where
    go : (count f xs ≡ 0 → weigh f W xs ≡ 0) → (b : Bool) → f x ≡ b → cond (f x) (W x.value) 0 + weigh f W xs ≡ 0
    go rec true e = absurd (omega (arith, rw e at h))
    go rec false e = rw (e, rec (rw (e, zero-add) at h))

once_weigh : (c t : ℕ) (W : ℕ → ℕ) (xs : List Sample) → count (is_at c t) xs ≡ 1 → weigh (is_at c t) W xs ≡ W (value_at c t xs)
unfolding count weigh value_at
once_weigh c t W [] h = absurd (omega arith)
once_weigh c t W (x ∷ xs) h = go (once_weigh c t W xs) (is_at c t x) refl
  where
    go : (count (is_at c t) xs ≡ 1 → weigh (is_at c t) W xs ≡ W (value_at c t xs)) → (b : Bool) → is_at c t x ≡ b
        → cond (is_at c t x) (W x.value) 0 + weigh (is_at c t) W xs ≡ W (cond (is_at c t x) x.value (value_at c t xs))
    go rec true e =
        let z : count (is_at c t) xs ≡ 0 = omega (arith, rw e at h) in
        rw (e, none_weigh (is_at c t) W xs z) (add-zero (W x.value))
    go rec false e = rw e (zero-add (weigh (is_at c t) W xs) ∙ rec (rw (e, zero-add) at h))

-- ---- a window tick by tick

-- the weights of n ticks' values from tick g on
unfoldable sum_over : (ℕ → ℕ) → ℕ → ℕ → ℕ
sum_over f g zero = 0
sum_over f g (suc n) = f g + sum_over f (suc g) n

-- all samples are at ticks, d apart
abbrev pub OnTicks : ℕ → List Sample → Type 0
OnTicks d xs = (x : Sample) (us bs : List Sample) → xs ≡ us ++ x ∷ bs → x.stamp % d ≡ 0

-- a window of n + 1 ticks is its first tick, then a window of n
module _ (c d g n : ℕ) (zd : 0 < d) where
  -- a stamp at a tick above tick g is at the next one or behind it
  next_tick : (s : ℕ) → s % d ≡ 0 → g * d < s → suc g * d ≤ s
  next_tick s m h =
      let e : s ≡ s / d * d = multiple s d m in
      let l : g < s / d = lt_of_mul-lt-mul_right d (omega arith) in
      omega (arith, mul-le-mul_right d l)

  one-sample : (x : Sample) → x.stamp % d ≡ 0 → (w : ℕ)
      → cond (in_window c (suc n * d) (g * d) x) w 0 ≡ cond (is_at c (g * d) x) w 0 + cond (in_window c (n * d) (suc g * d) x) w 0
  unfolding in_window
  one-sample x m w = go (ℕ_discrete x.column c) (ℕ_discrete x.stamp (g * d))
    where
      ends : g * d + suc n * d ≡ suc g * d + n * d
      ends = omega arith

      go : Dec (x.column ≡ c) → Dec (x.stamp ≡ g * d)
          → cond (eqb x.column c && leb (g * d) x.stamp && ltb x.stamp (g * d + suc n * d)) w 0
          ≡ cond (is_at c (g * d) x) w 0 + cond (eqb x.column c && leb (suc g * d) x.stamp && ltb x.stamp (suc g * d + n * d)) w 0
      go (no p) q = rw (at_no_column x c (g * d) p, no_eq x.column c p)
      go (yes p) (yes q) =
          rw (
            at_yes x c (g * d) p q,
            p,
            q,
            yes_eq c,
            yes_le (g * d) (g * d) (omega arith),
            yes_lt (g * d) (g * d + suc n * d) (omega arith),
            no_le (suc g * d) (g * d) (omega arith),
          ) (sym (add-zero w))
      go (yes p) (no q) =
          rw (at_no_stamp x c (g * d) q, p, yes_eq c, ends)
          (ap (λ (b : Bool). cond (b && ltb x.stamp (suc g * d + n * d)) w 0) (from (dec_lt (g * d) x.stamp))
          ∙ sym (zero-add (cond (leb (suc g * d) x.stamp && ltb x.stamp (suc g * d + n * d)) w 0)))
        where
          from : Dec (g * d < x.stamp) → leb (g * d) x.stamp ≡ leb (suc g * d) x.stamp
          from (yes h) = rw (yes_le (g * d) x.stamp (omega arith), yes_le (suc g * d) x.stamp (next_tick x.stamp m h))
          from (no h) = rw (no_le (g * d) x.stamp (omega arith), no_le (suc g * d) x.stamp (omega arith))

  split_window : (W : ℕ → ℕ) (xs : List Sample) → OnTicks d xs
      → weigh (in_window c (suc n * d) (g * d)) W xs ≡ weigh (is_at c (g * d)) W xs + weigh (in_window c (n * d) (suc g * d)) W xs
  unfolding weigh
  split_window W [] h = refl
  split_window W (x ∷ xs) h =
      rw (one-sample x (h x [] xs refl) (W x.value), split_window W xs (λ y us bs p. h y (x ∷ us) bs (ap (λ (l : List Sample). x ∷ l) p))) (omega arith)

no_window : (c w : ℕ) (W : ℕ → ℕ) (xs : List Sample) → weigh (in_window c 0 w) W xs ≡ 0
unfolding weigh in_window
no_window c w W [] = refl
no_window c w W (x ∷ xs) =
    ap (λ (b : Bool). cond b (W x.value) 0 + weigh (in_window c 0 w) W xs) (none (eqb x.column c) (dec_lt x.stamp w)) ∙ rw (no_window c w W xs)
  where
    none : (b : Bool) → Dec (x.stamp < w) → b && leb w x.stamp && ltb x.stamp (w + 0) ≡ false
    none b (yes h) = rw (no_le w x.stamp h, and-false b)
    none b (no h) = rw (no_lt x.stamp (w + 0) (omega arith)) (and-false (b && leb w x.stamp))

window_weigh : (c d : ℕ) (W : ℕ → ℕ) (xs : List Sample) → 0 < d → OnTicks d xs → (g n : ℕ)
    → ((p : ℕ) → g ≤ p → p < g + n → count (is_at c (p * d)) xs ≡ 1)
    → weigh (in_window c (n * d) (g * d)) W xs ≡ sum_over (λ p. W (value_at c (p * d) xs)) g n
unfolding sum_over
window_weigh c d W xs zd m g zero h = rw (zero-mul d) (no_window c (g * d) W xs)
window_weigh c d W xs zd m g (suc n) h =
    split_window c d g n zd W xs m
    ∙ rw (once_weigh c (g * d) W xs (h g (omega arith) (omega arith)), window_weigh c d W xs zd m (suc g) n (λ p x y. h p (omega arith) (omega arith)))

sum_ones : (g n : ℕ) → sum_over (λ p. 1) g n ≡ n
unfolding sum_over
sum_ones g zero = refl
sum_ones g (suc n) = rw (sum_ones (suc g) n) (omega arith)

-- ---- whole sums

above : ℕ → ℕ
above v = pos_part (sign (of_bits binary64 v)) (num (of_bits binary64 v) / den (of_bits binary64 v))

below : ℕ → ℕ
below v = neg_part (sign (of_bits binary64 v)) (num (of_bits binary64 v) / den (of_bits binary64 v))

aboves-over : (X : ℕ → ℕ) (g n : ℕ) → aboves (values_of X g n) ≡ sum_over (λ p. above (X p)) g n
unfolding aboves sum_over upto above
aboves-over X g zero = refl
aboves-over X g (suc n) = rw (aboves-over X (suc g) n)

belows-over : (X : ℕ → ℕ) (g n : ℕ) → belows (values_of X g n) ≡ sum_over (λ p. below (X p)) g n
unfolding belows sum_over upto below
belows-over X g zero = refl
belows-over X g (suc n) = rw (belows-over X (suc g) n)

is_whole : (x : Float) → Is (whole_part x) (pos_part (sign x) (num x / den x)) (neg_part (sign x) (num x / den x))
unfolding whole_part
is_whole nan = refl
is_whole (inf true) = refl
is_whole (inf false) = refl
is_whole (fin s m e) = is_signed s (m * up e / down e)

sum_is : (f : Sample → Bool) (xs : List Sample) → Is (sum_of f xs) (weigh f above xs) (weigh f below xs)
unfolding sum_of weigh above below
sum_is f [] = refl
sum_is f (x ∷ xs) =
    is-add (cond (f x) (whole_part (of_bits binary64 x.value)) (pos 0)) (sum_of f xs) (cond (f x) (above x.value) 0) (cond (f x) (below x.value) 0)
    (weigh f above xs) (weigh f below xs) (one (f x)) (sum_is f xs)
  where
    one : (b : Bool) → Is (cond b (whole_part (of_bits binary64 x.value)) (pos 0)) (cond b (above x.value) 0) (cond b (below x.value) 0)
    one true = is_whole (of_bits binary64 x.value)
    one false = refl

-- ---- the samples of the window of n ticks from tick g on

module _ (c d : ℕ) (xs : List Sample) (zd : 0 < d) (m : OnTicks d xs) (g n : ℕ) (once : (p : ℕ) → g ≤ p → p < g + n → count (is_at c (p * d)) xs ≡ 1) where
  pub window_count : count (in_window c (n * d) (g * d)) xs ≡ n
  window_count = count-weigh (in_window c (n * d) (g * d)) xs ∙ window_weigh c d (λ v. 1) xs zd m g n once ∙ sum_ones g n

  pub window_sum : Is (sum_of (in_window c (n * d) (g * d)) xs) (aboves (values_of (λ p. value_at c (p * d) xs) g n)) (belows (values_of (λ p. value_at c (p * d) xs) g n))
  window_sum =
      rw (
        aboves-over (λ p. value_at c (p * d) xs) g n,
        belows-over (λ p. value_at c (p * d) xs) g n,
        ← window_weigh c d above xs zd m g n once,
        ← window_weigh c d below xs zd m g n once,
      )
      (sum_is (in_window c (n * d) (g * d)) xs)
