-- A window's answer where the source took numbers without gaps: it is made of the values of the window's numbers in the range, in ascending order, and of
-- nothing else. A column without a value has the answer Empty. The values are 64-bit patterns; NaN and infinite ones may be among them. Assumes nothing.
use Prim.Native.Nat.{ℕ, zero, suc, ◌+◌, ◌-◌, ◌*◌, ◌/◌, ◌%◌, ◌≤◌, ◌<◌, max, min}
use Rattle.std.proofs.Common.{zero-add, add-zero, mod-lt, mul-pos, le-div_iff_mul-le, div-lt_iff_lt-mul, arith, sym, ap, ◌∙◌, true≢false}
use Rattle.std.proofs.Math.Nat.{eq_of_mul-eq-mul_right}
use Rattle.std.proofs.Math.Decide.{dec_lt}
use Rattle.std.specs.Prelude.{◌≡◌, ◌≢◌, Bool, ◌&&◌, leb, ltb, eqb, Float}
use Rattle.std.proofs.Math.Path.{refl}
use Rattle.std.proofs.Math.Bool.{true, false, cond}
use mathlib.Core.List.{List, [], ◌∷◌, ◌++◌, append-nil, map}
use Rattle.std.specs.Float.{binary64}
use Rattle.std.specs.Float.Ieee.{of_bits}
use Rattle.model.specs.declared.ConsolidationFn.{ConsolidationFn}
use Rattle.model.specs.declared.Held.{Held}
use Rattle.model.specs.declared.Held.TheVariants.{Outside, Infinite, Finite}
use Rattle.model.specs.declared.WindowAnswer.{WindowAnswer}
use Rattle.model.specs.declared.WindowAnswer.TheVariants.{Empty, Number}
use Rattle.model.specs.Layout.{fresh_value}
use Rattle.model.specs.Ring.{Ring, stamp, cell, is_nan_bits, is_infinite}
use Rattle.model.specs.Window.{Job, apply, window_of, held_value, held, held_in, seen_one, seen, keep_finite, finites, answer_of, window_answer}
use Rattle.laws.specs.Tests.{yes_le, yes_lt, yes_eq, no_eq}
use Rattle.ring_theory.specs.Numbers.{upto, slots_of, div_is}
use Rattle.ring_theory.specs.Walk.{held-append}
use Rattle.ring_theory.specs.Sound.{some_slots}
use Rattle.ring_theory.specs.Column.{Col}
use Rattle.ring_theory.specs.Hold.{State, first_held, Reads}
use Rattle.ring_theory.proofs.Hold.{reads}
use Rattle.ring_theory.specs.Read.{InRange}
use Rattle.ring_theory.proofs.Read.{read_cut, early_out, late_out, held_in_lem}
use Rattle.pair_theory.specs.Windows.{job, home}

-- ---- the answer of a list of values

-- the patterns of k numbers from q on
abbrev pub patterns_of : (ℕ → ℕ) → ℕ → ℕ → List ℕ
patterns_of X q k = map X (upto q k)

-- and their values
abbrev pub values_of : (ℕ → ℕ) → ℕ → ℕ → List Float
values_of X q k = map (λ (p : ℕ). of_bits binary64 (X p)) (upto q k)

-- what is made of the values with these patterns, in this order
unfoldable pub answer_for : ConsolidationFn → List ℕ → WindowAnswer
answer_for f vs = answer_of f (seen (map held_value vs)) (finites (map held_value vs))

-- finite values, one at least
pub finite_answer : (f : ConsolidationFn) (X : ℕ → ℕ) (q k : ℕ) → 0 < k → ((p : ℕ) → q ≤ p → p < q + k → (is_nan_bits (X p) ≡ false) × (is_infinite (X p) ≡ false))
    → answer_for f (patterns_of X q k) ≡ Number (apply f (values_of X q k))
unfolding answer_for seen finites seen_one keep_finite answer_of upto held_value
finite_answer f X q zero z h = absurd (omega arith)
finite_answer f X q (suc k) z h =
    let e = h q (omega arith) (omega arith) in
    rw (e.0, e.1, all (suc q) k (λ p x y. h p (omega arith) (omega arith))) (some (seen (map held_value (patterns_of X (suc q) k))))
  where
    all : (q k : ℕ) → ((p : ℕ) → q ≤ p → p < q + k → (is_nan_bits (X p) ≡ false) × (is_infinite (X p) ≡ false)) → finites (map held_value (patterns_of X q k)) ≡ values_of X q k
    all q zero h = refl
    all q (suc k) h =
        let e = h q (omega arith) (omega arith) in
        rw (e.0, e.1) (ap (λ (xs : List Float). of_bits binary64 (X q) ∷ xs) (all (suc q) k (λ p x y. h p (omega arith) (omega arith))))

    some : (s : ℕ) → answer_of f (1 + s) (of_bits binary64 (X q) ∷ values_of X (suc q) k) ≡ Number (apply f (of_bits binary64 (X q) ∷ values_of X (suc q) k))
    some s = let e : 1 + s ≡ suc s = omega arith in rw e

-- ---- what slots hold, one stretch behind the other

seen-append : (hs ks : List Held) → seen (hs ++ ks) ≡ seen hs + seen ks
unfolding seen
seen-append [] ks = sym (zero-add (seen ks))
seen-append (h ∷ hs) ks = rw (seen-append hs ks) (lin (seen_one h) (seen hs) (seen ks))
  where
    lin : (x y z : ℕ) → x + (y + z) ≡ x + y + z
    lin x y z = omega arith

finites-append : (hs ks : List Held) → finites (hs ++ ks) ≡ finites hs ++ finites ks
unfolding finites keep_finite
finites-append [] ks = refl
finites-append (Outside ∷ hs) ks = finites-append hs ks
finites-append (Infinite ∷ hs) ks = finites-append hs ks
finites-append (Finite x ∷ hs) ks = ap (λ (l : List Float). x ∷ l) (finites-append hs ks)

-- a middle stretch between two that hold nothing
answer_middle : (f : ConsolidationFn) (hs ks ls : List Held) → (seen hs ≡ 0) × (finites hs ≡ []) → (seen ls ≡ 0) × (finites ls ≡ [])
    → answer_of f (seen (hs ++ (ks ++ ls))) (finites (hs ++ (ks ++ ls))) ≡ answer_of f (seen ks) (finites ks)
answer_middle f hs ks ls a b =
    rw (
      seen-append hs (ks ++ ls),
      seen-append ks ls,
      finites-append hs (ks ++ ls),
      finites-append ks ls,
      a.0,
      a.1,
      b.0,
      b.1,
      zero-add (seen ks + 0),
      add-zero (seen ks),
      append-nil (finites ks),
    )

module _ (q : Job) (n w c : ℕ) where
  abbrev here : ℕ → Held
  here i = held q w (stamp q.source.slab i) (cell q.source.slab c i)

  quiet : (p k : ℕ) → ((x : ℕ) → p ≤ x → x < p + k → here (x % n) ≡ Outside) → (seen (held_in q w c (slots_of n p k)) ≡ 0) × (finites (held_in q w c (slots_of n p k)) ≡ [])
  unfolding held_in slots_of seen seen_one finites keep_finite
  quiet p zero h = (refl, refl)
  quiet p (suc k) h =
      let r = quiet (suc p) k (λ x l u. h x (omega arith) (omega arith)) in
      rw (h p (omega arith) (omega arith)) (rw r.0 refl, r.1)

  holds : (X : ℕ → ℕ) (p k : ℕ) → ((x : ℕ) → p ≤ x → x < p + k → here (x % n) ≡ held_value (X x)) → held_in q w c (slots_of n p k) ≡ map held_value (patterns_of X p k)
  unfolding held_in slots_of upto
  holds X p zero h = refl
  holds X p (suc k) h = rw (h p (omega arith) (omega arith)) (ap (λ (l : List Held). held_value (X p) ∷ l) (holds X (suc p) k (λ x l u. h x (omega arith) (omega arith))))

-- ---- what one slot holds

module _ (q : Job) (w t v : ℕ) where
  out_of_range : (leb q.start t && ltb t q.end) ≡ false → held q w t v ≡ Outside
  unfolding held
  out_of_range e = go (leb q.start t) (ltb t q.end) e
    where
      go : (x y : Bool) → x && y ≡ false → cond x (cond y (cond (eqb (window_of q.long t) w) (held_value v) Outside) Outside) Outside ≡ Outside
      go true true h = absurd (true≢false h)
      go true false h = refl
      go false y h = refl

  other_window : window_of q.long t ≢ w → held q w t v ≡ Outside
  unfolding held
  other_window e = rw (no_eq (window_of q.long t) w e) (go (leb q.start t) (ltb t q.end))
    where
      go : (x y : Bool) → cond x (cond y Outside Outside) Outside ≡ Outside
      go true true = refl
      go true false = refl
      go false y = refl

  this_window : q.start ≤ t → t < q.end → window_of q.long t ≡ w → held q w t v ≡ held_value v
  unfolding held
  this_window a b e = rw (yes_le q.start t a, yes_lt t q.end b, e, yes_eq w)

  pub fresh-cell : v ≡ fresh_value → held q w t v ≡ Outside
  unfolding held held_value is_nan_bits fresh_value
  fresh-cell e = rw e (go (leb q.start t) (ltb t q.end) (eqb (window_of q.long t) w))
    where
      go : (x y z : Bool) → cond x (cond y (cond z Outside Outside) Outside) Outside ≡ Outside
      go true true true = refl
      go true true false = refl
      go true false z = refl
      go false y z = refl

-- ---- the answers of a job

module _ {A : Ring} {n m d a e : ℕ} (st : State A n m d a e) (pa : 0 < a) (fn : ConsolidationFn) (r lo hi : ℕ) where
  abbrev this : Job
  this = job A fn (r * d) lo hi

  -- a column without a value
  pub answer_empty : (w c : ℕ) → ((i : ℕ) → i < n → cell A.slab c i ≡ fresh_value) → window_answer (job A fn (r * d) lo hi) w c ≡ Empty
  unfolding window_answer answer_of
  answer_empty w c h =
      let R = reads st pa in
      let s = quiet this n w c R.from R.many (λ x l u. fresh-cell this w (stamp A.slab (x % n)) (cell A.slab c (x % n)) (h (x % n) (mod-lt x (some_slots st.slab-is.sound)))) in
      rw (R.order_is, s.0)

  -- a complete column: window y's numbers in the range are those from max g (y * r) up to min h ((y + 1) * r)
  module _ {g h : ℕ} (zr : 0 < r) (zl : 0 < lo) (rg : InRange d lo hi (first_held n a e) (a + e) g h) where
    pub answer_is : (c y : ℕ) (X : ℕ → ℕ) → Col (cell A.slab c) n a e X → max g (y * r) ≤ min h (suc y * r)
        → window_answer (job A fn (r * d) lo hi) (y * (r * d)) c
        ≡ answer_for fn (patterns_of X (max g (y * r)) (min h (suc y * r) - max g (y * r)))
    unfolding window_answer answer_for first_held
    answer_is c y X col k =
        rw (
          read_cut st R p q (omega (arith, rg.first)) k (omega (arith, rg.last)),
          held-append this (y * (r * d)) c (slots_of n R.from (p - R.from)) (slots_of n p (q - p) ++ slots_of n q (a + e - q)),
          held-append this (y * (r * d)) c (slots_of n p (q - p)) (slots_of n q (a + e - q)),
          holds this n (y * (r * d)) c X p (q - p) (λ x l u. inside x l (omega arith)),
        )
        (answer_middle fn (held_in this (y * (r * d)) c (slots_of n R.from (p - R.from))) (map held_value (patterns_of X p (q - p))) (held_in this (y * (r * d)) c (slots_of n q (a + e - q)))
        (quiet this n (y * (r * d)) c R.from (p - R.from) (λ x l u. before x l (omega arith) (dec_lt x g)))
        (quiet this n (y * (r * d)) c q (a + e - q) (λ x l u. behind x l (omega arith) (dec_lt x h))))
      where
        R : Reads A n a e
        R = reads st pa

        p : ℕ
        p = max g (y * r)

        q : ℕ
        q = min h (suc y * r)

        here-is : (x : ℕ) → Held
        here-is x = held this (y * (r * d)) (stamp A.slab (x % n)) (cell A.slab c (x % n))

        elsewhere : (x : ℕ) → g ≤ x → x < h → x / r ≢ y → here-is x ≡ Outside
        elsewhere x l u ne =
            let f = held_in_lem st R rg x l u in
            other_window this (y * (r * d)) (stamp A.slab (x % n)) (cell A.slab c (x % n))
            (λ z. ne (eq_of_mul-eq-mul_right (r * d) (mul-pos zr st.slab-is.long) (x / r) y (sym (ap (window_of (r * d)) f.0 ∙ home r d x st.slab-is.long) ∙ z)))

        before : (x : ℕ) → R.from ≤ x → x < p → Dec (x < g) → here-is x ≡ Outside
        before x l u (yes z) = out_of_range this (y * (r * d)) (stamp A.slab (x % n)) (cell A.slab c (x % n)) (early_out st R rg zl x l z)
        before x l u (no z) = elsewhere x (omega arith) (omega arith) (λ f. let b : x / r < y = (div-lt_iff_lt-mul zr).1 (omega arith) in omega arith)

        behind : (x : ℕ) → q ≤ x → x < a + e → Dec (x < h) → here-is x ≡ Outside
        behind x l u (no z) = out_of_range this (y * (r * d)) (stamp A.slab (x % n)) (cell A.slab c (x % n)) (late_out st R rg x (omega arith) u)
        behind x l u (yes z) = elsewhere x (omega arith) z (λ f. let b : suc y ≤ x / r = (le-div_iff_mul-le zr).1 (omega arith) in omega arith)

        inside : (x : ℕ) → p ≤ x → x < q → here-is x ≡ held_value (X x)
        inside x l u =
            let f = held_in_lem st R rg x (omega arith) (omega arith) in
            let w : x / r ≡ y = div_is y r x (omega arith) (omega arith) in
            rw (f.0, col.has x (omega (arith, rg.first)) (omega (arith, rg.last)) (omega (arith, rg.first)))
            (this_window this (y * (r * d)) (x * d) (X x) f.1 f.2 (home r d x st.slab-is.long ∙ ap (λ (i : ℕ). i * (r * d)) w))
