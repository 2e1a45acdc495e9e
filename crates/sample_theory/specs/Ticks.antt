-- Samples in stamp order without gaps, taken one by one. Ticks are numbered: tick q is the stamp q * d, the first is tick a, and there are n of them. Each
-- column takes its ticks in order; the samples so far reach a tick, and a further one is at that tick again or at the next. So the interval numbers that the
-- finest ring is written with never fall and never skip, which is what the ring's theory asks for. Assumes nothing.
use Rattle.std.specs.Prelude.{ℕ, suc, ◌+◌, ◌-◌, ◌*◌, ◌/◌, ◌%◌, ◌≤◌, ◌<◌, ◌≡◌, ◌≢◌, ◌⊎◌, true, List, [], ◌∷◌, ◌++◌}
use Rattle.std.proofs.Common.{add-zero, mul-le-mul_right, lt_of_mul-lt-mul_right, le-div_iff_mul-le, arith, sym, ap, ◌∙◌, subst, inl, inr}
use Rattle.std.proofs.Math.Nat.{eq_of_mul-eq-mul_right}
use Rattle.std.proofs.Math.Decide.{dec_lt, ℕ_discrete}
use Rattle.std.proofs.Math.Path.{refl}
use Rattle.demand.specs.Demand.{Sample, last_of, ascending, count, is_at, used, is_offset}
use Rattle.laws.specs.Tests.{yes_eq, no_eq}
use Rattle.sample_theory.specs.Lists.{of_column, count-append, count-one, count_none, at_yes, at_no_stamp, at_no_column, used_in, asc_split, none_below, last_snoc, last-le, multiple}

-- what is supposed of all samples
pub record Steady (d a n : ℕ) (xs : List Sample) : Type 0 where
  pub long : 0 < d
  pub ordered : ascending (a * d) xs ≡ true
  pub gap : (c i : ℕ) → used c xs ≡ true → i < n → count (is_at c ((a + i) * d)) xs ≡ 1
  pub ends : (x : Sample) (ys zs : List Sample) → xs ≡ ys ++ x ∷ zs → (x.stamp < (a + n) * d) × (x.stamp % d ≡ 0) × (is_offset x.value ≡ true)

-- column c's samples so far are one at each of its first ticks
pub record Regular (d a : ℕ) (ys : List Sample) (c : ℕ) : Type 0 where
  pub once : (q : ℕ) → a ≤ q → q < a + count (of_column c) ys → count (is_at c (q * d)) ys ≡ 1
  pub never : (q : ℕ) → a + count (of_column c) ys ≤ q → count (is_at c (q * d)) ys ≡ 0

-- the samples so far are at the ticks below a + e, the last one at the last of these
pub record Reached (d a n : ℕ) (ys : List Sample) (e : ℕ) : Type 0 where
  pub none : e ≡ 0 → ys ≡ []
  pub last-is : 0 < e → last_of ys + d ≡ (a + e) * d
  pub counts : (c : ℕ) → count (of_column c) ys ≤ e
  pub within : e ≤ n

pub regular_nil : (d a c : ℕ) → Regular d a [] c
unfolding count
regular_nil d a c = record { once = λ q x y. absurd (omega arith); never = λ q x. refl }

pub reached_nil : (d a n : ℕ) → Reached d a n [] 0
unfolding count
reached_nil d a n = record { none = λ z. refl; last-is = λ z. absurd (omega arith); counts = λ c. omega arith; within = omega arith }

-- ---- one sample more: it is at its column's next tick

module _ (d a n : ℕ) (ys : List Sample) (x : Sample) (zs : List Sample) (st : Steady d a n (ys ++ x ∷ zs)) (reg : (c : ℕ) → Regular d a ys c) where
  q : ℕ
  q = x.stamp / d

  stamp-q : x.stamp ≡ q * d
  unfolding q
  stamp-q = multiple x.stamp d (st.ends x ys zs refl).1

  q-low : a ≤ q
  unfolding q
  q-low = (le-div_iff_mul-le st.long).1 (asc_split (a * d) ys x zs st.ordered).0

  q_high : q < a + n
  q_high = lt_of_mul-lt-mul_right d (subst (λ (t : ℕ). t < (a + n) * d) stamp-q (st.ends x ys zs refl).0)

  here : (t : ℕ) → x.stamp ≡ t → count (is_at x.column t) (ys ++ x ∷ zs) ≡ count (is_at x.column t) ys + suc (count (is_at x.column t) zs)
  unfolding count
  here t e = count-append (is_at x.column t) ys (x ∷ zs) ∙ rw (at_yes x x.column t refl e) (omega arith)

  gone : (t : ℕ) → t < x.stamp → count (is_at x.column t) (ys ++ x ∷ zs) ≡ count (is_at x.column t) ys
  unfolding count
  gone t l =
      count-append (is_at x.column t) ys (x ∷ zs)
      ∙ rw (at_no_stamp x x.column t (omega arith), none_below x.column t x.stamp zs (asc_split (a * d) ys x zs st.ordered).1 l)
      (add-zero (count (is_at x.column t) ys))

  one_at : (i : ℕ) → i < n → count (is_at x.column ((a + i) * d)) (ys ++ x ∷ zs) ≡ 1
  one_at i h = st.gap x.column i (used_in x.column ys x zs refl) h

  pub next_tick : x.stamp ≡ (a + count (of_column x.column) ys) * d
  next_tick = stamp-q ∙ ap (λ (k : ℕ). k * d) (go (dec_lt q (a + count (of_column x.column) ys)) (dec_lt (a + count (of_column x.column) ys) q))
    where
      go : Dec (q < a + count (of_column x.column) ys) → Dec (a + count (of_column x.column) ys < q) → q ≡ a + count (of_column x.column) ys
      go (yes p) w =
          let f : a + (q - a) ≡ q = omega (arith, q-low) in
          let s : count (is_at x.column (q * d)) (ys ++ x ∷ zs) ≡ 1 = rw f at (one_at (q - a) (omega (arith, q-low, q_high))) in
          absurd (omega (arith, here (q * d) stamp-q, (reg x.column).once q q-low p))
      go (no p) (yes w) =
          let k = count (of_column x.column) ys in
          let o = one_at k (omega (arith, q_high)) in
          absurd (omega (arith, gone ((a + k) * d) (omega (arith, stamp-q, mul-le-mul_right d w, st.long)), (reg x.column).never (a + k) (omega arith)))
      go (no p) (no w) = omega arith

  -- its column counts one more, and no other
  pub count-own : count (of_column x.column) (ys ++ x ∷ []) ≡ suc (count (of_column x.column) ys)
  count-own = count-one (of_column x.column) ys x (yes_eq x.column)

  pub count_else : (c : ℕ) → x.column ≢ c → count (of_column c) (ys ++ x ∷ []) ≡ count (of_column c) ys
  count_else c ne = count_none (of_column c) ys x (no_eq x.column c ne)

  other_tick : (p : ℕ) → p ≢ a + count (of_column x.column) ys → x.stamp ≢ p * d
  other_tick p ne f = ne (sym (eq_of_mul-eq-mul_right d st.long (a + count (of_column x.column) ys) p (sym next_tick ∙ f)))

  pub regular_next : (c : ℕ) → Regular d a (ys ++ x ∷ []) c
  regular_next c = go (ℕ_discrete x.column c)
    where
      go : Dec (x.column ≡ c) → Regular d a (ys ++ x ∷ []) c
      go (no ne) = record {
        once = λ p y z. count_none (is_at c (p * d)) ys x (at_no_column x c (p * d) ne) ∙ (reg c).once p y (rw (count_else c ne) at z);
        never = λ p y. count_none (is_at c (p * d)) ys x (at_no_column x c (p * d) ne) ∙ (reg c).never p (rw (count_else c ne) at y);
      }
      go (yes e) = subst (Regular d a (ys ++ x ∷ [])) e
          (record { once = λ p y z. own p y (rw count-own at z) (ℕ_discrete p (a + k)); never = λ p y. past p (rw count-own at y) })
        where
          k : ℕ
          k = count (of_column x.column) ys

          -- not at tick p
          away : (p : ℕ) → p ≢ a + k → count (is_at x.column (p * d)) (ys ++ x ∷ []) ≡ count (is_at x.column (p * d)) ys
          away p f = count_none (is_at x.column (p * d)) ys x (at_no_stamp x x.column (p * d) (other_tick p f))

          own : (p : ℕ) → a ≤ p → p < a + suc k → Dec (p ≡ a + k) → count (is_at x.column (p * d)) (ys ++ x ∷ []) ≡ 1
          own p y z (yes f) =
              count-one (is_at x.column (p * d)) ys x (at_yes x x.column (p * d) refl (next_tick ∙ ap (λ (i : ℕ). i * d) (sym f)))
              ∙ ap suc ((reg x.column).never p (omega arith))
          own p y z (no f) = away p f ∙ (reg x.column).once p y (omega arith)

          past : (p : ℕ) → a + suc k ≤ p → count (is_at x.column (p * d)) (ys ++ x ∷ []) ≡ 0
          past p y = away p (omega arith) ∙ (reg x.column).never p (omega arith)

  -- ---- the tick that the samples reach then

  module _ (e : ℕ) (re : Reached d a n ys e) where
    -- at the next tick, or at the last one again
    pub new_or-same : (count (of_column x.column) ys ≡ e) ⊎ (suc (count (of_column x.column) ys) ≡ e)
    new_or-same = go (count (of_column x.column) ys) next_tick (re.counts x.column) (dec_lt (suc (count (of_column x.column) ys)) e)
        (dec_lt (count (of_column x.column) ys) e)
      where
        go : (k : ℕ) → x.stamp ≡ (a + k) * d → k ≤ e → Dec (suc k < e) → Dec (k < e) → (k ≡ e) ⊎ (suc k ≡ e)
        go k t h (yes p) y =
            let f : (a + suc (suc k)) * d ≤ (a + e) * d = mul-le-mul_right d (omega arith) in
            absurd (omega (arith, re.last-is (omega arith), st.long, last-le (a * d) ys x zs st.ordered))
        go k t h (no p) (yes y) = inr (omega arith)
        go k t h (no p) (no y) = inl (omega arith)

    counts_next : (f : ℕ) → e ≤ f → suc (count (of_column x.column) ys) ≤ f → (c : ℕ) → count (of_column c) (ys ++ x ∷ []) ≤ f
    counts_next f h g c = go (ℕ_discrete x.column c)
      where
        go : Dec (x.column ≡ c) → count (of_column c) (ys ++ x ∷ []) ≤ f
        go (yes p) = subst (λ (c : ℕ). count (of_column c) (ys ++ x ∷ []) ≤ f) p (rw count-own g)
        go (no p) = rw (count_else c p) (omega (arith, re.counts c))

    last-next : (f : ℕ) → suc (count (of_column x.column) ys) ≡ f → last_of (ys ++ x ∷ []) + d ≡ (a + f) * d
    last-next f h = rw (last_snoc ys x, ← h, next_tick) (omega arith)

    pub reached_new : count (of_column x.column) ys ≡ e → Reached d a n (ys ++ x ∷ []) (suc e)
    reached_new h = record {
      none = λ z. absurd (omega arith);
      last-is = λ z. last-next (suc e) (ap suc h);
      counts = counts_next (suc e) (omega arith) (omega arith);
      within = inside (lt_of_mul-lt-mul_right d (subst (λ (t : ℕ). t < (a + n) * d) next_tick (st.ends x ys zs refl).0));
    }
      where
        inside : a + count (of_column x.column) ys < a + n → suc e ≤ n
        inside l = omega arith

    pub reached_same : suc (count (of_column x.column) ys) ≡ e → Reached d a n (ys ++ x ∷ []) e
    reached_same h = record {
      none = λ z. absurd (omega arith);
      last-is = λ z. last-next e h;
      counts = counts_next e (omega arith) (omega arith);
      within = re.within;
    }

-- ---- complete columns: where no sample of the last tick is to come, a used column has one at every tick

pub complete : (d a n k : ℕ) (ys zs : List Sample) (c : ℕ) → Steady d a n (ys ++ zs) → Regular d a ys c → Reached d a n ys (suc k) → used c (ys ++ zs) ≡ true
    → count (is_at c ((a + k) * d)) zs ≡ 0 → count (of_column c) ys ≡ suc k
complete d a n k ys zs c st reg re us no_more = go (dec_lt (count (of_column c) ys) (suc k))
  where
    go : Dec (count (of_column c) ys < suc k) → count (of_column c) ys ≡ suc k
    go (no p) = omega (arith, re.counts c)
    go (yes p) =
        let o : count (is_at c ((a + k) * d)) (ys ++ zs) ≡ 1 = st.gap c k us (omega (arith, re.within)) in
        absurd (omega (arith, count-append (is_at c ((a + k) * d)) ys zs, reg.never (a + k) (omega arith)))
