-- What the supposition says of the samples: they are steady (Ticks), from the start of a coarsest interval on. From
-- here on the theorem speaks of ticks and no longer of tests over lists. Assumes nothing.
use Rattle.std.specs.Prelude.{ℕ, zero, suc, ◌+◌, ◌-◌, ◌*◌, ◌/◌, ◌%◌, ◌≤◌, ◌<◌, ◌≡◌, Bool, true, eqb}
use Rattle.std.proofs.Common.{zero-mul, mul-div_cancel, le_of_mul-le-mul_right, arith, sym, ◌∙◌}
use Rattle.std.proofs.Math.Path.{refl, ap, subst}
use mathlib.Core.List.{List, [], ◌∷◌, ◌++◌}
use Rattle.demand.specs.Demand.{Sample, first_of, last_of, ascending, all, count, is_at, used, gapless, ticks, is_offset}
use Rattle.laws.specs.Tests.{yes_le, and_left, and_right, eq_is}
use Rattle.sample_theory.specs.Lists.{all-at, find, asc_split, last-append, last_of_lem, le-last, first-le-last, multiple}
use Rattle.sample_theory.specs.Ticks.{Steady}

-- ---- the number of ticks

-- from the stamp f to the stamp l, d apart
ticks_between : (d f l x : ℕ) → 0 < d → 0 < x → l + d ≡ f + x * d → suc ((l - f) / d) ≡ x
ticks_between d f l zero zd zx e = absurd (omega arith)
ticks_between d f l (suc y) zd zx e = let g : l - f ≡ y * d = omega arith in rw (g, mul-div_cancel y zd)

-- all stamps up to the last lie before the end of its tick
before_end : (d a w f l t : ℕ) → 0 < d → f ≡ a * d → l ≡ w * d → f ≤ l → t ≤ l → t < (a + suc ((l - f) / d)) * d
before_end d a w f l t zd fa lw fl tl =
    let aw : a ≤ w = le_of_mul-le-mul_right {k = d} (omega arith) zd in
    let x : suc w ≡ a + (suc w - a) = omega arith in
    let e : suc w * d ≡ (a + (suc w - a)) * d = ap (λ (v : ℕ). v * d) x in
    rw (ticks_between d f l (suc w - a) zd (omega arith) (omega arith)) (omega arith)

-- ---- the samples are steady

gap_at : (c d t n i : ℕ) (xs : List Sample) → gapless c d t n xs ≡ true → i < n → count (is_at c (t + i * d)) xs ≡ 1
unfolding gapless
gap_at c d t zero i xs h l = absurd (omega arith)
gap_at c d t (suc n) zero xs h l =
    let e : t + 0 * d ≡ t = omega arith in
    rw e (eq_is (count (is_at c t) xs) 1 (and_left (eqb (count (is_at c t) xs) 1) (gapless c d (t + d) n xs) h))
gap_at c d t (suc n) (suc i) xs h l =
    let e : t + suc i * d ≡ t + d + i * d = omega arith in
    rw e (gap_at c d (t + d) n i xs (and_right (eqb (count (is_at c t) xs) 1) (gapless c d (t + d) n xs) h) (omega arith))

module _ (d a : ℕ) (xs : List Sample) (zd : 0 < d) (first : first_of xs ≡ a * d) (pos : 0 < first_of xs) (asc : ascending 0 xs ≡ true)
    (offsets : all (λ x. is_offset x.value) xs ≡ true) (on-ticks : all (λ x. eqb (x.stamp % d) 0) xs ≡ true)
    (no_gap : all (λ x. gapless x.column d (first_of xs) (ticks d xs) xs) xs ≡ true) where
  -- what is supposed of all samples holds of each
  one_of : (f : Sample → Bool) → all f xs ≡ true → (x : Sample) (ys zs : List Sample) → xs ≡ ys ++ x ∷ zs → f x ≡ true
  one_of f h x ys zs e = all-at f ys x zs (subst (λ (l : List Sample). all f l ≡ true) e h)

  on_tick : (x : Sample) (ys zs : List Sample) → xs ≡ ys ++ x ∷ zs → x.stamp % d ≡ 0
  on_tick x ys zs e = eq_is (x.stamp % d) 0 (one_of (λ x. eqb (x.stamp % d) 0) on-ticks x ys zs e)

  gap' : (c i : ℕ) → used c xs ≡ true → i < ticks d xs → count (is_at c ((a + i) * d)) xs ≡ 1
  gap' c i us l =
      let f = find c xs us in
      let g : gapless c d (first_of xs) (ticks d xs) xs ≡ true = subst (λ (k : ℕ). gapless k d (first_of xs) (ticks d xs) xs ≡ true) f.4
      (one_of (λ x. gapless x.column d (first_of xs) (ticks d xs) xs) no_gap f.1 f.0 f.2 f.3) in
      let e : (a + i) * d ≡ first_of xs + i * d = rw first (omega arith) in
      rw e (gap_at c d (first_of xs) (ticks d xs) i xs g l)

  pub last_tick : last_of xs % d ≡ 0
  last_tick = go xs refl
    where
      go : (l : List Sample) → xs ≡ l → last_of xs % d ≡ 0
      go [] e = absurd (unfold first_of in (omega (arith, subst (λ (l : List Sample). 0 < first_of l) e pos)))
      go (x ∷ l) e =
          let z = last_of_lem x l in
          subst (λ (v : ℕ). v % d ≡ 0) (sym (ap last_of e ∙ z.3)) (on_tick z.1 z.0 [] (e ∙ z.2))

  bound : (x : Sample) (ys zs : List Sample) → xs ≡ ys ++ x ∷ zs → x.stamp < (a + ticks d xs) * d
  unfolding ticks
  bound x ys zs e =
      let s = asc_split 0 ys x zs (subst (λ (l : List Sample). ascending 0 l ≡ true) e asc) in
      let l : last_of xs ≡ last_of (x ∷ zs) = ap last_of e ∙ last-append ys x zs in
      before_end d a (last_of xs / d) (first_of xs) (last_of xs) x.stamp zd first (multiple (last_of xs) d last_tick) (first-le-last 0 xs asc)
      (omega (arith, le-last x zs s.1))

  pub steady : Steady d a (ticks d xs) xs
  steady = record {
    long = zd;
    ordered = from_first xs first asc;
    gap = gap';
    ends = λ x ys zs e. (bound x ys zs e, on_tick x ys zs e, one_of (λ x. is_offset x.value) offsets x ys zs e);
  }
    where
      from_first : (l : List Sample) → first_of l ≡ a * d → ascending 0 l ≡ true → ascending (a * d) l ≡ true
      from_first [] e h = unfold ascending in refl
      from_first (x ∷ l) e h =
          unfold ascending in (rw (yes_le (a * d) x.stamp (low e)) (asc_split 0 [] x l h).1)
        where
          low : first_of (x ∷ l) ≡ a * d → a * d ≤ x.stamp
          low e = unfold first_of in (omega arith)

-- ---- from the start of a coarsest interval on

-- the first sample begins coarsest interval A, ρ ticks long; the last is at the last tick
pub record Spans (d D ρ : ℕ) (xs : List Sample) : Type 0 where
  pub A : ℕ
  pub A_pos : 0 < A
  pub first-is : first_of xs ≡ A * D
  pub last-is : last_of xs + d ≡ (A * ρ + ticks d xs) * d

pub spans : (d D ρ : ℕ) (xs : List Sample) → 0 < d → D ≡ ρ * d → 0 < first_of xs → first_of xs % D ≡ 0 → first_of xs ≤ last_of xs → last_of xs % d ≡ 0 → Spans d D ρ xs
unfolding ticks
spans d D ρ xs zd dD pos fw le lw = go (first_of xs / D) (last_of xs / d) (multiple (first_of xs) D fw) (multiple (last_of xs) d lw)
  where
    some : (a : ℕ) → first_of xs ≡ a * D → 0 < a
    some zero e = absurd (omega (arith, e ∙ zero-mul D))
    some (suc a) e = omega arith

    go : (a w : ℕ) → first_of xs ≡ a * D → last_of xs ≡ w * d → Spans d D ρ xs
    go a w fa lw =
        let f : first_of xs ≡ a * ρ * d = fa ∙ rw dD (omega arith) in
        let aw : a * ρ ≤ w = le_of_mul-le-mul_right {k = d} (omega arith) zd in
        let x : suc w ≡ a * ρ + (suc w - a * ρ) = omega arith in
        let e : suc w * d ≡ (a * ρ + (suc w - a * ρ)) * d = ap (λ (v : ℕ). v * d) x in
        record {
          A = a;
          A_pos = some a fa;
          first-is = fa;
          last-is = rw (ticks_between d (first_of xs) (last_of xs) (suc w - a * ρ) zd (omega arith) (omega arith)) (omega arith);
        }
