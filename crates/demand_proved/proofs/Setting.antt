-- The set-up that the plan and the samples make, as supposed: its tiers are the plan's, its values those of the samples and their averages. Every part that
-- the theory of runs asks for holds of it. Assumes nothing.
use Rattle.std.specs.Prelude.{ℕ, zero, suc, ◌+◌, ◌-◌, ◌*◌, ◌^◌, ◌≤◌, ◌<◌, min, ◌≡◌, true, List}
use Rattle.std.proofs.Common.{mul_assoc, mul-le-mul_right, arith, sym, ap, ◌∙◌, subst}
use Rattle.std.proofs.Math.Path.{refl}
use Rattle.model.specs.declared.ConsolidationFn.TheVariants.{Average}
use Rattle.model.specs.Image.{row_count, row_at}
use Rattle.demand.specs.Demand.{Sample, last_of, count, is_at, used, is_offset, ticks}
use Rattle.pair_theory.specs.Answers.{patterns_of, answer_for}
use Rattle.pair_theory.specs.Fill.{Given}
use Rattle.sample_theory.specs.Lists.{value_at, value_ok}
use Rattle.sample_theory.specs.Ticks.{Steady}
use Rattle.sample_theory.specs.Schedule.{touched}
use Rattle.sample_theory.specs.Supposed.{Spans}
use Rattle.run_theory.specs.Setup.{Setup}
use Rattle.run_theory.specs.Between.{Fits}
use Rattle.demand_proved.specs.Values.{tier_long, so_far, long_pos, touched-lt, touched-from, so_closed, OffsetsIn, so_finite, so_given, finite-bits}
use Rattle.demand_proved.specs.Stronger.{Planned}
use Rattle.demand_proved.proofs.Plan.{ratio, coarsest_of, per, some_rows, next-interval, ratio_in, coarsest-is, some_per, next-per, span, interval-ticks, per-ticks, ratios, series-same}

-- column c's pattern at each tick, d apart
abbrev pub tick_value : ℕ → List Sample → ℕ → ℕ → ℕ
tick_value d xs c q = value_at c (q * d) xs

pub one_tick : (r : ℕ → ℕ) → tier_long r 0 ≡ 1
unfolding tier_long
one_tick r = refl

pub next-ticks : (r : ℕ → ℕ) (k : ℕ) → tier_long r (suc k) ≡ tier_long r k * r k
unfolding tier_long
next-ticks r k = refl

pub at_tick : (r X : ℕ → ℕ) (H q : ℕ) → so_far r X H 0 q ≡ X q
unfolding so_far
at_tick r X H q = refl

pub nothing : {a q : ℕ} (L : ℕ) → q < a + touched L 0 → a ≤ q → ⊥
unfolding touched
nothing L x y = omega arith

-- samples from the start of a coarsest interval on, steady, their stamps below 2^63
pub record Supplied (p : List ℕ) (xs : List Sample) : Type 0 where
  pub span-is : Spans (row_at p 0).interval (coarsest_of p) (per p 0) xs
  pub steady_is : Steady (row_at p 0).interval (span-is.A * per p 0) (ticks (row_at p 0).interval xs) xs
  pub lowest : last_of xs < 2 ^ 63

module _ {p buf : List ℕ} (ok : Planned p buf) {xs : List Sample} (h : Supplied p xs) where
  abbrev A : ℕ
  A = h.span-is.A

  -- so many ticks
  abbrev E : ℕ
  E = ticks (row_at p 0).interval xs

  abbrev L : ℕ → ℕ
  L k = tier_long (ratio p) k

  -- the first tick, in intervals of tier k
  pub first_tick : (k : ℕ) → k < row_count p → A * per p k * L k ≡ A * per p 0
  first_tick k hk = mul_assoc A (per p k) (L k) ∙ ap (λ (v : ℕ). A * v) (sym (per-ticks ok k hk))

  -- a used column has one sample at every tick
  pub tick_once : (c i : ℕ) → used c xs ≡ true → A * per p 0 ≤ i → i < A * per p 0 + E → count (is_at c (i * (row_at p 0).interval)) xs ≡ 1
  tick_once c i hu lo hi =
      let f : A * per p 0 + (i - A * per p 0) ≡ i = omega arith in
      subst (λ (v : ℕ). count (is_at c (v * (row_at p 0).interval)) xs ≡ 1) f (h.steady_is.gap c (i - A * per p 0) hu (omega arith))

  pub tick_offset : (c i : ℕ) → used c xs ≡ true → A * per p 0 ≤ i → i < A * per p 0 + E → is_offset (tick_value (row_at p 0).interval xs c i) ≡ true
  tick_offset c i hu lo hi = value_ok c (i * (row_at p 0).interval) xs (λ z us bs e. (h.steady_is.ends z us bs e).2) (tick_once c i hu lo hi)

  -- those of window q of tier k that are in, where e ticks are
  pub offsets_in : (e c k q : ℕ) → e ≤ E → k < row_count p → used c xs ≡ true → A * per p k ≤ q → OffsetsIn (ratio p) (tick_value (row_at p 0).interval xs c) (A * per p 0 + e) k q
  offsets_in e c k q he hk hu lo i x y z = tick_offset c i hu (omega (arith, first_tick k hk, mul-le-mul_right (L k) lo)) (omega arith)

  -- window q of tier k has a tick, where e ticks are in
  pub begun : (e k q : ℕ) → k < row_count p → A * per p k ≤ q → q < A * per p k + touched (L k) e → q * L k < A * per p 0 + e
  begun zero k q hk lo hi = absurd (nothing (L k) hi lo)
  begun (suc x) k q hk lo hi =
      let t = touched-from (A * per p k) (L k) (suc x) (long_pos (ratio p) k (ratios ok k hk)) (omega arith) in
      rw (← first_tick k hk) (touched-lt (L k) q (A * per p k * L k + suc x) (rw t hi))

  pub given_at : (e k c q : ℕ) → e ≤ E → suc k < row_count p → used c xs ≡ true → A * per p (suc k) ≤ q → q < A * per p (suc k) + touched (L (suc k)) e
      → Given (answer_for Average (patterns_of (so_far (ratio p) (tick_value (row_at p 0).interval xs c) (A * per p 0 + e) k) (q * ratio p k)
      (min (A * per p k + touched (L k) e) (suc q * ratio p k) - q * ratio p k))) (so_far (ratio p) (tick_value (row_at p 0).interval xs c) (A * per p 0 + e) (suc k) q)
  given_at zero k c q he hk hu lo hi = absurd (nothing (L (suc k)) hi lo)
  given_at (suc x) k c q he hk hu lo hi =
      let t = touched-from (A * per p k) (L k) (suc x) (long_pos (ratio p) k (ratios ok k (omega arith))) (omega arith) in
      let s : touched (L k) (A * per p 0 + suc x) ≡ A * per p k + touched (L k) (suc x) = rw (← first_tick k (omega arith)) t in
      rw (← s) (so_given (ratio p) (tick_value (row_at p 0).interval xs c) (A * per p 0 + suc x) k q (ratios ok (suc k) hk) (offsets_in (suc x) c (suc k) q he hk hu lo) (begun (suc x) (suc k) q hk lo hi))

  unfoldable pub setting : Setup
  setting = record {
    plan = p;
    columns = (row_at p 0).series;
    coarsest = coarsest_of p;
    first = A;
    most = E;
    per = per p;
    ratio = ratio p;
    long = L;
    is_used = λ c. used c xs;
    tick = tick_value (row_at p 0).interval xs;
    value = λ e k c q. so_far (ratio p) (tick_value (row_at p 0).interval xs c) (A * per p 0 + e) k q;
    some = some_rows ok;
    series-is = series-same ok;
    average = ok.average;
    coarsest-is = coarsest-is ok;
    next-interval = next-interval ok;
    next-per = next-per ok;
    first-long = one_tick (ratio p);
    next-long = λ k l. next-ticks (ratio p) k;
    per-long = per-ticks ok;
    interval-long = interval-ticks ok;
    some_ratio = λ k l. (ratio_in ok k l).0;
    some_per = some_per ok;
    some_long = λ k l. long_pos (ratio p) k (ratios ok k l);
    span = span ok;
    later = h.span-is.A_pos;
    low = omega (arith, h.span-is.last-is, h.lowest);
    value_tick = λ e c q. at_tick (ratio p) (tick_value (row_at p 0).interval xs c) (A * per p 0 + e) q;
    number = λ e k c q he hk hc hu lo hi. (finite-bits (so_far (ratio p) (tick_value (row_at p 0).interval xs c) (A * per p 0 + e) k q)
        (so_finite (ratio p) (tick_value (row_at p 0).interval xs c) (A * per p 0 + e) k q (ratios ok k hk) (offsets_in e c k q he hk hu lo) (begun e k q hk lo hi))).0;
    given = λ e k c q he hk hc hu lo hi. given_at e k c q he hk hu lo hi;
    closed = λ e f k c q hf hk hq.
        so_closed (ratio p) (tick_value (row_at p 0).interval xs c) (A * per p 0 + e) k q (ratios ok k hk) (omega arith)
        ∙ sym (so_closed (ratio p) (tick_value (row_at p 0).interval xs c) (A * per p 0 + f) k q (ratios ok k hk) hq);
  }

  pub setting-fits : Fits setting xs
  unfolding setting
  setting-fits = record { steady = h.steady_is; used-is = λ c. refl; value_is = λ c q. refl }
