-- From creation through the calls up to a run to the query after it, for one situation and its supposition: the stronger demand. The plan and the samples
-- make a set-up; the store that creation leaves belongs to it, and the calls keep that; the calls between, openings among them, leave every tier with what the run
-- gave it; the query of a used column at tier k hands out one point for each window that is due, and that of a closed one is within k / 4,096 of its samples' exact
-- mean. Assumes nothing.
use Prim.Native.Nat.{ℕ, suc, ◌+◌, ◌-◌, ◌*◌, ◌/◌, ◌%◌, ◌^◌, ◌≤◌, ◌<◌}
use Rattle.std.proofs.Common.{mul_assoc, le_of_mul-le-mul_right, le-div_iff_mul-le, arith, ◌∙◌, subst}
use Rattle.std.proofs.Math.Nat.{mul-le-mul_right, div-mul-le_self, eq_of_mul-eq-mul_right, mul-add-div_right}
use Rattle.std.specs.Prelude.{◌≡◌, true, T, eqb, length}
use Rattle.std.proofs.Math.Path.{refl, sym, ap}
use mathlib.Core.List.{List, [], ◌∷◌, ◌++◌, append-nil}
use Rattle.std.specs.Float.Ieee.{binary64, of_bits}
use Rattle.model.specs.Image.{row_count, row_at, row_slots, open_check}
use Rattle.model.specs.Lent.{Lent, creation}
use Rattle.model.specs.Consolidate.{run}
use Rattle.model.specs.Store.{Call, query_call, consolidate_call, finished, call, after}
use Rattle.demand.specs.Demand.{Sample, Event, ran, events_of, events, samples_in, first_of, last_of, ascending, all, is_offset, gapless, ticks, count, is_at, used, scheduled}
use Rattle.demand.specs.Demand.{newest_windows, starts, in_window, sum_of, within, each, handed_out, Situation, finest, coarsest, created, up_to_run, after_run, history, samples}
use Rattle.laws.specs.Tests.{lt-is}
use Rattle.ring_theory.specs.Hold.{first_held}
use Rattle.ring_theory.specs.Read.{pts}
use Rattle.pair_theory.specs.Answers.{values_of}
use Rattle.image_theory.specs.Calls.{after-append}
use Rattle.fresh_theory.specs.Creation.{low_open}
use Rattle.sample_theory.specs.Lists.{of_column, samples-append, first-le-last, multiple}
use Rattle.sample_theory.specs.Schedule.{touched, last_stamp, ends-run}
use Rattle.sample_theory.specs.Supposed.{last_tick, steady, Spans, spans}
use Rattle.mean_theory.specs.Exact.{aboves, belows}
use Rattle.run_theory.specs.Setup.{Setup}
use Rattle.run_theory.specs.Run.{Settled}
use Rattle.run_theory.specs.Between.{Fits, column_in, Next}
use Rattle.run_theory.specs.AtRun.{RanOn}
use Rattle.run_theory.proofs.AtRun.{ran-here}
use Rattle.run_theory.specs.Accepted.{Accepted, accepted_calls, last-low, some_opens, first_pos}
use Rattle.run_theory.proofs.Calls.{events-append, calls}
use Rattle.run_theory.proofs.Query.{settled_calls, answer_is}
use Rattle.demand_proved.specs.Values.{tier_long, tier_value, so_far, length-values, value_within, long_pos, so_closed}
use Rattle.demand_proved.specs.Exact.{within-is}
use Rattle.demand_proved.specs.Sums.{OnTicks, window_count, window_sum}
use Rattle.demand_proved.specs.Stronger.{Planned, Supposition}
use Rattle.demand_proved.proofs.Plan.{ratio, coarsest_of, per, some_rows, one_schema, long, coarsest-is, interval-ticks, ratios}
use Rattle.demand_proved.specs.Begin.{begins}
use Rattle.demand_proved.proofs.Setting.{Supplied, tick_value, first_tick, tick_once, tick_offset, setting, setting-fits}
use Rattle.demand_proved.specs.Due.{due-is, each-is}

-- what creation is lent
abbrev lent : Situation → Lent
lent s = record { image = s.buf; flags = s.flags }

-- the history is the events of the calls before, then the run
history-is : (s : Situation) → history s ≡ events (creation s.plan (lent s)) s.before ++ ran ∷ []
unfolding history created up_to_run
history-is s = events-append s.before (creation s.plan (lent s)) (consolidate_call ∷ []) ∙ unfold events events_of in refl

-- the run adds no sample
run_adds_none : (es : List Event) → samples_in (es ++ ran ∷ []) ≡ samples_in es
run_adds_none es = samples-append es (ran ∷ []) ∙ unfold samples_in in (append-nil (samples_in es))

pub samples_are : (s : Situation) → samples s ≡ samples_in (events (creation s.plan (lent s)) s.before)
unfolding samples
samples_are s = ap samples_in (history-is s) ∙ run_adds_none (events (creation s.plan (lent s)) s.before)

module _ (s : Situation) (h : Supposition s) where
  abbrev p : List ℕ
  p = s.plan

  abbrev l : Lent
  l = lent s

  abbrev before : List Call
  before = s.before

  abbrev d : ℕ
  d = (row_at p 0).interval

  abbrev D : ℕ
  D = coarsest_of p

  abbrev xs : List Sample
  xs = samples_in (events (creation p l) before)

  -- what the run leaves
  abbrev left : Lent
  left = (run (after (creation p l) before)).lent

  -- ---- the plan and the samples

  ok : Planned p s.buf
  ok = h.plan-is

  here : 0 < row_count p
  here = some_rows ok

  ordered : ascending 0 xs ≡ true
  ordered = rw (samples_are s) at h.ordered

  recorded : Accepted (open_check (creation p l).image) xs
  recorded = accepted_calls before (creation p l)

  on_schedule : scheduled D 0 0 (events (creation p l) before ++ ran ∷ []) ≡ true
  unfolding coarsest
  on_schedule = rw (history-is s) at h.on_schedule

  -- there is a sample
  some_sample : 0 < last_of xs
  some_sample = ends-run D (events (creation p l) before) [] 0 (unfold last_of in on_schedule)

  pub not_zero : 0 < first_of xs
  not_zero = first_pos (open_check (creation p l).image) xs recorded some_sample

  offsets : all (λ x. is_offset x.value) xs ≡ true
  offsets = rw (samples_are s) at h.offsets

  on-ticks : all (λ x. eqb (x.stamp % d) 0) xs ≡ true
  unfolding finest
  on-ticks = rw (samples_are s) at h.on-ticks

  no_gap : all (λ x. gapless x.column d (first_of xs) (ticks d xs) xs) xs ≡ true
  unfolding finest
  no_gap = rw (samples_are s) at h.no_gap

  -- the first sample begins a coarsest interval
  first-at : first_of xs ≡ first_of xs / D * per p 0 * d
  first-at =
      multiple (first_of xs) D (unfold coarsest in (rw (samples_are s) at h.first-whole))
      ∙ ap (λ (v : ℕ). first_of xs / D * v) (coarsest-is ok 0 here) ∙ sym (mul_assoc (first_of xs / D) (per p 0) d)

  span : Spans d D (per p 0) xs
  span =
      spans d D (per p 0) xs (long ok 0 here) (coarsest-is ok 0 here) not_zero
      (unfold coarsest in (rw (samples_are s) at h.first-whole)) (first-le-last 0 xs ordered)
      (last_tick d (first_of xs / D * per p 0) xs (long ok 0 here) first-at not_zero ordered offsets on-ticks no_gap)

  abbrev A : ℕ
  A = span.A

  abbrev E : ℕ
  E = ticks d xs

  supplied : Supplied p xs
  supplied =
      let f : first_of xs ≡ A * per p 0 * d = span.first-is ∙ ap (λ (v : ℕ). A * v) (coarsest-is ok 0 here) ∙ sym (mul_assoc A (per p 0) d) in
      record {
        span-is = span;
        steady_is = steady d (A * per p 0) xs (long ok 0 here) f not_zero ordered offsets on-ticks no_gap;
        lowest = last-low (open_check (creation p l).image) xs recorded;
      }

  -- ---- the calls up to the run, and the run

  S : Setup
  S = setting ok supplied

  fits : Fits S xs
  unfolding S
  fits = setting-fits ok supplied

  start : Next S (creation p l) [] (events (creation p l) before ++ ran ∷ [])
  unfolding S setting last_of last_stamp
  start = record {
    e = 0;
    f = 0;
    store = begins S l ok.accepted (one_schema ok) (low_open p l ok.accepted (some_opens (open_check (creation p l).image) xs recorded not_zero));
    on_schedule = on_schedule;
  }

  ready : Next S (after (creation p l) before) xs (ran ∷ [])
  ready = calls before (ran ∷ []) start (rw run_adds_none fits)

  done : RanOn S (run (after (creation p l) before)) xs []
  unfolding samples_in
  done = ran-here [] ready.store (rw (append-nil xs) fits) ready.on_schedule

  -- the run is not refused
  pub not_refused : (run (after (creation p l) before)).refusal ≡ 0
  not_refused = done.fine

  -- all ticks of the samples have been consolidated
  last-run : done.e ≡ E
  unfolding S setting supplied
  last-run =
      let e = done.store.reached.last-is done.pos in
      let f : (A * per p 0 + done.e) * d ≡ (A * per p 0 + E) * d = sym e ∙ span.last-is in
      omega (arith, eq_of_mul-eq-mul_right d (long ok 0 here) (A * per p 0 + done.e) (A * per p 0 + E) f)

  after_run_lem : after (creation p l) (before ++ consolidate_call ∷ []) ≡ left
  after_run_lem = after-append before (creation p l) (consolidate_call ∷ []) ∙ unfold after call finished in refl

  -- what the query is lent
  abbrev asked : Lent
  asked = after (after_run s) s.between

  -- the calls between leave settled what the run left so
  still_settled : Settled S asked E
  unfolding after_run created up_to_run
  still_settled =
      settled_calls s.between (after (creation p l) (before ++ consolidate_call ∷ [])) h.quiet
      (subst (λ (m : Lent). Settled S m E) (sym after_run_lem) (subst (Settled S left) last-run done.settled))

  -- ---- the query

  abbrev c : ℕ
  c = s.column

  abbrev k : ℕ
  k = s.tier

  hk : k < row_count p
  hk = h.tier_in_lem

  hu : used c xs ≡ true
  hu = rw (samples_are s) at h.column_used

  here_too : c < S.columns
  unfolding used
  here_too = column_in done.store c (lt-is 0 (count (of_column c) xs) hu)

  abbrev i : ℕ
  i = (row_at p k).interval

  abbrev m : ℕ
  m = per p k

  abbrev L : ℕ
  L = tier_long (ratio p) k

  z_l : 0 < L
  z_l = long_pos (ratio p) k (ratios ok k hk)

  -- the first number that the tier's ring holds
  abbrev first : ℕ
  first = first_held (row_slots (row_at p k)) (A * m) (touched L E)

  abbrev X : ℕ → ℕ
  X = tick_value d xs c

  -- the values at the end
  abbrev W : ℕ → ℕ
  W = so_far (ratio p) X (A * per p 0 + E) k

  points_are : handed_out (call asked (query_call 0 c k 0 (2 ^ 64 - 1))).reply ≡ pts W i first (A * m + touched L E - first)
  unfolding S setting supplied ticks
  points_are = answer_is still_settled (omega arith) c k here_too hu hk

  -- number q's value against the samples of its window, where that is closed
  near : (q : ℕ) → A * m ≤ q → q < A * m + E / L
      → within k (of_bits binary64 (W q)) (sum_of (in_window c i (q * i)) xs) (count (in_window c i (q * i)) xs) ≡ true
  unfolding supplied
  near q lo hi =
      let zs = values_of X (q * L) L in
      let a = first_tick ok supplied k hk in
      let low : A * per p 0 ≤ q * L = omega (arith, a, mul-le-mul_right L lo) in
      let top : suc q * L ≤ A * per p 0 + E = omega (arith, a, mul-le-mul_right L hi, div-mul-le_self E L) in
      let once : (j : ℕ) → q * L ≤ j → j < q * L + L → count (is_at c (j * d)) xs ≡ 1 = λ j x y. tick_once ok supplied c j hu (omega arith) (omega arith) in
      let on : OnTicks d xs = λ x us bs e. (supplied.steady_is.ends x us bs e).1 in
      let e : i ≡ L * d = interval-ticks ok k hk in
      let f : q * i ≡ q * L * d = ap (λ (v : ℕ). q * v) e ∙ sym (mul_assoc q L d) in
      rw (so_closed (ratio p) X (A * per p 0 + E) k q (ratios ok k hk) top, f, e, window_count c d xs (long ok 0 here) on (q * L) L once ∙ sym (length-values X (q * L) L))
      (within-is k (of_bits binary64 (tier_value (ratio p) X k q)) (sum_of (in_window c (L * d) (q * L * d)) xs) (aboves zs) (belows zs) (length zs)
      (window_sum c d xs (long ok 0 here) on (q * L) L once) (value_within (ratio p) X k q (ratios ok k hk) (λ j x y. tick_offset ok supplied c j hu (omega arith) (omega arith))))

  apart : (A * per p 0 + E) * d ≡ A * m * i + E * d
  apart =
      let e : A * per p 0 * d ≡ A * m * i = mul_assoc A (per p 0) d ∙ ap (λ (v : ℕ). A * v) (sym (coarsest-is ok 0 here) ∙ coarsest-is ok k hk) ∙ sym (mul_assoc A m i) in
      omega arith

  windows : newest_windows i (row_slots (row_at p k)) xs ≡ starts i (first * i) (A * m + touched L E - first)
  unfolding ticks
  windows =
      due-is d i (row_slots (row_at p k)) (A * m) E L xs (long ok 0 here) z_l (omega arith) (interval-ticks ok k hk)
      (span.first-is ∙ ap (λ (v : ℕ). A * v) (coarsest-is ok k hk) ∙ sym (mul_assoc A m i)) (span.last-is ∙ apart)

  -- a window that ends by the last tick's end is one of the closed numbers
  closed_no : (q : ℕ) → q * i + i ≤ last_of xs + d → q < A * m + E / L
  closed_no q h =
      let e : i ≡ L * d = interval-ticks ok k hk in
      let t : suc q * L * d ≤ (A * m * L + E) * d = omega (arith, span.last-is ∙ apart, ap (λ (v : ℕ). suc q * v) e, ap (λ (v : ℕ). A * m * v) e) in
      let u : suc q * L ≤ A * m * L + E = le_of_mul-le-mul_right {k = d} t (long ok 0 here) in
      let w : suc q ≤ (A * m * L + E) / L = (le-div_iff_mul-le z_l).1 u in
      omega (arith, mul-add-div_right z_l (A * m) E)

  pub as_promised : T (each (row_at p 0).interval c (row_at p k).interval k xs
      (newest_windows (row_at p k).interval (row_slots (row_at p k)) xs)
      (handed_out (call asked (query_call 0 c k 0 (2 ^ 64 - 1))).reply))
  as_promised =
      rw (windows, points_are, each-is d c i k xs W first (A * m + touched L E - first) (λ q x y z. near q (low q x) (closed_no q z))) tt
    where
      low : (q : ℕ) → first ≤ q → A * m ≤ q
      low q h = unfold first_held in (omega arith)
