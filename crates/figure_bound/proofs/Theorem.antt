-- The bound on the panel's figure, proved: `proof : PanelWithin` for the statement in demand/specs/PanelBound.antt, with nothing added to its suppositions. It follows
-- from `stronger`, which supposes what the stronger demand does. The points are taken as that demand has them. Assumes nothing.
use Rattle.std.specs.Prelude.{ℕ, ◌+◌, ◌-◌, ◌*◌, ◌/◌, ◌^◌, ◌≤◌, ◌<◌, ◌≡◌, refl, ◌≢◌, true, List, [], ◌∷◌, T, nat_abs}
use Rattle.std.proofs.Common.{mul_assoc, le-div_iff_mul-le, ◌∙◌}
use Rattle.std.proofs.Math.Nat.{div-mul-le_self}
use native.Mathlib.Omega.{arith}
use Rattle.std.proofs.Math.Path.{sym, ap, subst}
use Rattle.std.proofs.lemmas.Bool.{false≢true}
use Rattle.std.specs.Float.Ieee.Bits.{is_true}
use Rattle.std.specs.Float.Ieee.{binary64, of_bits}
use Rattle.model.specs.Image.{row_count, row_at, row_slots}
use Rattle.model.specs.Read.{points_of}
use Rattle.model.specs.Query.{QueryReply, found, not_found, query}
use Rattle.model.specs.Store.{read_or, call, after}
use Rattle.model.specs.Figure.{end_of_time, reading, last_on, shown_point, panel_on, panel}
use Rattle.demand.specs.Demand.{Sample, first_of, last_of, ticks, count, is_at, is_closed, in_window, sum_of, each, handed_out, Situation, finest, coarsest, after_run, samples, answers, tier_interval, due}
use Rattle.demand.specs.PanelBound.{last_start, last_due, shown_within, panel_after, PanelWithin}
use Rattle.image_theory.specs.Checks.{TierOk, tiers_ok}
use Rattle.fresh_theory.specs.FreshImage.{plan-parts}
use Rattle.sample_theory.specs.Lists.{multiple}
use Rattle.sample_theory.specs.Ticks.{Steady}
use Rattle.sample_theory.specs.Supposed.{steady}
use Rattle.demand_proved.specs.Values.{tier_long}
use Rattle.demand_proved.proofs.Plan.{ratio, per, some_rows, long, coarsest-is, interval-ticks}
use Rattle.demand_proved.specs.Stronger.{Planned, Supposition, StrongerDemand}
use Rattle.demand_proved.proofs.Story.{samples_are, not_zero}
use Rattle.demand_proved.proofs.Tests.{clauses}
use Rattle.demand_proved.proofs.Theorem as third
use Rattle.figure_bound.proofs.Near.{shown_near}
use Rattle.figure_bound.specs.Samples.{sum_size, count_window}
use Rattle.figure_bound.specs.Last.{last_window, some_window, last_near}

-- ---- from the points of a reading to the panel

reading_near : (d c i k : ℕ) (xs : List Sample) (ws : List ℕ) (r : QueryReply) → ws ≢ [] → each d c i k xs ws (handed_out (read_or r)) ≡ true
    → is_closed d i xs (last_start 0 ws) ≡ true → k ≤ 4096 → 0 < count (in_window c i (last_start 0 ws)) xs
    → nat_abs (sum_of (in_window c i (last_start 0 ws)) xs) ≤ 2 ^ 30 * count (in_window c i (last_start 0 ws)) xs
    → shown_within k (panel_on r) (sum_of (in_window c i (last_start 0 ws)) xs) (count (in_window c i (last_start 0 ws)) xs) ≡ true
unfolding handed_out read_or panel_on last_on
reading_near d c i k xs [] r some h e K N small = absurd (some refl)
reading_near d c i k xs (w ∷ ws) (not_found j) some h e K N small = absurd (unfold each in (false≢true h))
reading_near d c i k xs (w ∷ ws) (found a) some h e K N small =
    let q = last_near d c i k xs w ws (points_of a.reader) h in
    let v = last_start 0 (w ∷ ws) in
    rw q.1 (unfold shown_point in (shown_near k (count (in_window c i v) xs) (sum_of (in_window c i v) xs) N K small (of_bits binary64 q.0.value) (q.2 e)))

-- ---- the samples of the last window that is due

module _ (s : Situation) (h : Supposition s) where
  abbrev p : List ℕ
  p = s.plan

  abbrev xs : List Sample
  xs = samples s

  abbrev d : ℕ
  d = finest s

  abbrev i : ℕ
  i = tier_interval s

  ok : Planned p s.buf
  ok = h.plan-is

  here : 0 < row_count p
  here = some_rows ok

  tier-is : TierOk (row_at p s.tier)
  tier-is = let u = (plan-parts p s.buf ok.accepted).0 in tiers_ok p u.shape_is u.layout_is s.tier h.tier_in_lem

  few : s.tier ≤ 4096
  few = omega (arith, (plan-parts p s.buf ok.accepted).0.shape_is.few_rows, h.tier_in_lem)

  later : 0 < first_of xs
  later = rw (samples_are s) (not_zero s h)

  -- the first sample's tick
  a : ℕ
  a = first_of xs / coarsest s * per p 0

  first-at : first_of xs ≡ a * d
  unfolding a finest coarsest
  first-at =
      multiple (first_of xs) (coarsest s) h.first-whole
      ∙ ap (λ (v : ℕ). first_of xs / coarsest s * v) (coarsest-is ok 0 here) ∙ sym (mul_assoc (first_of xs / coarsest s) (per p 0) d)

  ticks_are : Steady d a (ticks d xs) xs
  unfolding finest
  ticks_are = steady d a xs (long ok 0 here) first-at later h.ordered h.offsets h.on-ticks h.no_gap

  last-is : last_due s ≡ first_of xs + i * ((last_of xs - first_of xs) / i)
  unfolding last_due due
  last-is = last_window i (row_slots (row_at p s.tier)) xs tier-is.some_slots

  -- it starts at a tick of the samples'
  one_at : count (is_at s.column (last_due s)) xs ≡ 1
  unfolding finest tier_interval ticks
  one_at =
      let L = tier_long (ratio p) s.tier in
      let g = last_of xs - first_of xs in
      let e : i ≡ L * d = interval-ticks ok s.tier h.tier_in_lem in
      let f : i * (g / i) ≡ L * (g / i) * d = ap (λ (v : ℕ). v * (g / i)) e ∙ swap L d (g / i) in
      let at : (a + L * (g / i)) * d ≡ last_due s = omega (arith, last-is, f, first-at) in
      let low : L * (g / i) ≤ g / d = (le-div_iff_mul-le (long ok 0 here)).1 (omega (arith, f, div-mul-le_self g i)) in
      subst (λ (t : ℕ). count (is_at s.column t) xs ≡ 1) at (ticks_are.gap s.column (L * (g / i)) h.column_used (omega arith))
    where
      swap : (u v w : ℕ) → u * v * w ≡ u * w * v
      swap u v w = omega arith

  some_samples : 0 < count (in_window s.column i (last_due s)) xs
  unfolding tier_interval
  some_samples = omega (arith, one_at, count_window s.column i (last_due s) xs tier-is.long)

  -- the third demand's points end with one that is near the exact mean
  pub stronger : T (is_closed d i xs (last_due s)) → T (shown_within s.tier (panel_after s) (sum_of (in_window s.column i (last_due s)) xs) (count (in_window s.column i (last_due s)) xs))
  unfolding StrongerDemand answers panel_after panel reading end_of_time call last_due
  stronger closed =
      rw (reading_near d s.column i s.tier xs (due s) (query (after (after_run s) s.between) 0 s.column s.tier 0 (2 ^ 64 - 1))
      (unfold due in (some_window i (row_slots (row_at p s.tier)) xs tier-is.some_slots))
      (is_true (each d s.column i s.tier xs (due s) (answers s)) (third.stronger s h)) (is_true (is_closed d i xs (last_due s)) closed) few
      some_samples (sum_size (in_window s.column i (last_due s)) xs h.offsets)) tt

pub proof : PanelWithin
unfolding PanelWithin
proof s accepted one plan supposition quiet column tier closed = stronger s (clauses s accepted plan supposition quiet column tier) closed
