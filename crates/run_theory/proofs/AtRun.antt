-- A run between two calls: every used column has all ticks so far, so the run is not refused and leaves every tier and mark with its numbers of them. It is the step over a run in the induction over the calls. Assumes nothing.
use Prim.Native.Nat.{ℕ, suc, ◌+◌, ◌-◌, ◌*◌, ◌≤◌, ◌<◌}
use Rattle.std.proofs.Common.{div-one, arith, sym, ap, ◌∙◌}
use Rattle.std.proofs.Math.Nat.{lt-div-mul-add}
use Rattle.std.proofs.Math.Decide.{dec_lt}
use Rattle.std.specs.Prelude.{◌≡◌, refl, Bool, true, false, cond, List, [], ◌∷◌, ◌++◌, leb}
use Rattle.std.proofs.Math.Dec.{eqb}
use Rattle.model.specs.Lent.{Lent}
use Rattle.model.specs.Consolidate.{run}
use Rattle.demand.specs.Demand.{Sample, Event, ran, samples_in, last_of, ascending, count, used, scheduled}
use Rattle.laws.specs.Tests.{yes_lt, yes_eq, and_right}
use Rattle.ring_theory.specs.Column.{keeps_agree}
use Rattle.pair_theory.specs.Fill.{used_below, one-used}
use Rattle.sample_theory.specs.Lists.{of_column, count-append, unused_none}
use Rattle.sample_theory.specs.Ticks.{complete}
use Rattle.sample_theory.specs.Schedule.{touched, last_stamp, ran_on, none_at-run}
use Rattle.run_theory.specs.Setup.{Setup, tier_count, interval_of, first_no, Tier}
use Rattle.run_theory.proofs.Run.{run_is}
use Rattle.run_theory.specs.Between.{column_in, Fits, Between}
use Rattle.run_theory.specs.AtRun.{RanOn}

asc_after : (p : ℕ) (y : Sample) (ys zs : List Sample) → ascending p ((y ∷ ys) ++ zs) ≡ true → ascending (last_of (y ∷ ys)) zs ≡ true
unfolding ascending last_of
asc_after p y [] zs h = and_right (leb p y.stamp) (ascending y.stamp zs) h
asc_after p y (z ∷ ys) zs h = asc_after y.stamp z ys zs (and_right (leb p y.stamp) (ascending y.stamp (z ∷ (ys ++ zs))) h)

module _ {S : Setup} {l : Lent} {ys : List Sample} (rest : List Event) {e g : ℕ} (lv : Between S l ys e g) (f : Fits S (ys ++ samples_in rest))
    (sch : scheduled S.coarsest (last_of ys) (last_stamp (interval_of S 0) (first_no S 0) g) (ran ∷ rest) ≡ true) where
  here : 0 < tier_count S
  here = S.some

  sched_rest : scheduled S.coarsest (last_of ys) (last_of ys) rest ≡ true
  sched_rest = (ran_on S.coarsest (last_of ys) (last_stamp (interval_of S 0) (first_no S 0) g) rest sch).1

  -- there is a sample
  last_pos : 0 < last_of ys
  last_pos = (ran_on S.coarsest (last_of ys) (last_stamp (interval_of S 0) (first_no S 0) g) rest sch).0

  none : ys ≡ [] → ⊥
  unfolding last_of
  none z = omega (arith, rw z at last_pos)

  e_pos : 0 < e
  e_pos = go (dec_lt 0 e)
    where
      go : Dec (0 < e) → 0 < e
      go (yes p) = p
      go (no p) = absurd (none (lv.reached.none (omega arith)))

  -- tick first_no + x is the last
  x : ℕ
  x = e - 1

  e_is : e ≡ suc x
  unfolding x
  e_is = omega (arith, e_pos)

  last-is : last_of ys ≡ (first_no S 0 + x) * interval_of S 0
  last-is =
      let re = lv.reached.last-is e_pos ∙ ap (λ (i : ℕ). (first_no S 0 + i) * interval_of S 0) e_is in
      omega arith

  -- later ones are stamped later
  asc_rest : ascending (last_of ys) (samples_in rest) ≡ true
  asc_rest = go ys refl f.steady.ordered
    where
      go : (w : List Sample) → ys ≡ w → ascending (first_no S 0 * interval_of S 0) (ys ++ samples_in rest) ≡ true → ascending (last_of ys) (samples_in rest) ≡ true
      go [] p h = absurd (none p)
      go (y ∷ w) p h = rw p (asc_after (first_no S 0 * interval_of S 0) y w (samples_in rest) (rw p at h))

  -- every used column has all ticks
  counts : (c : ℕ) → count (of_column c) ys ≡ cond (S.is_used c) (suc x) 0
  counts c = go (S.is_used c) refl
    where
      go : (z : Bool) → S.is_used c ≡ z → count (of_column c) ys ≡ cond (S.is_used c) (suc x) 0
      go false p = rw p (unused_none ys (samples_in rest) c (sym (f.used-is c) ∙ p))
      go true p =
          rw p (complete (interval_of S 0) (first_no S 0) S.most x ys (samples_in rest) c f.steady (lv.regular c) (rw e_is at lv.reached) (sym (f.used-is c) ∙ p)
          (rw last-is at (none_at-run S.coarsest (last_of ys) c rest sched_rest asc_rest)))

  -- the finest tier has its numbers of all ticks
  ticked : touched (S.long 0) (suc x) ≡ suc x
  unfolding touched
  ticked = rw S.first-long (ap suc (div-one x))

  finest : Tier S l 0 (suc x)
  finest = rw ticked (record {
    state = rw e_is at lv.state;
    cols = λ c hc. keeps_agree (S.value (suc x) 0 c) (λ q y z. S.value_tick (suc x) c q) (rw (counts c) at (lv.cols c hc));
  })

  some_used : 0 < used_below S.is_used S.columns
  some_used = go ys refl
    where
      us : (c : ℕ) → 0 < count (of_column c) ys → S.is_used c ≡ true
      us c h = f.used-is c ∙ unfold used in (yes_lt 0 (count (λ x. eqb x.column c) (ys ++ samples_in rest)) (omega (arith, count-append (of_column c) ys (samples_in rest))))

      go : (w : List Sample) → ys ≡ w → 0 < used_below S.is_used S.columns
      go [] p = absurd (none p)
      go (y ∷ w) p =
          let o : 0 < count (of_column y.column) ys = rw p (unfold count in (rw (yes_eq y.column) (omega arith))) in
          one-used S.is_used S.columns y.column (column_in lv y.column o) (us y.column o)

  -- the ticks so far end in a coarsest interval that the run touches
  within : suc x ≤ suc (touched (S.per 0) (suc x)) * S.per 0
  unfolding touched
  within = omega (arith, lt-div-mul-add {a = x} (S.some_per 0 here))

  pub ran-here : RanOn S (run l) ys rest
  ran-here =
      let v = run_is (rw e_is at lv.low) (rw e_is at lv.high) (rw e_is at lv.reached.within) some_used l lv.base finest lv.tiers lv.marks in
      let s = v.settled in
      let t = rw ticked at (s.tiers 0 here) in
      record {
        fine = v.fine;
        e = suc x;
        pos = omega arith;
        settled = s;
        store = record {
          base = s.base;
          state = t.state;
          cols = λ c hc. rw (← counts c) at (keeps_agree (S.tick c) (λ q y z. sym (S.value_tick (suc x) c q)) (t.cols c hc));
          tiers = λ j z y. s.tiers j y;
          marks = s.marks;
          regular = lv.regular;
          reached = rw e_is at lv.reached;
          low = omega arith;
          high = within;
          known = lv.known;
        };
        on_schedule = unfold last_stamp in (rw (← last-is) sched_rest);
      }
