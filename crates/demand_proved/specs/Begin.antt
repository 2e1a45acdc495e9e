-- The store as creation leaves it, before the first call: it belongs to the set-up of its plan, every ring took nothing, and there is no mark. The
-- induction over the calls starts here. Assumes nothing.
use Rattle.std.specs.Prelude.{ℕ, ◌^◌, ◌<◌, ◌≡◌, Bool, []}
use Rattle.std.proofs.Common.{arith, ◌∙◌, subst}
use Rattle.std.proofs.Math.Path.{refl}
use Rattle.std.proofs.Math.Bool.{true, false, cond}
use Rattle.model.specs.Image.{schemas, row_count, row_at, create_check}
use Rattle.model.specs.Ring.{cell}
use Rattle.model.specs.Lent.{Lent, ring, creation}
use Rattle.demand.specs.Demand.{count}
use Rattle.ring_theory.specs.Column.{Col, keeps_agree, col_start}
use Rattle.ring_theory.specs.Hold.{Blank}
use Rattle.ring_theory.proofs.Hold.{blank_state}
use Rattle.sample_theory.specs.Ticks.{regular_nil, reached_nil}
use Rattle.sample_theory.specs.Schedule.{touched}
use Rattle.fresh_theory.specs.Creation.{good-created, created_like, created_mark, created_flags, created-blank, created-cell}
use Rattle.run_theory.specs.Setup.{Setup, tier_count, interval_of, slots_of, first_no, Tier, mark_of, Base}
use Rattle.run_theory.specs.Between.{Between}

-- low: each max series fits its field
module _ (S : Setup) (l : Lent) (accepted : create_check S.plan l.image ≡ 0) (one : schemas S.plan ≡ 1)
    (low : (i : ℕ) → i < row_count S.plan → (row_at S.plan i).series < 2 ^ 32) where
  base : Base S (creation S.plan l)
  base = record {
    good = good-created S.plan l accepted low;
    like = created_like S.plan l accepted low;
    flags_are = created_flags S.plan l accepted low;
    one_schema = (created_like S.plan l accepted low).schemas-is ∙ one;
  }

  blank : (k : ℕ) → k < tier_count S → Blank (ring (creation S.plan l) k) (slots_of S k) S.columns (interval_of S k)
  blank k h = subst (λ (m : ℕ). Blank (ring (creation S.plan l) k) (slots_of S k) m (interval_of S k)) (S.series-is k h) (created-blank S.plan l accepted low k h)

  column : (k : ℕ) → k < tier_count S → (x : ℕ) → x < S.columns → Col (cell (ring (creation S.plan l) k).slab x) (slots_of S k) (first_no S k) 0 (S.value 0 k x)
  column k h x hx =
      col_start (cell (ring (creation S.plan l) k).slab x) (slots_of S k) (first_no S k) (S.value 0 k x)
      (λ i hi. created-cell S.plan l accepted low k x i h (rw (S.series-is k h) hx) hi)

  none : (k : ℕ) → k < tier_count S → Tier S (creation S.plan l) k 0
  unfolding touched
  none k h = record { state = blank_state (first_no S k) (blank k h); cols = λ x hx. rw (nothing (S.is_used x)) (column k h x hx) }
    where
      nothing : (b : Bool) → cond {A = ℕ} b 0 0 ≡ 0
      nothing true = refl
      nothing false = refl

  pub begins : Between S (creation S.plan l) [] 0 0
  begins =
      let h = S.some in
      record {
        base = base;
        state = blank_state (first_no S 0) (blank 0 h);
        cols = λ x hx. unfold count in (keeps_agree (S.tick x) (λ q y z. absurd (omega arith)) (column 0 h x hx));
        tiers = λ j x y. none j y;
        marks = λ j x. created_mark S.plan l accepted low j (omega arith) ∙ unfold mark_of in refl;
        regular = regular_nil (interval_of S 0) (first_no S 0);
        reached = reached_nil (interval_of S 0) (first_no S 0) S.most;
        low = omega arith;
        high = omega arith;
        known = λ c x. unfold count in refl;
      }
