-- A run over a store in which no ring is ahead: it passes over no write and is the run of the rules before, refused or not; where it is not refused, no ring is
-- ahead after it. Assumes nothing.
use Prim.Native.Nat.{ℕ, zero, suc, ◌+◌, ◌-◌, ◌≤◌, ◌<◌}
use Rattle.std.proofs.Common.{arith, sym, ◌∙◌, subst}
use Rattle.std.specs.Prelude.{◌≡◌, ◌&&◌, cond, Option, Some, None}
use Rattle.std.proofs.Math.Path.{refl, ap}
use Rattle.std.proofs.Math.Bool.{Bool, true, false}
use Rattle.std.proofs.Math.Dec.{ltb, eqb}
use Rattle.model.specs.declared.ConsolidationFn.{ConsolidationFn}
use Rattle.model.specs.Words.{function_no}
use Rattle.model.specs.Image.{row_count, row_slots, open_check}
use Rattle.model.specs.Ring.{slots, newest}
use Rattle.model.specs.Window.{window_of}
use Rattle.model.specs.Lent.{Lent, row, ring}
use Rattle.model.specs.Consolidate.{Filled, Run, refuse_run, stamps_below, or_zero, windows, job_of, filled, close_pair, pair_with, pair_by, pair, pair_if, pairs, run_on, run}
use Rattle.as_before.specs.Before as Before
use Rattle.as_before.specs.AsBefore.{passed_fill, passed_with, passed_by, passed_pair, passed_pairs, passed_on, passed_over}
use Rattle.laws.specs.Tests.{yes_lt, eq_is}
use Rattle.image_theory.specs.Good.{tier_of_lem, count_kept}
use Rattle.image_theory.specs.Pairs.{slab_of_lem, newest_of, filled-long, filled-sound, stays_if}
use Rattle.as_before_proved.specs.Upto.{Upto}
use Rattle.as_before_proved.proofs.Within.{pair-within}
use Rattle.as_before_proved.specs.Fill.{bound}
use Rattle.as_before_proved.proofs.Fill.{AllSame, on-fill}
use Rattle.as_before_proved.specs.Capped.{Capped, put-pair}

-- u is the run v of the rules before, p writes passed over being none; not refused, it leaves no ring ahead
pub record SameRun (cap : ℕ → ℕ) (u v : Run) (p : ℕ) : Type 0 where
  pub as_before : u ≡ v
  pub none : p ≡ 0
  pub capped : u.refusal ≡ 0 → Capped cap u.lent

-- the window of the mark after k writes, unless refused
bound-is : (d t mark n k : ℕ) → n ≡ 0 → bound (window_of d mark) (window_of d t) k ≡ window_of d (cond (eqb n 0 && ltb 0 k) t mark)
bound-is d t mark n zero e = rw e
bound-is d t mark n (suc k) e = rw (e, yes_lt 0 (suc k) (omega arith))

module _ (cap : ℕ → ℕ) where
  -- ---- a pair

  module _ (l : Lent) (h : Capped cap l) (c i : ℕ) (hi : suc i < row_count l.image) (same : (row l i).schema ≡ (row l (suc i)).schema) where
    abbrev so_far : Run
    so_far = record { lent = l; count = c; refusal = 0 }

    abbrev empty : Filled
    empty = record { ring = ring l (suc i); writes = 0; refusal = 0 }

    abbrev mark_window : ℕ
    mark_window = window_of (row l (suc i)).interval (row l i).mark

    abbrev newest_window : ℕ
    newest_window = window_of (row l (suc i)).interval (or_zero (newest (ring l i)))

    -- its writes
    writes_same : (f : ConsolidationFn) (k : ℕ)
        → AllSame (row_slots (row l (suc i))) (row l (suc i)).series (row l (suc i)).interval mark_window newest_window
        (filled (job_of l i f) (ring l (suc i)) k) (Before.filled (job_of l i f) (ring l (suc i)) k) (passed_fill (job_of l i f) empty (windows (job_of l i f)) k)
    unfolding filled Before.filled
    writes_same f k =
        on-fill (row_slots (row l (suc i))) (row l (suc i)).series (row l (suc i)).interval mark_window newest_window
        (job_of l i f) k (windows (job_of l i f)) empty mark_window (pair-within l i (unfold row in (tier_of_lem l.image h.good (suc i) hi).long) f)
        (record { sound-is = slab_of_lem l h.good (suc i) hi; upto = h.coarser i hi same; held = h.coarser i hi same })

    with-same : (b : Bool) (f : ConsolidationFn) → stamps_below (ring l i).slab 0 (slots (ring l i).slab) ≡ b
        → SameRun cap (pair_with b f so_far i) (Before.pair_with b f so_far i) (passed_with b f l i)
    unfolding pair_with Before.pair_with passed_with
    with-same false f e = record { as_before = refl; none = refl; capped = λ z. absurd (unfold refuse_run in omega (arith, z)) }
    with-same true f e =
        let p = filled (job_of l i f) (ring l (suc i)) (row l i).series in
        let s = writes_same f (row l i).series in
        let t = or_zero (newest (ring l i)) in
        record {
          as_before = ap (close_pair so_far i t) s.as_before;
          none = s.none;
          capped = λ z. unfold close_pair in (put-pair cap l h i p.ring (eqb p.refusal 0 && ltb 0 p.writes) t hi same
              (filled-long l h.good (suc i) hi (job_of l i f) (row l i).series) (filled-sound l h.good (suc i) hi (job_of l i f) (row l i).series)
              (newest_of l h.good i (omega arith) e)
              (subst (λ (x : ℕ). Upto (row_slots (row l (suc i))) x p.ring.slab)
              (bound-is (row l (suc i)).interval t (row l i).mark p.refusal p.writes (unfold close_pair in z)) s.held));
        }

    by-same : (f : Option ConsolidationFn) → SameRun cap (pair_by f so_far i) (Before.pair_by f so_far i) (passed_by f l i)
    unfolding pair_by Before.pair_by passed_by
    by-same None = record { as_before = refl; none = refl; capped = λ z. absurd (unfold refuse_run in omega (arith, z)) }
    by-same (Some f) = with-same (stamps_below (ring l i).slab 0 (slots (ring l i).slab)) f refl

  if_same : (b : Bool) (l : Lent) → Capped cap l → (c i : ℕ) → suc i < row_count l.image → eqb (row l i).schema (row l (suc i)).schema ≡ b
      → SameRun cap (pair_if b 0 (record { lent = l; count = c; refusal = 0 }) i) (Before.pair_if b 0 (record { lent = l; count = c; refusal = 0 }) i) (passed_pair b 0 l i)
  unfolding pair_if Before.pair_if passed_pair pair Before.pair
  if_same true l h c i hi e = by-same l h c i hi (eq_is (row l i).schema (row l (suc i)).schema e) (function_no (row l (suc i)).function)
  if_same false l h c i hi e = record { as_before = refl; none = refl; capped = λ z. h }

  -- ---- all pairs

  -- a refusal has ended the run
  stopped : (b : Bool) (x n : ℕ) (u : Run) (i : ℕ) → x ≡ suc n → (pair_if b x u i ≡ u) × (Before.pair_if b x u i ≡ u) × (passed_pair b x u.lent i ≡ 0)
  unfolding pair_if Before.pair_if passed_pair
  stopped b zero n u i e = absurd (omega arith)
  stopped true (suc x) n u i e = (refl, refl, refl)
  stopped false (suc x) n u i e = (refl, refl, refl)

  ended : (k i n : ℕ) (u : Run) → u.refusal ≡ suc n → (pairs u i k ≡ u) × (Before.pairs u i k ≡ u) × (passed_pairs u i k ≡ 0)
  unfolding pairs Before.pairs passed_pairs
  ended zero i n u e = (refl, refl, refl)
  ended (suc k) i n u e =
      let s = stopped (eqb (row u.lent i).schema (row u.lent (suc i)).schema) u.refusal n u i e in
      let t = ended k (suc i) n u e in
      (rw s.0 t.0, rw s.1 t.1, rw s.0 (omega (arith, s.2, t.2)))

  abbrev going : Lent → ℕ → Run
  going l c = record { lent = l; count = c; refusal = 0 }

  all_same : (k i : ℕ) (l : Lent) (c : ℕ) → Capped cap l → i + k ≤ row_count l.image - 1
      → SameRun cap (pairs (going l c) i k) (Before.pairs (going l c) i k) (passed_pairs (going l c) i k)
  unfolding pairs Before.pairs passed_pairs
  all_same zero i l c h b = record { as_before = refl; none = refl; capped = λ z. h }
  all_same (suc k) i l c h b = go v.refusal refl (λ z. all_same k (suc i) v.lent v.count (s.capped z) (rw count (omega arith)))
    where
      same : Bool
      same = eqb (row l i).schema (row l (suc i)).schema

      v : Run
      v = pair_if same 0 (going l c) i

      s : SameRun cap v (Before.pair_if same 0 (going l c) i) (passed_pair same 0 l i)
      s = if_same same l h c i (omega arith) refl

      count : row_count v.lent.image ≡ row_count l.image
      count = count_kept v.lent.image l.image (stays_if same 0 (going l c) i h.good (omega arith)).image_is

      rest : SameRun cap (pairs v (suc i) k) (Before.pairs v (suc i) k) (passed_pairs v (suc i) k)
          → SameRun cap (pairs v (suc i) k) (Before.pairs (Before.pair_if same 0 (going l c) i) (suc i) k) (passed_pair same 0 l i + passed_pairs v (suc i) k)
      rest x = record {
        as_before = x.as_before ∙ ap (λ (w : Run). Before.pairs w (suc i) k) s.as_before;
        none = omega (arith, s.none, x.none);
        capped = x.capped;
      }

      go : (n : ℕ) → v.refusal ≡ n
          → (v.refusal ≡ 0 → SameRun cap (pairs (going v.lent v.count) (suc i) k) (Before.pairs (going v.lent v.count) (suc i) k) (passed_pairs (going v.lent v.count) (suc i) k))
          → SameRun cap (pairs v (suc i) k) (Before.pairs (Before.pair_if same 0 (going l c) i) (suc i) k) (passed_pair same 0 l i + passed_pairs v (suc i) k)
      go zero e ih =
          let p : going v.lent v.count ≡ v = λ x. record { lent = v.lent; count = v.count; refusal = sym e x } in
          rest (subst (λ (w : Run). SameRun cap (pairs w (suc i) k) (Before.pairs w (suc i) k) (passed_pairs w (suc i) k)) p (ih e))
      go (suc n) e ih =
          let t = ended k (suc i) n v e in
          rest (record { as_before = t.0 ∙ sym t.1; none = t.2; capped = λ z. absurd (omega (arith, sym e ∙ ap (λ (w : Run). w.refusal) (sym t.0) ∙ z)) })

  -- ---- the run

  on_same : (n : ℕ) (l : Lent) → Capped cap l → SameRun cap (run_on n l) (Before.run_on n l) (passed_on n l)
  unfolding run_on Before.run_on passed_on
  on_same zero l h = all_same (row_count l.image - 1) 0 l 0 h (omega arith)
  on_same (suc n) l h = record { as_before = refl; none = refl; capped = λ z. h }

  pub run-same : (l : Lent) → Capped cap l → SameRun cap (run l) (Before.run l) (passed_over l)
  unfolding run Before.run passed_over
  run-same l h = on_same (open_check l.image) l h
