-- Histories in time order behave as before request 2026-05, proved: `proof : AsBefore`; and `none_passed-over : NonePassedOver`, whatever the order. From
-- creation on no ring is ahead of its cap, nor a destination of its mark. Assumes nothing.
use Rattle.std.specs.Prelude.{ℕ, zero, suc, ◌+◌, ◌^◌, ◌≤◌, ◌<◌, ◌≡◌, true}
use Rattle.std.proofs.Common.{arith, sym, ◌∙◌, subst}
use Rattle.std.proofs.Math.Decide.{ℕ_discrete}
use Rattle.std.proofs.Math.Path.{refl, ap}
use mathlib.Core.List.{List, [], ◌∷◌, ◌++◌}
use Rattle.std.specs.Float.Ieee.Bits.{is_true}
use Rattle.model.specs.Image.{schemas, row_count, row_at, row_slots, first, create_check, open_check}
use Rattle.model.specs.Window.{window_of}
use Rattle.model.specs.Lent.{Lent, creation, row, ring}
use Rattle.model.specs.Record.{record_check, batch_check}
use Rattle.model.specs.Consolidate.{run_on, run}
use Rattle.model.specs.Store.{Call, Deed, reads, records, records_all, runs, opens, deed, doing, finished, Reply, Done, call, after, replies}
use Rattle.as_before.specs.Before as Before
use Rattle.as_before.specs.AsBefore.{stamp_by, stamps_of, never_fall, in_order_from, in_order, goes_on, no_run_refused, AsBefore, passed_on, passed_over, NonePassedOver}
use Rattle.laws.specs.Tests.{and_left, and_right}
use Rattle.image_theory.specs.Good.{Good, SameRows, count_kept}
use Rattle.image_theory.proofs.Calls.{stays_call, refused_call, verdict_after}
use Rattle.fresh_theory.specs.Creation.{low_open, good-created, created_like, created_flags, created-blank}
use Rattle.as_before_proved.specs.Upto.{Upto}
use Rattle.as_before_proved.specs.Capped.{Capped, rows_alike}
use Rattle.as_before_proved.proofs.Run.{run-same}
use Rattle.as_before_proved.proofs.Calls.{fall_left, fall_right, cap_by, kept, done_same}

-- ---- from creation

module _ (p : List ℕ) (l : Lent) (ok : create_check p l.image ≡ 0) (opens : open_check (creation p l).image ≡ 0) where
  low : (i : ℕ) → i < row_count p → (row_at p i).series < 2 ^ 32
  low = low_open p l ok opens

  count-created : row_count (creation p l).image ≡ row_count p
  count-created = (created_like p l ok low).count-is

  -- every stamp is 0
  blank : (i : ℕ) → i < row_count (creation p l).image → (b : ℕ) → Upto (row_slots (row (creation p l) i)) b (ring (creation p l) i).slab
  unfolding row row_slots
  blank i hi b =
      let here : i < row_count p = rw count-created at hi in
      let a = (created_like p l ok low).alike i here in
      rw (a.interval-is, a.retention_is) (λ j hj. omega (arith, (created-blank p l ok low i here).stamps j (unfold row_slots in hj)))

  pub capped-created : Capped (λ i. 0) (creation p l)
  capped-created = record {
    good = good-created p l ok low;
    flags_are = rw count-created (created_flags p l ok low);
    finest = λ i hi e. blank i hi 0;
    coarser = λ i hi e. blank (suc i) hi (window_of (row (creation p l) (suc i)).interval (row (creation p l) i).mark);
  }

-- ---- an image that does not pass the checks: every call is refused, now as before

refused_same : (n : ℕ) (l : Lent) → open_check l.image ≡ suc n → (d : Deed) → doing l d ≡ Before.doing l d
unfolding finished run run_on record_check batch_check first
refused_same n l e (reads reply) = refl
refused_same n l e (records k c v t) = unfold Before.record_check in (rw e)
refused_same n l e (records_all [] t) = unfold Before.batch_check in refl
refused_same n l e (records_all (x ∷ es) t) = unfold Before.batch_check in (rw e)
refused_same n l e runs = unfold Before.run Before.run_on in (rw e)
refused_same n l e (opens fs) = refl

same_refused : (cs : List Call) (n : ℕ) (l : Lent) → open_check l.image ≡ suc n → (after l cs ≡ Before.after l cs) × (replies l cs ≡ Before.replies l cs)
unfolding after replies Before.after Before.replies
same_refused [] n l e = (refl, refl)
same_refused (c ∷ cs) n l e =
    let s : call l c ≡ Before.call l c = unfold call Before.call in (refused_same n l e (deed c)) in
    let t = same_refused cs n (Before.call l c).lent (ap (λ (d : Done). open_check d.lent.image) (sym s) ∙ ap (λ (m : Lent). open_check m.image) (refused_call l n e c) ∙ e) in
    rw s (t.0, ap (λ (rs : List Reply). (Before.call l c).reply ∷ rs) t.1)

-- ---- in time order

-- the stamps of each finest ring, from its cap on
abbrev Ordered : (ℕ → ℕ) → Lent → List Call → Type 0
Ordered cap l cs = (i : ℕ) → i < row_count l.image → (row l i).tier ≡ 0 → never_fall (cap i) (stamps_of (row l i).schema l cs) ≡ true

module _ (cap : ℕ → ℕ) (l : Lent) (h : Capped cap l) (c : Call) (cs : List Call) (o : Ordered cap l (c ∷ cs)) where
  split : (i : ℕ) → i < row_count l.image → (row l i).tier ≡ 0
      → never_fall (cap i) (stamp_by (row l i).schema l (deed c) ++ stamps_of (row l i).schema (Before.call l c).lent cs) ≡ true
  split i hi e = unfold stamps_of in (o i hi e)

  call_same : call l c ≡ Before.call l c
  unfolding call Before.call
  call_same = done_same cap l h (deed c) (λ i hi e. fall_left (stamp_by (row l i).schema l (deed c)) (stamps_of (row l i).schema (Before.call l c).lent cs) (cap i) (split i hi e))

  rows-kept : SameRows (Before.call l c).lent.image l.image
  rows-kept = subst (λ (d : Done). SameRows d.lent.image l.image) call_same (stays_call l h.good c).image_is

  next_ordered : Ordered (cap_by cap l (deed c)) (Before.call l c).lent cs
  next_ordered i hi e =
      let m = (Before.call l c).lent in
      let b : i < row_count l.image = rw (count_kept m.image l.image rows-kept) at hi in
      let a = rows_alike l m rows-kept i b in
      rw a.schema_is (fall_right (stamp_by (row l i).schema l (deed c)) (stamps_of (row l i).schema m cs) (cap i) (split i b (sym a.tier-is ∙ e)))

  next-capped : goes_on (deed c) (Before.call l c).reply ≡ true → Capped (cap_by cap l (deed c)) (Before.call l c).lent
  next-capped g =
      subst (λ (d : Done). Capped (cap_by cap l (deed c)) d.lent) call_same
      (unfold call in (kept cap l (deed c) h (unfold call in (subst (λ (d : Done). goes_on (deed c) d.reply ≡ true) (sym call_same) g))))

same_from : (cs : List Call) (cap : ℕ → ℕ) (l : Lent) → Capped cap l → Ordered cap l cs → no_run_refused Before.call l cs ≡ true
    → (after l cs ≡ Before.after l cs) × (replies l cs ≡ Before.replies l cs)
unfolding after replies Before.after Before.replies no_run_refused
same_from [] cap l h o r = (refl, refl)
same_from (c ∷ cs) cap l h o r =
    let a = goes_on (deed c) (Before.call l c).reply in
    let b = no_run_refused Before.call (Before.call l c).lent cs in
    let t = same_from cs (cap_by cap l (deed c)) (Before.call l c).lent (next-capped cap l h c cs o (and_left a b r)) (next_ordered cap l h c cs o) (and_right a b r) in
    rw (call_same cap l h c cs o) (t.0, ap (λ (rs : List Reply). (Before.call l c).reply ∷ rs) t.1)

-- one schema's part
order-at : (j k : ℕ) (l : Lent) (cs : List Call) → in_order_from k j l cs ≡ true → (x : ℕ) → k ≤ x → x < k + j → never_fall 0 (stamps_of x l cs) ≡ true
unfolding in_order_from
order-at zero k l cs h x lo hi = absurd (omega arith)
order-at (suc j) k l cs h x lo hi = go (ℕ_discrete k x) (order-at j (suc k) l cs (and_right (never_fall 0 (stamps_of k l cs)) (in_order_from (suc k) j l cs) h) x)
  where
    go : Dec (k ≡ x) → (suc k ≤ x → x < suc k + j → never_fall 0 (stamps_of x l cs) ≡ true) → never_fall 0 (stamps_of x l cs) ≡ true
    go (yes e) later = subst (λ (y : ℕ). never_fall 0 (stamps_of y l cs) ≡ true) e (and_left (never_fall 0 (stamps_of k l cs)) (in_order_from (suc k) j l cs) h)
    go (no e) later = later (omega arith) (omega arith)

all_ordered : (l : Lent) → Good l.image → (cs : List Call) → in_order l cs ≡ true → Ordered (λ i. 0) l cs
unfolding in_order row
all_ordered l g cs h i hi e = order-at (schemas l.image) 0 l cs h (row_at l.image i).schema (omega arith) (omega (arith, g.shape_is.schema_low i hi))

pub proof : AsBefore
unfolding AsBefore
proof plan buf flags ok calls order ended = go (open_check l.image) refl
  where
    l : Lent
    l = creation plan (record { image = buf; flags = flags })

    go : (n : ℕ) → open_check l.image ≡ n → (after l calls ≡ Before.after l calls) × (replies l calls ≡ Before.replies l calls)
    go zero e =
        let h = capped-created plan (record { image = buf; flags = flags }) ok e in
        same_from calls (λ i. 0) l h (all_ordered l h.good calls (is_true (in_order l calls) order)) (is_true (no_run_refused Before.call l calls) ended)
    go (suc n) e = same_refused calls n l e

-- ---- whatever the order

capped-after : (cs : List Call) (cap : ℕ → ℕ) (l : Lent) → Capped cap l → no_run_refused call l cs ≡ true → (some : ℕ → ℕ) × Capped some (after l cs)
unfolding after no_run_refused
capped-after [] cap l h r = (cap, h)
capped-after (c ∷ cs) cap l h r =
    let a = goes_on (deed c) (call l c).reply in
    let b = no_run_refused call (call l c).lent cs in
    capped-after cs (cap_by cap l (deed c)) (call l c).lent (unfold call in (kept cap l (deed c) h (unfold call in (and_left a b r)))) (and_right a b r)

run_refused : (n : ℕ) (l : Lent) → open_check l.image ≡ suc n → (passed_over l ≡ 0) × (run l ≡ Before.run l)
unfolding passed_over passed_on run run_on
run_refused n l e = (rw e, unfold Before.run Before.run_on in (rw e))

pub none_passed-over : NonePassedOver
unfolding NonePassedOver
none_passed-over plan buf flags ok calls ended = go (open_check l.image) refl
  where
    l : Lent
    l = creation plan (record { image = buf; flags = flags })

    go : (n : ℕ) → open_check l.image ≡ n → (passed_over (after l calls) ≡ 0) × (run (after l calls) ≡ Before.run (after l calls))
    go zero e =
        let h = capped-created plan (record { image = buf; flags = flags }) ok e in
        let c = capped-after calls (λ i. 0) l h (is_true (no_run_refused call l calls) ended) in
        let s = run-same c.0 (after l calls) c.1 in
        (s.none, s.as_before)
    go (suc n) e = run_refused n (after l calls) (verdict_after calls l ∙ e)
