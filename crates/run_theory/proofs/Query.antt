-- The query after a run. Calls without events leave every tier with what it holds, and but for openings they leave the store as it is; the query of a used column
-- over all time is not refused, and its reader hands out the newest numbers that the tier's ring holds, ascending, each with its value. Assumes nothing.
use Rattle.std.specs.Prelude.{ℕ, zero, suc, ◌+◌, ◌-◌, ◌*◌, ◌/◌, ◌^◌, ◌≤◌, ◌<◌, ◌≡◌, refl, true, length}
use Rattle.std.proofs.Math.Nat.{mul-le-mul_right}
use Rattle.std.proofs.Common.{mul-pos, arith, sym, ap, ◌∙◌, subst}
use mathlib.Core.List.{List, [], ◌∷◌, ◌++◌, map}
use Rattle.model.specs.Image.{schemas, first, unless}
use Rattle.model.specs.Lent.{Lent}
use Rattle.model.specs.Record.{Entry, handle_ok, record_check, record_on, batch_check, batch_on}
use Rattle.model.specs.Query.{query_check, answered, query_on, query}
use Rattle.model.specs.Store.{Call, query_call, read_or, Deed, reads, records, records_all, runs, opens, deed, doing, call, after}
use Rattle.demand.specs.Demand.{Event, took, ran, if_accepted, events_by, events_of, events, handed_out}
use Rattle.laws.specs.Tests.{yes_lt}
use Rattle.ring_theory.specs.Hold.{first_held}
use Rattle.ring_theory.specs.Read.{pts}
use Rattle.ring_theory.proofs.Read.{all-points}
use Rattle.image_theory.specs.Recorded.{batch_none}
use Rattle.image_theory.specs.Good.{open_good}
use Rattle.image_theory.specs.Tiers.{length-one}
use Rattle.sample_theory.specs.Schedule.{touched}
use Rattle.run_theory.specs.Setup.{Setup, tier_count, interval_of, slots_of, first_no, Tier, newest-low, base_again, mark_again}
use Rattle.run_theory.proofs.Setup.{tier-again}
use Rattle.run_theory.specs.Run.{Settled}
use Rattle.run_theory.proofs.Calls.{row_no-is, series_are}

-- ---- calls without events

not_nil : {A : Type 0} (x : A) (xs : List A) → x ∷ xs ≡ [] → ⊥
not_nil x xs h = let z : suc (length xs) ≡ 0 = ap length h in omega arith

nil_both : {A : Type 0} (xs ys : List A) → xs ++ ys ≡ [] → (xs ≡ []) × (ys ≡ [])
nil_both [] ys h = (refl, h)
nil_both (x ∷ xs) ys h = absurd (not_nil x (xs ++ ys) h)

idle_record : (l : Lent) (n k c v t : ℕ) (x : Event) → if_accepted n (x ∷ []) ≡ [] → record_on n l k c v t ≡ l
unfolding if_accepted record_on
idle_record l zero k c v t x h = absurd (not_nil x [] h)
idle_record l (suc n) k c v t x h = refl

idle_batch : (l : Lent) (n : ℕ) (f : Entry → Event) (xs : List Entry) (t : ℕ) → if_accepted n (map f xs) ≡ [] → batch_on n l xs t ≡ l
unfolding if_accepted batch_on
idle_batch l zero f [] t h = batch_none l 0 (schemas l.image) t
idle_batch l zero f (x ∷ xs) t h = absurd (not_nil (f x) (map f xs) h)
idle_batch l (suc n) f xs t h = refl

-- what was settled stays settled: an opening works the flags out anew, every other such call leaves the store as it is
module _ {S : Setup} {e : ℕ} where
  same : {l m : Lent} → m ≡ l → Settled S l e → Settled S m e
  same h st = subst (λ (m : Lent). Settled S m e) (sym h) st

  settled_deed : (l : Lent) (d : Deed) → events_by l d ≡ [] → Settled S l e → Settled S (doing l d).lent e
  settled_deed l (reads reply) h st = st
  settled_deed l (records k c v t) h st = same (idle_record l (record_check l k c v t) k c v t (took (record { column = c; stamp = t; value = v })) h) st
  settled_deed l (records_all xs t) h st = same (idle_batch l (batch_check l xs t) (λ x. took (record { column = x.column; stamp = t; value = x.value })) xs t h) st
  settled_deed l runs h st = absurd (not_nil ran [] h)
  settled_deed l (opens fs) h st = record {
    base = base_again st.base fs;
    tiers = λ j x. tier-again st.base fs j e x (st.tiers j x);
    marks = λ j x. mark_again st.base fs j ∙ st.marks j x;
  }

  settled_call : (l : Lent) (c : Call) → events_of l c ≡ [] → Settled S l e → Settled S (call l c).lent e
  unfolding events_of call
  settled_call l c h st = settled_deed l (deed c) h st

  pub settled_calls : (cs : List Call) (l : Lent) → events l cs ≡ [] → Settled S l e → Settled S (after l cs) e
  unfolding events after
  settled_calls [] l h st = st
  settled_calls (c ∷ cs) l h st =
      let n = nil_both (events_of l c) (events (call l c).lent cs) h in
      settled_calls cs (call l c).lent n.1 (settled_call l c n.0 st)

-- ---- the query

module _ {S : Setup} {l : Lent} {x : ℕ} (st : Settled S l (suc x)) (top : suc x ≤ S.most) (c k : ℕ) (hc : c < S.columns) (hu : S.is_used c ≡ true) (hk : k < tier_count S) where
  check : query_check l 0 c k 0 (2 ^ 64 - 1) ≡ 0
  unfolding query_check first unless handle_ok
  check =
      let b = st.base in
      rw (
        open_good l.image b.good,
        b.one_schema,
        series_are b,
        yes_lt c S.columns hc,
        length-one l b.good.shape_is b.one_schema,
        b.like.count-is,
        yes_lt k (tier_count S) hk,
      )

  tier : Tier S l k (suc x)
  tier = st.tiers k hk

  -- stamps are below the end of all time
  stamp-low : (q : ℕ) → q < first_no S k + touched (S.long k) (suc x) → q * interval_of S k < 2 ^ 64 - 1
  unfolding touched
  stamp-low q h =
      let b : q * interval_of S k ≤ (first_no S k + x / S.long k) * interval_of S k = mul-le-mul_right (interval_of S k) (omega arith) in
      omega (arith, newest-low S k x hk (omega arith))

  -- what the reader hands out
  pub answer_is : handed_out (call l (query_call 0 c k 0 (2 ^ 64 - 1))).reply
      ≡ pts (S.value (suc x) k c) (interval_of S k) (first_held (slots_of S k) (first_no S k) (touched (S.long k) (suc x)))
      (first_no S k + touched (S.long k) (suc x) - first_held (slots_of S k) (first_no S k) (touched (S.long k) (suc x)))
  unfolding call read_or query query_on answered handed_out
  answer_is =
      rw (check, row_no-is st.base k)
      (all-points tier.state (mul-pos S.later (S.some_per k hk)) c (S.value (suc x) k c) (2 ^ 64 - 1) hc (rw hu at (tier.cols c hc))
      (λ q y z. S.number (suc x) k c q top hk hc hu y z) stamp-low)
