-- Every call on a store in which no ring is ahead leaves none ahead, under caps that rise with what it records, but for a run that is refused. And where its
-- stamps are not below the caps it is the call of the rules before: its check gives no 18, and a run passes over nothing. Assumes nothing.
use Prim.Native.Nat.{ℕ, zero, suc, ◌+◌, ◌^◌, ◌≤◌, ◌<◌, max}
use Rattle.std.proofs.Common.{arith, sym, ap, ◌∙◌, subst}
use Rattle.std.specs.Prelude.{◌≡◌, ◌⊎◌, Bool, ◌||◌, leb, eqb}
use Rattle.std.proofs.Math.Path.{refl}
use Rattle.std.proofs.Math.Logic.{inl, inr}
use Rattle.std.proofs.Math.Bool.{true, false, not}
use Rattle.std.proofs.lemmas.Bool.{false≢true}
use mathlib.Core.List.{List, [], ◌∷◌, ◌++◌}
use Rattle.model.specs.Image.{schemas, row_count, unless, first, open_check}
use Rattle.model.specs.Ring.{ColumnValue, is_infinite, write}
use Rattle.model.specs.Lent.{Lent, row, ring, row_no, opening}
use Rattle.model.specs.Record.{Entry, handle_ok, stamp_ok, every_entry, write_to, takes, record_check, record_on, batch_check, keep_entry, entries_of, write_some, write_schemas, batch_on}
use Rattle.model.specs.Consolidate.{run}
use Rattle.model.specs.Store.{Deed, reads, records, records_all, runs, opens, done_or, wrote_or, finished, doing}
use Rattle.reopening.specs.Reopening.{names}
use Rattle.as_before.specs.Before as Before
use Rattle.as_before.specs.AsBefore.{stamp_by, never_fall, is_refused, goes_on}
use Rattle.laws.specs.Tests.{yes_eq, le_is, and_left, and_right}
use Rattle.laws.specs.Checks.{each_zero, unless_zero}
use Rattle.image_theory.specs.Recorded.{handle_in, record_zero, batch_zero, batch_none}
use Rattle.image_theory.specs.Tiers.{tier-row, some_tier}
use Rattle.image_theory.specs.Good.{Good, SameRows, count_kept, schemas-kept}
use Rattle.image_theory.specs.Frame.{length-write, sound-written}
use Rattle.image_theory.specs.Stays.{kept_refl, stays_some}
use Rattle.image_theory.specs.Pairs.{slab_of_lem}
use Rattle.image_theory.specs.Calls.{opened_image, opened_flags}
use Rattle.as_before_proved.specs.Upto.{not_old, upto-write}
use Rattle.as_before_proved.specs.Capped.{Capped, capped_more, rows_alike, moved, put-finest}
use Rattle.as_before_proved.proofs.Run.{run-same}
use Rattle.as_before_proved.specs.Calls.{highest}

-- ---- stamps that never fall

highest_up : (ts : List ℕ) (c : ℕ) → c ≤ highest c ts
highest_up [] c = omega arith
highest_up (t ∷ ts) c = omega (arith, highest_up ts (max c t))

fall_one : (c t : ℕ) → never_fall c (t ∷ []) ≡ true → c ≤ t
unfolding never_fall
fall_one c t h = le_is c t (and_left (leb c t) true h)

pub fall_left : (ts us : List ℕ) (c : ℕ) → never_fall c (ts ++ us) ≡ true → never_fall c ts ≡ true
unfolding never_fall
fall_left [] us c h = refl
fall_left (t ∷ ts) us c h =
    let a = leb c t in
    let b = never_fall t (ts ++ us) in
    rw (and_left a b h, fall_left ts us t (and_right a b h))

pub fall_right : (ts us : List ℕ) (c : ℕ) → never_fall c (ts ++ us) ≡ true → never_fall (highest c ts) us ≡ true
unfolding never_fall
fall_right [] us c h = h
fall_right (t ∷ ts) us c h =
    let a = leb c t in
    let b = never_fall t (ts ++ us) in
    let e : max c t ≡ t = omega (arith, le_is c t (and_left a b h)) in
    rw e (fall_right ts us t (and_right a b h))

-- ---- a check with 18 as its last test

-- it says the same where that test passes or an earlier one has failed
check_same : (ns : List ℕ) (b : Bool) → (first ns ≡ 0 → b ≡ true) → first (ns ++ unless b 18 ∷ []) ≡ first ns
unfolding first unless
check_same [] b h = rw (h refl)
check_same (zero ∷ ns) b h = check_same ns b h
check_same (suc n ∷ ns) b h = refl

check_less : (ns : List ℕ) (n : ℕ) → first (ns ++ n ∷ []) ≡ 0 → first ns ≡ 0
unfolding first
check_less [] n h = refl
check_less (zero ∷ ns) n h = check_less ns n h
check_less (suc x ∷ ns) n h = h

record_was : (l : Lent) (k c v t : ℕ) → record_check l k c v t ≡ 0 → Before.record_check l k c v t ≡ 0
unfolding record_check Before.record_check
record_was l k c v t h =
    check_less (open_check l.image ∷ unless (handle_ok l k c) 11 ∷ unless (not (is_infinite v)) 12 ∷ unless (stamp_ok t) 13 ∷ []) (unless (takes l k t) 18) h

batch_was : (l : Lent) (es : List Entry) (t : ℕ) → batch_check l es t ≡ 0 → Before.batch_check l es t ≡ 0
unfolding batch_check Before.batch_check
batch_was l [] t h = h
batch_was l (e ∷ es) t h =
    check_less (
    open_check l.image ∷ unless (every_entry (λ x. handle_ok l x.schema x.column) (e ∷ es)) 11 ∷ unless (stamp_ok t) 13
    ∷ unless (every_entry (λ x. not (is_infinite x.value)) (e ∷ es)) 12 ∷ []) (unless (every_entry (λ x. takes l x.schema t) (e ∷ es)) 18) h

-- ---- the row of a schema's finest ring

module _ (l : Lent) (g : Good l.image) (k : ℕ) (hk : k < schemas l.image) where
  finest-row : (row_no l k 0 < row_count l.image) × ((row l (row_no l k 0)).schema ≡ k) × ((row l (row_no l k 0)).tier ≡ 0)
  unfolding row_no row
  finest-row =
      let t = tier-row l.image g.shape_is k 0 (some_tier l.image g.shape_is g.layout_is k hk) in
      (t.there, t.schema_is, t.tier-is)

-- ---- record and record_batch leave no ring ahead

module _ (cap : ℕ → ℕ) (t : ℕ) (low : t < 2 ^ 63) where
  written : (l : Lent) → Capped cap l → (k : ℕ) → k < schemas l.image → t ≤ cap (row_no l k 0) → (es : List ColumnValue) → Capped cap (write_to l k es t)
  unfolding write_to
  written l h k hk up es =
      let i = row_no l k 0 in
      let f = finest-row l h.good k hk in
      put-finest cap l h i (write (ring l i) es t) f.0 f.2 (length-write l i es t h.good f.0) (sound-written l i es t h.good f.0)
      (upto-write (ring l i) es t (cap i) (slab_of_lem l h.good i f.0) low up (h.finest i f.0 f.2))

  -- the cap of every ring that has entries is t or more
  abbrev Room : Lent → List Entry → Type 0
  Room l es = (i : ℕ) → i < row_count l.image → (row l i).tier ≡ 0 → names (row l i).schema es ≡ true → t ≤ cap i

  room_kept : (l m : Lent) (es : List Entry) → SameRows m.image l.image → Room l es → Room m es
  room_kept l m es s room i hi e n =
      let b : i < row_count l.image = rw (count_kept m.image l.image s) at hi in
      let a = rows_alike l m s i b in
      room i b (sym a.tier-is ∙ e) (subst (λ (k : ℕ). names k es ≡ true) a.schema_is n)

  named : (k : ℕ) (es : List Entry) → (entries_of k es ≡ []) ⊎ (names k es ≡ true)
  unfolding entries_of names
  named k [] = inl refl
  named k (e ∷ es) = go (eqb e.schema k) (named k es)
    where
      go : (b : Bool) → (entries_of k es ≡ []) ⊎ (names k es ≡ true) → (keep_entry b e (entries_of k es) ≡ []) ⊎ ((b || names k es) ≡ true)
      go true x = inr refl
      go false x = unfold keep_entry in x

  some : (l : Lent) → Capped cap l → (k : ℕ) → k < schemas l.image → (es : List Entry) → Room l es → Capped cap (write_some l k (entries_of k es) t)
  some l h k hk es room = go (named k es)
    where
      any : (xs : List ColumnValue) → t ≤ cap (row_no l k 0) → Capped cap (write_some l k xs t)
      any [] up = unfold write_some in h
      any (x ∷ xs) up = unfold write_some in (written l h k hk up (x ∷ xs))

      go : (entries_of k es ≡ []) ⊎ (names k es ≡ true) → Capped cap (write_some l k (entries_of k es) t)
      go (inl e) = rw e (unfold write_some in h)
      go (inr e) =
          let f = finest-row l h.good k hk in
          any (entries_of k es) (room (row_no l k 0) f.0 f.2 (subst (λ (x : ℕ). names x es ≡ true) (sym f.1) e))

  by_schema : (es : List Entry) (j k : ℕ) (l : Lent) → Capped cap l → k + j ≤ schemas l.image → Room l es → Capped cap (write_schemas l k j es t)
  unfolding write_schemas
  by_schema es zero k l h b room = h
  by_schema es (suc j) k l h b room =
      let m = write_some l k (entries_of k es) t in
      let s = stays_some l h.good k (omega arith) (entries_of k es) t in
      by_schema es j (suc k) m (some l h k (omega arith) es room) (rw (schemas-kept m.image l.image s.image_is) (omega arith)) (room_kept l m es s.image_is room)

-- ---- any call

-- the caps after it
abbrev pub cap_by : (ℕ → ℕ) → Lent → Deed → ℕ → ℕ
cap_by cap l d i = highest (cap i) (stamp_by (row l i).schema l d)

pub raised : (cap : ℕ → ℕ) (l : Lent) (d : Deed) → Capped cap l → Capped (cap_by cap l d) l
raised cap l d h = capped_more cap (cap_by cap l d) l (λ i. highest_up (stamp_by (row l i).schema l d) (cap i)) h

-- what is accepted was accepted before, so its stamp is under the cap
recorded : (n : ℕ) (cap : ℕ → ℕ) (l : Lent) (k c v t : ℕ) → record_check l k c v t ≡ n → Capped cap l → Capped (cap_by cap l (records k c v t)) (record_on n l k c v t)
unfolding record_on
recorded zero cap l k c v t e h =
    let z = record_zero l k c v t e in
    let hk = (handle_in l k c z.1).0 in
    written (cap_by cap l (records k c v t)) t z.2 l (raised cap l (records k c v t) h) k hk (up (finest-row l h.good k hk).1) (record { column = c; value = v } ∷ [])
  where
    up : (row l (row_no l k 0)).schema ≡ k → t ≤ cap_by cap l (records k c v t) (row_no l k 0)
    up s = rw (s, record_was l k c v t e, yes_eq k) (omega arith)
recorded (suc n) cap l k c v t e h = raised cap l (records k c v t) h

batched : (n : ℕ) (cap : ℕ → ℕ) (l : Lent) (es : List Entry) (t : ℕ) → batch_check l es t ≡ n → Capped cap l → Capped (cap_by cap l (records_all es t)) (batch_on n l es t)
unfolding batch_on
batched zero cap l [] t e h = rw (batch_none l 0 (schemas l.image) t) (raised cap l (records_all [] t) h)
batched zero cap l (x ∷ es) t e h =
    by_schema (cap_by cap l (records_all (x ∷ es) t)) t (batch_zero l x es t e).2 (x ∷ es) (schemas l.image) 0 l (raised cap l (records_all (x ∷ es) t) h) (omega arith) room
  where
    room : Room (cap_by cap l (records_all (x ∷ es) t)) t (batch_zero l x es t e).2 l (x ∷ es)
    room i hi f n = rw (batch_was l (x ∷ es) t e, n) (omega arith)
batched (suc n) cap l es t e h = raised cap l (records_all es t) h

-- an opening changes no byte
again : (l : Lent) (fs : List Bool) (i : ℕ)
    → (row (opening (record { image = l.image; flags = fs })) i ≡ row l i) × ((ring (opening (record { image = l.image; flags = fs })) i).slab ≡ (ring l i).slab)
unfolding ring row
again l fs i = let e = opened_image (record { image = l.image; flags = fs }) in (rw e, rw e)

opened : (cap : ℕ → ℕ) (l : Lent) (fs : List Bool) → Capped cap l → Capped cap (opening (record { image = l.image; flags = fs }))
opened cap l fs h =
    let o : Lent = record { image = l.image; flags = fs } in
    let e = opened_image o in
    moved cap l (opening o) (rw e h.good) (rw e (kept_refl l.image)) (opened_flags o h.good) (λ i hi f. rw (again l fs i).1 (h.finest i hi f))
    (λ i hi f. rw ((again l fs i).0, (again l fs (suc i)).1) (h.coarser i hi f))

not_refused : (n k : ℕ) → not (is_refused (wrote_or n k)) ≡ true → n ≡ 0
unfolding is_refused wrote_or
not_refused zero k h = refl
not_refused (suc n) k h = absurd (false≢true h)

pub kept : (cap : ℕ → ℕ) (l : Lent) (d : Deed) → Capped cap l → goes_on d (doing l d).reply ≡ true → Capped (cap_by cap l d) (doing l d).lent
unfolding finished
kept cap l (reads reply) h e = h
kept cap l (records k c v t) h e = recorded (record_check l k c v t) cap l k c v t refl h
kept cap l (records_all es t) h e = batched (batch_check l es t) cap l es t refl h
kept cap l runs h e = (run-same cap l h).capped (not_refused (run l).refusal (run l).count e)
kept cap l (opens fs) h e = opened cap l fs h

-- ---- the same call by the rules before

-- the stamps that it records are not below the caps
abbrev pub Fits : (ℕ → ℕ) → Lent → Deed → Type 0
Fits cap l d = (i : ℕ) → i < row_count l.image → (row l i).tier ≡ 0 → never_fall (cap i) (stamp_by (row l i).schema l d) ≡ true

module _ (cap : ℕ → ℕ) (l : Lent) (h : Capped cap l) (d : Deed) (fits : Fits cap l d) where
  -- so the ring that it is for takes its stamp
  taken : (k t : ℕ) → k < schemas l.image → stamp_by k l d ≡ t ∷ [] → takes l k t ≡ true
  unfolding takes
  taken k t hk e =
      let i = row_no l k 0 in
      let f = finest-row l h.good k hk in
      let up = fall_one (cap i) t (subst (λ (ts : List ℕ). never_fall (cap i) ts ≡ true) (ap (λ (x : ℕ). stamp_by x l d) f.1 ∙ e) (fits i f.0 f.2)) in
      rw (not_old (ring l i).slab (cap i) t (slab_of_lem l h.good i f.0) (h.finest i f.0 f.2) up)

-- 18 for a record, and for any entry of a batch
record_same : (cap : ℕ → ℕ) (l : Lent) → Capped cap l → (k c v t : ℕ) → Fits cap l (records k c v t) → record_check l k c v t ≡ Before.record_check l k c v t
unfolding record_check
record_same cap l h k c v t fits = unfold Before.record_check in (check_same tests (takes l k t) (λ e. takes_it e))
  where
    tests : List ℕ
    tests = open_check l.image ∷ unless (handle_ok l k c) 11 ∷ unless (not (is_infinite v)) 12 ∷ unless (stamp_ok t) 13 ∷ []

    takes_it : first tests ≡ 0 → takes l k t ≡ true
    takes_it e =
        let was : Before.record_check l k c v t ≡ 0 = unfold Before.record_check in e in
        taken cap l h (records k c v t) fits k t (handle_in l k c (unless_zero _ (each_zero tests e 1))).0 (rw (was, yes_eq k))

every-taken : (l : Lent) (t : ℕ) (es : List Entry) → every_entry (λ x. handle_ok l x.schema x.column) es ≡ true
    → ((k : ℕ) → k < schemas l.image → names k es ≡ true → takes l k t ≡ true) → every_entry (λ x. takes l x.schema t) es ≡ true
unfolding every_entry names
every-taken l t [] e f = refl
every-taken l t (x ∷ es) e f =
    let a = handle_ok l x.schema x.column in
    let b = every_entry (λ y. handle_ok l y.schema y.column) es in
    rw (
      f x.schema (handle_in l x.schema x.column (and_left a b e)).0 (rw (yes_eq x.schema)),
      every-taken l t es (and_right a b e) (λ k hk n. f k hk (later (eqb x.schema k) n)),
    )
  where
    later : (c : Bool) {d : Bool} → d ≡ true → (c || d) ≡ true
    later true n = refl
    later false n = n

batch_same : (cap : ℕ → ℕ) (l : Lent) → Capped cap l → (es : List Entry) (t : ℕ) → Fits cap l (records_all es t) → batch_check l es t ≡ Before.batch_check l es t
unfolding batch_check
batch_same cap l h [] t fits = unfold Before.batch_check in refl
batch_same cap l h (x ∷ es) t fits = unfold Before.batch_check in (check_same tests (every_entry (λ y. takes l y.schema t) (x ∷ es)) (λ e. takes_all e))
  where
    tests : List ℕ
    tests =
        open_check l.image ∷ unless (every_entry (λ y. handle_ok l y.schema y.column) (x ∷ es)) 11 ∷ unless (stamp_ok t) 13
        ∷ unless (every_entry (λ y. not (is_infinite y.value)) (x ∷ es)) 12 ∷ []

    takes_all : first tests ≡ 0 → every_entry (λ y. takes l y.schema t) (x ∷ es) ≡ true
    takes_all e =
        let was : Before.batch_check l (x ∷ es) t ≡ 0 = unfold Before.batch_check in e in
        every-taken l t (x ∷ es) (unless_zero _ (each_zero tests e 1)) (λ k hk n. taken cap l h (records_all (x ∷ es) t) fits k t hk (rw (was, n)))

pub done_same : (cap : ℕ → ℕ) (l : Lent) → Capped cap l → (d : Deed) → Fits cap l d → doing l d ≡ Before.doing l d
done_same cap l h (reads reply) fits = refl
done_same cap l h (records k c v t) fits = ap (λ (n : ℕ). record { reply = done_or n; lent = record_on n l k c v t }) (record_same cap l h k c v t fits)
done_same cap l h (records_all es t) fits = ap (λ (n : ℕ). record { reply = done_or n; lent = batch_on n l es t }) (batch_same cap l h es t fits)
done_same cap l h runs fits = ap finished (run-same cap l h).as_before
done_same cap l h (opens fs) fits = refl
