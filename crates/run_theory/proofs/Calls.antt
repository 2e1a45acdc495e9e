-- A list of calls, refused ones, queries and openings among them: from a store that holds the samples so far to one that holds theirs too. Accepted recordings
-- write to the finest ring, runs are not refused, an opening keeps what the store holds, everything else leaves the store as it is. It is the induction over the
-- calls, for any set-up. Assumes nothing.
use Prim.Native.Nat.{ℕ, zero, suc, ◌^◌, ◌<◌}
use Rattle.std.proofs.Common.{arith, sym, ap, ◌∙◌}
use Rattle.std.specs.Prelude.{◌≡◌, true}
use Rattle.std.proofs.Math.Path.{refl}
use mathlib.Core.List.{List, [], ◌∷◌, ◌++◌, append_assoc, append-nil, map, map-map}
use Rattle.std.proofs.Math.Dec.{ltb}
use Rattle.model.specs.Image.{row_count, schemas}
use Rattle.model.specs.Ring.{ColumnValue}
use Rattle.model.specs.Lent.{Lent, row, tiers, row_no}
use Rattle.model.specs.Record.{Entry, series_of, handle_ok, write_to, record_check, record_on, every_entry, batch_check, keep_entry, entries_of, write_some, write_schemas, batch_on}
use Rattle.model.specs.Store.{Call, Deed, reads, records, records_all, runs, opens, deed, doing, finished, call, after}
use Rattle.demand.specs.Demand.{Sample, Event, took, if_accepted, events_by, events_of, events, samples_in, last_of, scheduled}
use Rattle.laws.specs.Tests.{and_left, and_right, lt-is}
use Rattle.image_theory.specs.Recorded.{record_zero, batch_zero}
use Rattle.image_theory.specs.Tiers.{row_no-one, series-one}
use Rattle.sample_theory.specs.Lists.{samples-append, samples_took}
use Rattle.sample_theory.specs.Batch.{AllAt}
use Rattle.sample_theory.specs.Schedule.{last_stamp}
use Rattle.run_theory.specs.Setup.{Setup, interval_of, first_no, Base, row_in, series_fixed}
use Rattle.run_theory.specs.Between.{Fits, Between, Next}
use Rattle.run_theory.proofs.Between.{between_again}
use Rattle.run_theory.specs.Written.{value_of, AllIn, written}
use Rattle.run_theory.proofs.AtRun.{ran-here}

-- ---- the one schema

module _ {S : Setup} {l : Lent} (b : Base S l) where
  some_rows : 0 < row_count l.image
  some_rows = row_in b 0 S.some

  pub row_no-is : (j : ℕ) → row_no l 0 j ≡ j
  row_no-is = row_no-one l b.good.shape_is b.one_schema some_rows

  pub series_are : series_of (tiers l 0) ≡ S.columns
  series_are = series-one l b.good.shape_is b.one_schema 0 some_rows ∙ unfold row in (series_fixed b 0 S.some)

  handle : (k c : ℕ) → handle_ok l k c ≡ true → (k ≡ 0) × (c < S.columns)
  unfolding handle_ok
  handle k c h =
      let x = ltb k (schemas l.image) in
      let y = ltb c (series_of (tiers l k)) in
      let z : k ≡ 0 = omega (arith, b.one_schema, lt-is k (schemas l.image) (and_left x y h)) in
      (z, rw (z, series_are) at (lt-is c (series_of (tiers l k)) (and_right x y h)))

-- ---- a recording, by its check's number

-- l' is what the accepted recording of these samples makes of l: nothing new without a sample, else a write to the finest ring
abbrev Stored : Setup → Lent → ℕ → Lent → List Sample → Type 0
Stored S l t l' [] = l' ≡ l
Stored S l t l' (y ∷ ts) = (l' ≡ write_to l 0 (map value_of (y ∷ ts)) t) × (t < 2 ^ 63) × AllAt t (y ∷ ts) × AllIn S.columns (y ∷ ts)

module _ {S : Setup} {l : Lent} {ys : List Sample} (more : List Event) {e g : ℕ} (lv : Between S l ys e g) where
  abbrev OnSchedule : List Event → Type 0
  OnSchedule es = scheduled S.coarsest (last_of ys) (last_stamp (interval_of S 0) (first_no S 0) g) (es ++ more) ≡ true

  -- nothing happened
  idle : OnSchedule [] → Next S l (ys ++ samples_in []) more
  unfolding samples_in
  idle sch = rw (append-nil ys) (record { e = e; f = g; store = lv; on_schedule = sch })

  stored : (l' : Lent) (t : ℕ) (xs : List Sample) → Stored S l t l' xs → Fits S (ys ++ samples_in (map took xs ++ more)) → OnSchedule (map took xs)
      → Next S l' (ys ++ samples_in (map took xs)) more
  unfolding write_to
  stored l' t [] w f sch = rw w (idle sch)
  stored l' t (y ∷ ts) w f sch =
      rw (w.0, row_no-is lv.base 0, samples_took (y ∷ ts))
      (written lv y ts (samples_in more) (rw (samples-append (map took (y ∷ ts)) more, samples_took (y ∷ ts)) at f) t w.2 w.1 w.3 more sch)

  -- g leaves what the check's number says
  recorded : (n : ℕ) (g : ℕ → Lent) (t : ℕ) (xs : List Sample) → ((i : ℕ) → g (suc i) ≡ l) → (n ≡ 0 → Stored S l t (g 0) xs)
      → Fits S (ys ++ samples_in (if_accepted n (map took xs) ++ more)) → OnSchedule (if_accepted n (map took xs))
      → Next S (g n) (ys ++ samples_in (if_accepted n (map took xs))) more
  unfolding if_accepted
  recorded zero g t xs same new f sch = stored (g 0) t xs (new refl) f sch
  recorded (suc n) g t xs same new f sch = rw (same n) (idle sch)

abbrev sample_of : ℕ → Entry → Sample
sample_of t x = record { column = x.column; stamp = t; value = x.value }

-- ---- record

module _ {S : Setup} {l : Lent} (base : Base S l) where
  record_stores : (k c v t : ℕ) → record_check l k c v t ≡ 0 → Stored S l t (record_on 0 l k c v t) (record { column = c; stamp = t; value = v } ∷ [])
  unfolding record_on
  record_stores k c v t h =
      let z = record_zero l k c v t h in
      let o = handle base k c z.1 in
      (ap (λ (i : ℕ). write_to l i (record { column = c; value = v } ∷ []) t) o.0, z.2, (refl, tt), (o.1, tt))

  -- ---- record_batch

  all-at : (t : ℕ) (xs : List Entry) → AllAt t (map (sample_of t) xs)
  all-at t [] = tt
  all-at t (x ∷ xs) = (refl, all-at t xs)

  -- good handles: all entries are of the one schema, and of its columns
  entries_in : (t : ℕ) (xs : List Entry) → every_entry (λ x. handle_ok l x.schema x.column) xs ≡ true
      → (entries_of 0 xs ≡ map value_of (map (sample_of t) xs)) × AllIn S.columns (map (sample_of t) xs)
  unfolding every_entry entries_of keep_entry
  entries_in t [] h = (refl, tt)
  entries_in t (x ∷ xs) h =
      let a = handle_ok l x.schema x.column in
      let z = every_entry (λ x. handle_ok l x.schema x.column) xs in
      let o = handle base x.schema x.column (and_left a z h) in
      let r = entries_in t xs (and_right a z h) in
      (rw o.0 (ap (λ (l : List ColumnValue). record { column = x.column; value = x.value } ∷ l) r.0), (o.1, r.1))

  batch_stores : (xs : List Entry) (t : ℕ) → batch_check l xs t ≡ 0 → Stored S l t (batch_on 0 l xs t) (map (sample_of t) xs)
  unfolding batch_on write_schemas write_some
  batch_stores [] t h = rw base.one_schema (unfold entries_of in refl)
  batch_stores (x ∷ xs) t h =
      let z = batch_zero l x xs t h in
      let i = entries_in t (x ∷ xs) z.1 in
      (rw (base.one_schema, i.0) refl, z.2, all-at t (x ∷ xs), i.1)

-- ---- any call

one-deed : {S : Setup} {l : Lent} {ys : List Sample} (more : List Event) {e g : ℕ} → Between S l ys e g → (d : Deed)
    → Fits S (ys ++ samples_in (events_by l d ++ more))
    → scheduled S.coarsest (last_of ys) (last_stamp (interval_of S 0) (first_no S 0) g) (events_by l d ++ more) ≡ true → Next S (doing l d).lent (ys ++ samples_in (events_by l d)) more
one-deed more lv (reads reply) f sch = idle more lv sch
one-deed {l = l} more lv (records k c v t) f sch =
    recorded more lv (record_check l k c v t) (λ n. record_on n l k c v t) t (record { column = c; stamp = t; value = v } ∷ [])
    (λ i. unfold record_on in refl) (record_stores lv.base k c v t) f sch
one-deed {l = l} more lv (records_all xs t) f sch =
    let e = map-map took (sample_of t) xs in
    rw (← e)
    (recorded more lv (batch_check l xs t) (λ n. batch_on n l xs t) t (map (sample_of t) xs) (λ i. unfold batch_on in refl)
    (batch_stores lv.base xs t) (rw (← e) at f) (rw (← e) at sch))
one-deed {ys = ys} more lv runs f sch =
    unfold finished samples_in in (
    rw (append-nil ys) (let r = ran-here more lv f sch in record { e = r.e; f = r.e; store = r.store; on_schedule = r.on_schedule }))
one-deed more lv (opens fs) f sch = idle more (between_again lv fs) sch

one-call : {S : Setup} {l : Lent} {ys : List Sample} (more : List Event) {e g : ℕ} → Between S l ys e g → (c : Call)
    → Fits S (ys ++ samples_in (events_of l c ++ more))
    → scheduled S.coarsest (last_of ys) (last_stamp (interval_of S 0) (first_no S 0) g) (events_of l c ++ more) ≡ true → Next S (call l c).lent (ys ++ samples_in (events_of l c)) more
unfolding call events_of
one-call more lv c f sch = one-deed more lv (deed c) f sch

-- ---- a list of calls

-- one list, then another
pub events-append : (cs : List Call) (l : Lent) (ds : List Call) → events l (cs ++ ds) ≡ events l cs ++ events (after l cs) ds
unfolding events after
events-append [] l ds = refl
events-append (c ∷ cs) l ds =
    ap (λ (es : List Event). events_of l c ++ es) (events-append cs (call l c).lent ds)
    ∙ sym (append_assoc (events_of l c) (events (call l c).lent cs) (events (after (call l c).lent cs) ds))

-- what a list with these events makes of a store that holds ys
abbrev Leads : Setup → Lent → List Sample → List Event → Lent → List Event → Type 0
Leads S l ys es l' rest = Next S l ys (es ++ rest) → Fits S (ys ++ samples_in (es ++ rest)) → Next S l' (ys ++ samples_in es) rest

-- one call, then those that follow it with the events es
then : {S : Setup} {l : Lent} {ys : List Sample} (rest : List Event) (c : Call) (es : List Event) (l' : Lent)
    → Leads S (call l c).lent (ys ++ samples_in (events_of l c)) es l' rest → Leads S l ys (events_of l c ++ es) l' rest
then {S} {l} {ys} rest c es l' go n f =
    let e = append_assoc (events_of l c) es rest in
    let g : Fits S (ys ++ samples_in (events_of l c ++ (es ++ rest))) = rw e at f in
    rw (samples-append (events_of l c) es, ← append_assoc ys (samples_in (events_of l c)) (samples_in es))
    (go (one-call (es ++ rest) n.store c g (rw e at n.on_schedule))
    (rw (append_assoc ys (samples_in (events_of l c)) (samples_in (es ++ rest)), ← samples-append (events_of l c) (es ++ rest)) g))

pub calls : (cs : List Call) {S : Setup} {l : Lent} {ys : List Sample} (rest : List Event) → Leads S l ys (events l cs) (after l cs) rest
unfolding events after
calls [] rest = λ n f. idle rest n.store n.on_schedule
calls (c ∷ cs) {l = l} rest = then rest c (events (call l c).lent cs) (after (call l c).lent cs) (calls cs rest)
