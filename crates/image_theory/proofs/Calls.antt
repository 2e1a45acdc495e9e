-- Every call keeps an image in good order, refused or accepted: header and rows stay, but for marks, and so do what lies behind the image and the flags past its
-- rows; at an opening those are the flags that it is handed. A call on an image that does not pass the checks leaves all as it is handed. So the verdict of the
-- checks never changes, whatever the list of calls. Assumes nothing.
use Rattle.std.specs.Prelude.{ℕ, zero, suc, ◌-◌, ◌≡◌, List, [], ◌∷◌}
use Rattle.std.proofs.Common.{sym, ap, ◌∙◌}
use native.Mathlib.Omega.{arith}
use Rattle.std.proofs.Math.Path.{refl}
use Rattle.model.specs.Image.{first, schemas, row_count, open_check}
use Rattle.model.specs.Lent.{Lent, open_on, opening}
use Rattle.model.specs.Record.{record_check, record_on, Entry, batch_check, batch_on}
use Rattle.model.specs.Consolidate.{run_on, run}
use Rattle.model.specs.Store.{Call, Deed, reads, records, records_all, runs, opens, deed, doing, finished, call, after}
use Rattle.image_theory.specs.Recorded.{handle_in, record_zero}
use Rattle.image_theory.specs.Good.{Good, open_good, good_open}
use Rattle.image_theory.specs.Stays.{Stays, stays_same, stays_write, stays_schemas}
use Rattle.image_theory.specs.Pairs.{stays_pairs}
use Rattle.image_theory.specs.Calls.{Leaves, leaves_opening, flags_by, handed}

-- ---- every call

stays_record : (n : ℕ) (l : Lent) → Good l.image → (k c v t : ℕ) → record_check l k c v t ≡ n → Stays l (record_on n l k c v t)
unfolding record_on
stays_record zero l g k c v t e = stays_write l g k (handle_in l k c (record_zero l k c v t e).1).0 (record { column = c; value = v } ∷ []) t
stays_record (suc n) l g k c v t e = stays_same l g

stays_batch : (n : ℕ) (l : Lent) → Good l.image → (es : List Entry) (t : ℕ) → Stays l (batch_on n l es t)
unfolding batch_on
stays_batch zero l g es t = stays_schemas l g 0 (schemas l.image) (omega arith) es t
stays_batch (suc n) l g es t = stays_same l g

stays_run : (n : ℕ) (l : Lent) → Good l.image → Stays l (run_on n l).lent
unfolding run_on
stays_run zero l g = stays_pairs (record { lent = l; count = 0; refusal = 0 }) 0 (row_count l.image - 1) g (omega arith)
stays_run (suc n) l g = stays_same l g

-- ---- what a call leaves of what it is handed

leaves : {l l' : Lent} → Stays l l' → Leaves l l'
leaves h = record { good = h.good; image_is = h.image_is; surplus_is = h.surplus_is; flags_are = λ x. h.flags_are; flags_past = h.flags_past }

abbrev handed_by : Lent → Deed → Lent
handed_by l d = record { image = l.image; flags = flags_by l.flags d }

stays_deed : (l : Lent) → Good l.image → (d : Deed) → Leaves (handed_by l d) (doing l d).lent
unfolding finished run
stays_deed l g (reads reply) = leaves (stays_same l g)
stays_deed l g (records k c v t) = leaves (stays_record (record_check l k c v t) l g k c v t refl)
stays_deed l g (records_all es t) = leaves (stays_batch (batch_check l es t) l g es t)
stays_deed l g runs = leaves (stays_run (open_check l.image) l g)
stays_deed l g (opens fs) = leaves_opening (record { image = l.image; flags = fs }) g

pub stays_call : (l : Lent) → Good l.image → (c : Call) → Leaves (handed l c) (call l c).lent
unfolding call
stays_call l g c = stays_deed l g (deed c)

-- ---- where the checks do not pass, nothing changes

refused_deed : (l : Lent) (n : ℕ) → open_check l.image ≡ suc n → (d : Deed) → (doing l d).lent ≡ handed_by l d
unfolding finished run record_check record_on batch_check batch_on run_on opening open_on first
refused_deed l n h (reads reply) = refl
refused_deed l n h (records k c v t) = rw h
refused_deed l n h (records_all [] t) = rw h
refused_deed l n h (records_all (e ∷ es) t) = rw h
refused_deed l n h runs = rw h
refused_deed l n h (opens fs) = rw h

pub refused_call : (l : Lent) (n : ℕ) → open_check l.image ≡ suc n → (c : Call) → (call l c).lent ≡ handed l c
unfolding call
refused_call l n h c = refused_deed l n h (deed c)

-- the verdict is the same before and after
pub verdict_call : (l : Lent) (c : Call) → open_check (call l c).lent.image ≡ open_check l.image
verdict_call l c = go (open_check l.image) refl
  where
    go : (n : ℕ) → open_check l.image ≡ n → open_check (call l c).lent.image ≡ open_check l.image
    go zero e = open_good (call l c).lent.image (stays_call l (good_open l.image e) c).good ∙ sym e
    go (suc n) e = ap (λ (m : Lent). open_check m.image) (refused_call l n e c)

pub verdict_after : (cs : List Call) (l : Lent) → open_check (after l cs).image ≡ open_check l.image
unfolding after
verdict_after [] l = refl
verdict_after (c ∷ cs) l = verdict_after cs (call l c).lent ∙ verdict_call l c
