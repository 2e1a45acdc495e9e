-- An accepted recording's stamp is not 0 and below 2^63, and the image passes the checks. So in any list of calls every sample's stamp is, and there is a sample
-- only where the store's image passes the checks. Assumes nothing.
use Rattle.std.specs.Prelude.{ℕ, zero, suc, ◌^◌, ◌<◌, ◌≡◌, refl, List, [], ◌∷◌, ◌++◌, map}
use Rattle.std.proofs.Common.{arith, lit<}
use Rattle.model.specs.Image.{open_check}
use Rattle.model.specs.Lent.{Lent}
use Rattle.model.specs.Record.{Entry, record_check, batch_check}
use Rattle.model.specs.Store.{Call, Deed, reads, records, records_all, runs, opens, deed, call}
use Rattle.demand.specs.Demand.{Sample, took, if_accepted, events_by, events_of, events, samples_in, first_of, last_of}
use Rattle.image_theory.specs.Recorded.{record_zero, batch_zero}
use Rattle.image_theory.proofs.Calls.{verdict_call}
use Rattle.sample_theory.specs.Lists.{samples-append}

-- ---- the samples of a list of calls

-- n is the verdict of the image's checks
abbrev pub Accepted : ℕ → List Sample → Type 0
Accepted n [] = Unit {0}
Accepted n (x ∷ xs) = (0 < x.stamp) × (x.stamp < 2 ^ 63) × (n ≡ 0) × Accepted n xs

accepted_append : (n : ℕ) (xs ys : List Sample) → Accepted n xs → Accepted n ys → Accepted n (xs ++ ys)
accepted_append n [] ys h g = g
accepted_append n (x ∷ xs) ys h g = (h.0, h.1, h.2, accepted_append n xs ys h.3 g)

accepted_record : (m n : ℕ) (x : Sample) → (n ≡ 0 → (0 < x.stamp) × (x.stamp < 2 ^ 63) × (m ≡ 0)) → Accepted m (samples_in (if_accepted n (took x ∷ [])))
unfolding if_accepted samples_in
accepted_record m zero x h = let z = h refl in (z.0, z.1, z.2, tt)
accepted_record m (suc n) x h = tt

accepted_batch : (m n t : ℕ) (xs : List Entry) → (n ≡ 0 → (0 < t) × (t < 2 ^ 63) × (m ≡ 0))
    → Accepted m (samples_in (if_accepted n (map (λ x. took (record { column = x.column; stamp = t; value = x.value })) xs)))
unfolding if_accepted samples_in
accepted_batch m zero t [] h = tt
accepted_batch m zero t (x ∷ xs) h = let z = h refl in (z.0, z.1, z.2, accepted_batch m zero t xs h)
accepted_batch m (suc n) t xs h = tt

accepted_deed : (l : Lent) (d : Deed) → Accepted (open_check l.image) (samples_in (events_by l d))
unfolding samples_in
accepted_deed l (reads reply) = tt
accepted_deed l (records k c v t) =
    accepted_record (open_check l.image) (record_check l k c v t) (record { column = c; stamp = t; value = v }) (λ e. let z = record_zero l k c v t e in (z.3, z.2, z.0))
accepted_deed l (records_all [] t) = none (batch_check l [] t)
  where
    none : (n : ℕ) → Accepted (open_check l.image) (samples_in (if_accepted n []))
    none zero = unfold if_accepted in tt
    none (suc n) = unfold if_accepted in tt
accepted_deed l (records_all (x ∷ xs) t) = accepted_batch (open_check l.image) (batch_check l (x ∷ xs) t) t (x ∷ xs) (λ e. let z = batch_zero l x xs t e in (z.3, z.2, z.0))
accepted_deed l runs = tt
accepted_deed l (opens fs) = tt

accepted_call : (l : Lent) (c : Call) → Accepted (open_check l.image) (samples_in (events_of l c))
unfolding events_of
accepted_call l c = accepted_deed l (deed c)

pub accepted_calls : (cs : List Call) (l : Lent) → Accepted (open_check l.image) (samples_in (events l cs))
unfolding events
accepted_calls [] l = unfold samples_in in tt
accepted_calls (c ∷ cs) l =
    rw (samples-append (events_of l c) (events (call l c).lent cs))
    (accepted_append (open_check l.image) (samples_in (events_of l c)) (samples_in (events (call l c).lent cs)) (accepted_call l c)
    (rw (verdict_call l c) at (accepted_calls cs (call l c).lent)))

pub last-low : (n : ℕ) (xs : List Sample) → Accepted n xs → last_of xs < 2 ^ 63
unfolding last_of
last-low n [] h = lit< tt
last-low n (x ∷ []) h = h.1
last-low n (x ∷ y ∷ xs) h = last-low n (y ∷ xs) h.3

pub some_opens : (n : ℕ) (xs : List Sample) → Accepted n xs → 0 < first_of xs → n ≡ 0
unfolding first_of
some_opens n [] h z = absurd (omega arith)
some_opens n (x ∷ xs) h z = h.2

-- where there is a sample, the first stamp is not 0
pub first_pos : (n : ℕ) (xs : List Sample) → Accepted n xs → 0 < last_of xs → 0 < first_of xs
unfolding first_of last_of
first_pos n [] h z = z
first_pos n (x ∷ xs) h z = h.0
