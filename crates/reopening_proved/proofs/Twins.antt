-- Two stores with one image and all rings tidy, whatever their flags: every call answers alike and leaves two such stores. Assumes nothing.
use Prim.Native.Nat.{ℕ, zero, suc, ◌-◌}
use Rattle.std.proofs.Common.{arith, ap, ◌∙◌}
use Rattle.std.specs.Prelude.{◌≡◌}
use Rattle.std.proofs.Math.Path.{refl, sym, subst}
use mathlib.Core.List.{List, [], ◌∷◌}
use Rattle.model.specs.Image.{schemas, row_count, open_check}
use Rattle.model.specs.Ring.{ColumnValue, write}
use Rattle.model.specs.Lent.{Lent, row, ring, tiers, row_no}
use Rattle.model.specs.Record.{Entry, handle_ok, write_to, takes, record_check, record_on, batch_check, entries_of, write_some, write_schemas, batch_on}
use Rattle.model.specs.Query.{query_check, auto_check, query_on, query, query_auto}
use Rattle.model.specs.Consolidate.{pairs, run_on, run}
use Rattle.model.specs.Store.{Call, record_call, batch_call, query_call, auto_call, consolidate_call, open_call, read_or, Deed, reads, records, records_all, runs, opens, deed, doing, finished, call, after, shown}
use Rattle.image_theory.specs.Calls.{opened_image}
use Rattle.image_theory.proofs.Calls.{verdict_call}
use Rattle.reopening_proved.specs.Tidy.{Tidy, tidy_write, tidy_opened}
use Rattle.reopening_proved.specs.Each.{each-call}
use Rattle.query_theory.proofs.Answer.{query_zero, auto_zero}
use Rattle.reopening_proved.proofs.Alike.{row_no_lem, query_check_lem, auto_check_lem, query-same, auto_same}
use Rattle.reopening_proved.proofs.Level.{AllTidy, slab-same, rings-same, write-slab, put_image, Even, even_pairs}

-- ---- two stores, tidy where their image passes the checks

pub record Twins (l l' : Lent) : Type 0 where
  pub image_is : l'.image ≡ l.image
  pub tidy : open_check l.image ≡ 0 → AllTidy l
  pub tidy' : open_check l.image ≡ 0 → AllTidy l'

module _ (l l' : Lent) (h : Twins l l') where
  even_run : Even (run l) (run l')
  unfolding run
  even_run = subst (λ (n : ℕ). Even (run_on (open_check l.image) l) (run_on n l')) (sym (ap open_check h.image_is)) (go (open_check l.image) refl)
    where
      go : (n : ℕ) → open_check l.image ≡ n → Even (run_on n l) (run_on n l')
      go zero e =
          unfold run_on in (subst (λ (s : List ℕ). Even (pairs (record { lent = l; count = 0; refusal = 0 }) 0 (row_count l.image - 1)) (pairs (record { lent = l'; count = 0; refusal = 0 }) 0 (row_count s - 1)))
          (sym h.image_is)
          (even_pairs (row_count l.image - 1) 0 (record { lent = l; count = 0; refusal = 0 }) (record { lent = l'; count = 0; refusal = 0 })
          (record { image_is = h.image_is; count-is = refl; refusal_is = refl }) (h.tidy e) (h.tidy' e) (omega arith)))
      go (suc n) e = unfold run_on in (record { image_is = h.image_is; count-is = refl; refusal_is = refl })

  one-query : (k c j start end : ℕ) → shown (read_or (query l' k c j start end)) ≡ shown (read_or (query l k c j start end))
  one-query k c j start end = go (query_check l k c j start end) refl
    where
      go : (n : ℕ) → query_check l k c j start end ≡ n → shown (read_or (query l' k c j start end)) ≡ shown (read_or (query l k c j start end))
      go zero e =
          let z = (query_zero l k c j start end e).0 in
          query-same l l' h.image_is (h.tidy z).good (rings-same l l' h.image_is (h.tidy z) (h.tidy' z)) k c j start end e
      go (suc n) e = unfold query in (rw (query_check_lem l l' h.image_is k c j start end, e) (unfold query_on in refl))

  one_auto : (k c start end : ℕ) → shown (read_or (query_auto l' k c start end)) ≡ shown (read_or (query_auto l k c start end))
  one_auto k c start end = go (auto_check l k c start end) refl
    where
      go : (n : ℕ) → auto_check l k c start end ≡ n → shown (read_or (query_auto l' k c start end)) ≡ shown (read_or (query_auto l k c start end))
      go zero e =
          let z = (auto_zero l k c start end e).0 in
          auto_same l l' h.image_is (h.tidy z).good (rings-same l l' h.image_is (h.tidy z) (h.tidy' z)) k c start end e
      go (suc n) e = unfold query_auto in (rw (auto_check_lem l l' h.image_is k c start end, e) (unfold query_on in refl))

-- ---- recordings

module _ (l l' : Lent) (img : l'.image ≡ l.image) where
  write_image : (k : ℕ) (es : List ColumnValue) (t : ℕ) → (write_to l' k es t).image ≡ (write_to l k es t).image
  unfolding write_to
  write_image k es t =
      rw (row_no_lem l l' img k 0)
      (put_image l l' (row_no l k 0) (write (ring l (row_no l k 0)) es t) (write (ring l' (row_no l k 0)) es t) img
      (write-slab (ring l (row_no l k 0)) (ring l' (row_no l k 0)) es t (slab-same l l' img (row_no l k 0))))

  some_image : (k : ℕ) (es : List ColumnValue) (t : ℕ) → (write_some l' k es t).image ≡ (write_some l k es t).image
  unfolding write_some
  some_image k [] t = img
  some_image k (e ∷ es) t = write_image k (e ∷ es) t

  record_check_lem : (k c v t : ℕ) → record_check l' k c v t ≡ record_check l k c v t
  unfolding record_check handle_ok takes tiers row_no ring row
  record_check_lem k c v t = rw img

  record_image : (n k c v t : ℕ) → (record_on n l' k c v t).image ≡ (record_on n l k c v t).image
  unfolding record_on
  record_image zero k c v t = write_image k (record { column = c; value = v } ∷ []) t
  record_image (suc n) k c v t = img

  batch_check_lem : (es : List Entry) (t : ℕ) → batch_check l' es t ≡ batch_check l es t
  unfolding batch_check handle_ok takes tiers row_no ring row
  batch_check_lem [] t = rw img
  batch_check_lem (e ∷ es) t = rw img

schemas_image : (es : List Entry) (t j k : ℕ) (l l' : Lent) → l'.image ≡ l.image → (write_schemas l' k j es t).image ≡ (write_schemas l k j es t).image
unfolding write_schemas
schemas_image es t zero k l l' img = img
schemas_image es t (suc j) k l l' img = schemas_image es t j (suc k) (write_some l k (entries_of k es) t) (write_some l' k (entries_of k es) t) (some_image l l' img k (entries_of k es) t)

batch_image : (n : ℕ) (es : List Entry) (t : ℕ) (l l' : Lent) → l'.image ≡ l.image → (batch_on n l' es t).image ≡ (batch_on n l es t).image
unfolding batch_on
batch_image zero es t l l' img = rw (ap schemas img) (schemas_image es t (schemas l.image) 0 l l' img)
batch_image (suc n) es t l l' img = img

-- ---- any call, and any list of them

module _ (l l' : Lent) (h : Twins l l') where
  abbrev img : l'.image ≡ l.image
  img = h.image_is

  -- what is seen of the reply, and the image
  pub reply_same : (c : Call) → shown (call l' c).reply ≡ shown (call l c).reply
  unfolding call finished
  reply_same (record_call k c v t) = rw (record_check_lem l l' img k c v t)
  reply_same (batch_call es t) = rw (batch_check_lem l l' img es t)
  reply_same (query_call k c j start end) = one-query l l' h k c j start end
  reply_same (auto_call k c start end) = one_auto l l' h k c start end
  reply_same consolidate_call = let e = even_run l l' h in rw (e.count-is, e.refusal_is)
  reply_same (open_call fs) = rw (ap open_check img)

  image_deed : (d : Deed) → (doing l' d).lent.image ≡ (doing l d).lent.image
  unfolding finished
  image_deed (reads reply) = img
  image_deed (records k c v t) = rw (record_check_lem l l' img k c v t) (record_image l l' img (record_check l k c v t) k c v t)
  image_deed (records_all es t) = rw (batch_check_lem l l' img es t) (batch_image (batch_check l es t) es t l l' img)
  image_deed runs = (even_run l l' h).image_is
  image_deed (opens fs) = opened_image (record { image = l'.image; flags = fs }) ∙ img ∙ sym (opened_image (record { image = l.image; flags = fs }))

  image_same : (c : Call) → (call l' c).lent.image ≡ (call l c).lent.image
  unfolding call
  image_same c = image_deed (deed c)

  twins_call : (c : Call) → Twins (call l c).lent (call l' c).lent
  twins_call c = record {
    image_is = image_same c;
    tidy = λ e. each-call Tidy tidy_write tidy_opened l c (h.tidy (sym (verdict_call l c) ∙ e));
    tidy' = λ e. each-call Tidy tidy_write tidy_opened l' c (h.tidy' (sym (verdict_call l c) ∙ e));
  }

pub twins_after : (cs : List Call) (l l' : Lent) → Twins l l' → Twins (after l cs) (after l' cs)
unfolding after
twins_after [] l l' h = h
twins_after (c ∷ cs) l l' h = twins_after cs (call l c).lent (call l' c).lent (twins_call l l' h c)
