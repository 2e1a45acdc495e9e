-- What the proofs of record_batch rest on: the columns of a schema's entries are within its slab; one schema more; what a schema's write keeps; the outcome,
-- one law a way. Assumes nothing.
use Prim.Native.Nat.{ℕ, zero, suc, ◌+◌, ◌-◌, ◌/◌, ◌≤◌, ◌<◌}
use native.Mathlib.Nat.{sub-zero}
use native.Mathlib.Numerals.{add-one}
use native.Mathlib.Omega.{arith}
use mathlib.Core.Path.{◌≡◌, refl, sym, ap, ◌∙◌, subst}
use mathlib.Core.Logic.{◌≢◌}
use mathlib.Core.Bool.{Bool, true, false}
use mathlib.Core.List.{List, [], ◌∷◌}
use lib.Dec.{ltb, eqb}
use lib.ListN.{length}
use Rattle.model.specs.Image.{unless, first, schemas, row_count, row_at, rows, tiers_of, open_check}
use Rattle.model.specs.Ring.{ColumnValue, write}
use Rattle.model.specs.Lent.{Lent, ring, with_ring, row_no, first_row}
use Rattle.model.specs.Record.{Entry, series_of, stamp_ok, write_to, entries_from, entries, every_entry, keep_entry, entries_of, write_some, write_schemas, batch_check, batch_on}
use Rattle.laws.specs.Tests.{lt-is, eq_is, and_left, and_right}
use Rattle.image_theory.specs.Good.{Good, good_open, open_good}
use Rattle.image_theory.specs.Frame.{length-write, good-write, schemas-with, rows-with}
use Rattle.image_theory.specs.Stays.{finest}
use Rattle.rows.specs.First.{first_one}
use Rattle.ring_write.specs.Stored.{Columns}
use Rattle.lookup.specs.Handle.{series_there}
use Rattle.batch_entries.specs.Entries.{fits, finite, taken, is_some, fits_are, finites_are, takens_are}
use Rattle.batch.specs.Done.{Checked, BatchDone}

-- ---- the columns of schema k's entries are below its max series

columns_in : (s : List ℕ) (k : ℕ) (es : List Entry) → every_entry (fits s) es ≡ true → Columns (series_of (tiers_of k (rows s))) (entries_of k es)
unfolding every_entry entries_of
columns_in s k [] h = tt
columns_in s k (e ∷ es) h = go (eqb e.schema k) refl (columns_in s k es (and_right (fits s e) (every_entry (fits s) es) h))
  where
    one : e.column < series_of (tiers_of e.schema (rows s))
    one =
        let a = ltb e.schema (schemas s) in
        let b = ltb e.column (series_of (tiers_of e.schema (rows s))) in
        lt-is e.column (series_of (tiers_of e.schema (rows s))) (and_right a b (unfold fits in (and_left (fits s e) (every_entry (fits s) es) h)))

    go : (b : Bool) → eqb e.schema k ≡ b → Columns (series_of (tiers_of k (rows s))) (entries_of k es) → Columns (series_of (tiers_of k (rows s))) (keep_entry b e (entries_of k es))
    go true q later = unfold keep_entry in (subst (λ (x : ℕ). e.column < series_of (tiers_of x (rows s))) (eq_is e.schema k q) one, later)
    go false q later = unfold keep_entry in later

-- with the schema's first row i, whose slab has m series
pub columns-at : (s : List ℕ) (k : ℕ) (es : List Entry) {i m : ℕ} → open_check s ≡ 0 → k < schemas s → every_entry (fits s) es ≡ true → i ≡ first_row k (rows s) → m ≡ (row_at s i).series
    → Columns m (entries_of k es)
columns-at s k es h l e p q = subst (λ (x : ℕ). Columns x (entries_of k es)) (series_there s h k l ∙ sym (q ∙ ap (λ (x : ℕ). (row_at s x).series) p)) (columns_in s k es e)

-- ---- schema k of c

module _ (l : Lent) (k c : ℕ) (es : List Entry) (t : ℕ) where
  next_schema : k < c → write_schemas l k (c - k) es t ≡ write_schemas (write_some l k (entries_of k es) t) (k + 1) (c - (k + 1)) es t
  unfolding write_schemas
  next_schema h = let e : c - k ≡ suc (c - (k + 1)) = omega arith in rw (e, add-one k)

  schema_some : k < c → is_some (entries_of k es) ≡ true → write_schemas l k (c - k) es t ≡ write_schemas (write_to l k (entries_of k es) t) (k + 1) (c - (k + 1)) es t
  schema_some h e = next_schema h ∙ ap (λ (x : Lent). write_schemas x (k + 1) (c - (k + 1)) es t) (go (entries_of k es) e)
    where
      go : (vs : List ColumnValue) → is_some vs ≡ true → write_some l k vs t ≡ write_to l k vs t
      go [] e = absurd (unfold is_some in (let z : ◌≡◌ {A = ℕ} 0 1 = cc in omega arith))
      go (v ∷ vs) e = unfold write_some in refl

  schema_none : k < c → is_some (entries_of k es) ≡ false → write_schemas l k (c - k) es t ≡ write_schemas l (k + 1) (c - (k + 1)) es t
  schema_none h e = next_schema h ∙ ap (λ (x : Lent). write_schemas x (k + 1) (c - (k + 1)) es t) (go (entries_of k es) e)
    where
      go : (vs : List ColumnValue) → is_some vs ≡ false → write_some l k vs t ≡ l
      go [] e = unfold write_some in refl
      go (v ∷ vs) e = absurd (unfold is_some in (let z : ◌≡◌ {A = ℕ} 0 1 = cc in omega arith))

  schemas_end : c ≤ k → write_schemas l k (c - k) es t ≡ l
  unfolding write_schemas
  schemas_end h = let e : c - k ≡ 0 = omega arith in rw e

-- ---- what a schema's write keeps

fits-same : (s u : List ℕ) → schemas u ≡ schemas s → rows u ≡ rows s → (es : List Entry) → every_entry (fits u) es ≡ every_entry (fits s) es
unfolding every_entry fits
fits-same s u a b [] = refl
fits-same s u a b (e ∷ es) = rw (a, b, fits-same s u a b es)

module _ (l : Lent) (h : open_check l.image ≡ 0) (k : ℕ) (hk : k < schemas l.image) (vs : List ColumnValue) (t : ℕ) where
  g : Good l.image
  g = good_open l.image h

  hi : row_no l k 0 < row_count l.image
  hi = finest l g k hk

  schemas-same : schemas (write_to l k vs t).image ≡ schemas l.image
  unfolding write_to
  schemas-same = schemas-with l (row_no l k 0) (write (ring l (row_no l k 0)) vs t) g hi (length-write l (row_no l k 0) vs t g hi)

  opens : open_check (write_to l k vs t).image ≡ 0
  unfolding write_to
  opens = open_good (with_ring l (row_no l k 0) (write (ring l (row_no l k 0)) vs t)).image (good-write l (row_no l k 0) vs t g hi)

  rows_same : rows (write_to l k vs t).image ≡ rows l.image
  unfolding write_to
  rows_same = rows-with l (row_no l k 0) (write (ring l (row_no l k 0)) vs t) g hi (length-write l (row_no l k 0) vs t g hi)

  fits_still : (es : List Entry) → every_entry (fits l.image) es ≡ true → every_entry (fits (write_to l k vs t).image) es ≡ true
  fits_still es e = fits-same l.image (write_to l k vs t).image schemas-same rows_same es ∙ e

-- ---- the loop over the schemas

-- l, with the schemas from k on still to be written, goes where l₀ with all c schemas goes
pub record Running (l₀ : Lent) (es : List Entry) (t c : ℕ) (l : Lent) (k : ℕ) : Type 0 where
  pub in_bounds : k ≤ c
  pub opened : open_check l.image ≡ 0
  pub count-is : c ≡ schemas l.image
  pub fit : every_entry (fits l.image) es ≡ true
  pub rest : write_schemas l k (c - k) es t ≡ write_schemas l₀ 0 c es t

pub starts : (l : Lent) (es : List Entry) (t c : ℕ) → open_check l.image ≡ 0 → c ≡ schemas l.image → every_entry (fits l.image) es ≡ true → Running l es t c l 0
starts l es t c h e f = record { in_bounds = omega arith; opened = h; count-is = e; fit = f; rest = rw (sub-zero c) }

module _ {l₀ : Lent} {es : List Entry} {t c : ℕ} {l : Lent} {k : ℕ} (r : Running l₀ es t c l k) where
  pub schema_in : k < c → k < schemas l.image
  schema_in h = omega (arith, r.count-is)

  pub goes_on : k < c → is_some (entries_of k es) ≡ true → {u : Lent} → u ≡ write_to l k (entries_of k es) t → Running l₀ es t c u (k + 1)
  goes_on h e {u} w =
      let vs = entries_of k es in
      let hk = schema_in h in
      rw w (record {
        in_bounds = omega arith;
        opened = opens l r.opened k hk vs t;
        count-is = r.count-is ∙ sym (schemas-same l r.opened k hk vs t);
        fit = fits_still l r.opened k hk vs t es r.fit;
        rest = sym (schema_some l k c es t h e) ∙ r.rest;
      })

  pub passes : k < c → is_some (entries_of k es) ≡ false → Running l₀ es t c l (k + 1)
  passes h e = record {
    in_bounds = omega arith;
    opened = r.opened;
    count-is = r.count-is;
    fit = r.fit;
    rest = sym (schema_none l k c es t h e) ∙ r.rest;
  }

  pub ends : c ≤ k → l ≡ write_schemas l₀ 0 c es t
  ends h = sym (schemas_end l k c es t h) ∙ r.rest

-- ---- how many entries

length_from : (b : List ℕ) (i k : ℕ) → length (entries_from b i k) ≡ k
unfolding entries_from
length_from b i zero = refl
length_from b i (suc k) = ap suc (length_from b (suc i) k)

pub length-entries : (b : List ℕ) → length (entries b) ≡ length b / 16
unfolding entries
length-entries b = length_from b 0 (length b / 16)

-- ---- the check, whatever the flags

module _ (s : List ℕ) (t : ℕ) (h : open_check s ≡ 0) where
  abbrev with_flags : List Bool → Lent
  with_flags bs = record { image = s; flags = bs }

  pub empty_batch : (es : List Entry) → length es ≡ 0 → Checked s es t 0
  empty_batch [] z = record { number_is = λ bs. unfold batch_check in (sym h) }
  empty_batch (x ∷ es) z = absurd (omega arith)

  pub refused_handle : (es : List Entry) → length es ≢ 0 → every_entry (fits s) es ≡ false → Checked s es t 11
  refused_handle [] z e = absurd (z refl)
  refused_handle (x ∷ es) z e = record { number_is = λ bs. unfold batch_check first unless in (rw (h, fits_are (with_flags bs) (x ∷ es), e)) }

  pub refused_stamp : (es : List Entry) → length es ≢ 0 → every_entry (fits s) es ≡ true → stamp_ok t ≡ false → Checked s es t 13
  refused_stamp [] z e a = absurd (z refl)
  refused_stamp (x ∷ es) z e a = record { number_is = λ bs. unfold batch_check first unless in (rw (h, fits_are (with_flags bs) (x ∷ es), e, a)) }

  pub refused_value : (es : List Entry) → length es ≢ 0 → every_entry (fits s) es ≡ true → stamp_ok t ≡ true → every_entry finite es ≡ false → Checked s es t 12
  refused_value [] z e a b = absurd (z refl)
  refused_value (x ∷ es) z e a b = record { number_is = λ bs. unfold batch_check first unless in (rw (h, fits_are (with_flags bs) (x ∷ es), e, a, finites_are (x ∷ es), b)) }

  -- 18, by whether every entry's ring takes the stamp, x
  pub last_check : (es : List Entry) → length es ≢ 0 → every_entry (fits s) es ≡ true → stamp_ok t ≡ true → every_entry finite es ≡ true → {x : Bool} → every_entry (taken s t) es ≡ x
      → Checked s es t (unless x 18)
  last_check [] z e a b d = absurd (z refl)
  last_check (y ∷ es) z e a b {x} d = record { number_is = go }
    where
      go : (bs : List Bool) → unless x 18 ≡ batch_check (with_flags bs) (y ∷ es) t
      go bs = unfold batch_check first unless in (rw (h, fits_are (with_flags bs) (y ∷ es), e, a, finites_are (y ∷ es), b, takens_are (with_flags bs) t (y ∷ es), d) (sym (first_one (unless x 18))))

-- ---- the outcome

module _ (l : Lent) (t : ℕ) where
  -- a refusal leaves what was lent
  pub refused : (es : List Entry) (n : ℕ) → n ≡ batch_check l es t → n ≢ 0 → BatchDone l es t n l
  unfolding batch_on
  refused es zero e z = absurd (z refl)
  refused es (suc n) e z = record { answer_is = e; lent_is = rw (← e) refl }

  pub not_opened : (es : List Entry) (n : ℕ) → n ≡ open_check l.image → n ≢ 0 → BatchDone l es t n l
  not_opened es zero e h = absurd (h refl)
  not_opened [] (suc n) e h = refused [] (suc n) (unfold batch_check in e) h
  not_opened (x ∷ es) (suc n) e h = refused (x ∷ es) (suc n) (unfold batch_check first in (rw (← e))) h

  -- the handles are within bounds, and the writes are made
  pub all_fit : (es : List Entry) → open_check l.image ≡ 0 → 0 ≡ batch_check l es t → every_entry (fits l.image) es ≡ true
  all_fit [] h e = unfold every_entry in refl
  all_fit (x ∷ es) h e = go (every_entry (fits l.image) (x ∷ es)) refl
    where
      go : (b : Bool) → every_entry (fits l.image) (x ∷ es) ≡ b → b ≡ true
      go true q = refl
      go false q = absurd (omega (arith, e ∙ sym ((refused_handle l.image t h (x ∷ es) (λ z. omega arith) q).number_is l.flags)))

  pub recorded : (es : List Entry) {u : Lent} → 0 ≡ batch_check l es t → u ≡ write_schemas l 0 (schemas l.image) es t → BatchDone l es t 0 u
  unfolding batch_on
  recorded es e w = record { answer_is = e; lent_is = w ∙ rw (← e) }
