-- The tests of a batch's entries, and how they meet the definitions of record_batch; one turn of a loop over them. Assumes nothing.
use Rattle.std.specs.Prelude.{ℕ, ◌+◌, ◌-◌, ◌*◌, ◌≤◌, ◌<◌, ◌≡◌, refl, Bool, true, false, not, ◌&&◌, List, [], ◌∷◌, ltb}
use Rattle.model.specs.Bytes.{get}
use Rattle.model.specs.Image.{schemas, rows, tiers_of}
use Rattle.model.specs.Ring.{ColumnValue, is_infinite}
use Rattle.model.specs.Lent.{Lent, row, ring, tiers, row_no}
use Rattle.model.specs.Record.{Entry, series_of, handle_ok, takes, entry_at, entries_from, every_entry}
use Rattle.ring_write.specs.Entries.{entries_more, entries_none}

-- the entry's schema and column are within the image's bounds
unfoldable pub fits : List ℕ → Entry → Bool
fits s e = ltb e.schema (schemas s) && ltb e.column (series_of (tiers_of e.schema (rows s)))

unfoldable pub finite : Entry → Bool
finite e = not (is_infinite e.value)

-- the finest ring of the entry's schema takes the stamp t, by the image alone
unfoldable pub taken : List ℕ → ℕ → Entry → Bool
taken s t e = takes (record { image = s; flags = [] }) e.schema t

unfoldable pub is_some : List ColumnValue → Bool
is_some [] = false
is_some (e ∷ es) = true

-- these are the tests of record_batch
pub fits_are : (l : Lent) (es : List Entry) → every_entry (λ x. handle_ok l x.schema x.column) es ≡ every_entry (fits l.image) es
unfolding fits handle_ok tiers
fits_are l es = refl

pub finites_are : (es : List Entry) → every_entry (λ x. not (is_infinite x.value)) es ≡ every_entry finite es
unfolding finite
finites_are es = refl

pub takens_are : (l : Lent) (t : ℕ) (es : List Entry) → every_entry (λ x. takes l x.schema t) es ≡ every_entry (taken l.image t) es
unfolding taken takes ring row row_no
takens_are l t es = refl

-- ---- entry i of c: the test goes on, or ends

module _ (f : Entry → Bool) (b : List ℕ) (i c : ℕ) where
  pub every-on : i < c → f (entry_at b i) ≡ true → every_entry f (entries_from b i (c - i)) ≡ every_entry f (entries_from b (i + 1) (c - (i + 1)))
  unfolding every_entry
  every-on h e = rw (entries_more b i c h, e)

  pub every_no : i < c → f (entry_at b i) ≡ false → every_entry f (entries_from b i (c - i)) ≡ false
  unfolding every_entry
  every_no h e = rw (entries_more b i c h, e)

  pub every_end : c ≤ i → every_entry f (entries_from b i (c - i)) ≡ true
  unfolding every_entry
  every_end h = rw (entries_none b i c h)

-- ---- one entry, by its fields as the code reads them

module _ (b : List ℕ) (i : ℕ) where
  pub finite-is : (x : Bool) → is_infinite (get 8 b (16 * i + 8)) ≡ x → finite (entry_at b i) ≡ not x
  unfolding finite entry_at
  finite-is x e = rw e

  pub fits-is : (s : List ℕ) (x : Bool) → handle_ok (record { image = s; flags = [] }) (get 4 b (16 * i)) (get 4 b (16 * i + 4)) ≡ x → fits s (entry_at b i) ≡ x
  unfolding fits entry_at handle_ok tiers
  fits-is s x e = e
