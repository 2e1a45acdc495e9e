-- What a store to an image in good order leaves: l' after l, in good order, with l's header and rows, but for marks, and what lies behind the image and the
-- flags past the rows as they were. A ring put back, a mark stored, and the writes of record and record_batch leave that. Assumes nothing.
use Rattle.std.specs.Prelude.{ℕ, zero, suc, ◌+◌, ◌^◌, ◌≤◌, ◌<◌, ◌≡◌, refl, Bool, true, List, [], ◌∷◌, length, get_or}
use Rattle.std.proofs.Common.{arith, ◌∙◌, get_or-set_other}
use Rattle.std.proofs.Math.Bool.{false}
use Rattle.model.specs.Bytes.{part}
use Rattle.model.specs.Image.{schemas, row_count, row_at, image_length, sound}
use Rattle.model.specs.Ring.{Ring, ColumnValue, write}
use Rattle.model.specs.Lent.{Lent, row, ring, with_ring, row_no}
use Rattle.model.specs.Record.{write_to, Entry, entries_of, write_some, write_schemas}
use Rattle.model.specs.Consolidate.{with_mark}
use Rattle.laws.specs.Bytes.{behind, part-splice}
use Rattle.image_theory.specs.Tiers.{tier-row, some_tier}
use Rattle.image_theory.specs.Good.{head-inside, Good, inside, SameRows, count_kept, schemas-kept, image_length-kept}
use Rattle.image_theory.specs.Frame.{with_slab, kept-splice, flags_with, good-with, length-write, sound-written}
use Rattle.image_theory.specs.Mark.{kept_mark, part_mark, good-with_mark}

-- l' after l
pub record Stays (l l' : Lent) : Type 0 where
  pub good : Good l'.image
  pub image_is : SameRows l'.image l.image
  pub surplus_is : (p w : ℕ) → image_length l.image ≤ p → part l'.image p w ≡ part l.image p w
  pub flags_are : length l'.flags ≡ length l.flags
  pub flags_past : (j : ℕ) → row_count l.image ≤ j → get_or l'.flags j false ≡ get_or l.flags j false

pub kept_refl : (s : List ℕ) → SameRows s s
kept_refl s = record { long = refl; header_is = λ w p h. refl; row_is = λ i h. refl }

pub kept_trans : (s t u : List ℕ) → SameRows t s → SameRows u t → SameRows u s
kept_trans s t u a b = record {
  long = b.long ∙ a.long;
  header_is = λ w p h. b.header_is w p h ∙ a.header_is w p h;
  row_is = λ i h. b.row_is i (rw (count_kept t s a) h) ∙ a.row_is i h;
}

pub stays_same : (l : Lent) → Good l.image → Stays l l
stays_same l g = record { good = g; image_is = kept_refl l.image; surplus_is = λ p w h. refl; flags_are = refl; flags_past = λ j h. refl }

pub stays_then : (l m n : Lent) → Stays l m → Stays m n → Stays l n
stays_then l m n a b = record {
  good = b.good;
  image_is = kept_trans l.image m.image n.image a.image_is b.image_is;
  surplus_is = λ p w h. b.surplus_is p w (rw (image_length-kept m.image l.image a.image_is) h) ∙ a.surplus_is p w h;
  flags_are = b.flags_are ∙ a.flags_are;
  flags_past = λ j h. b.flags_past j (rw (count_kept m.image l.image a.image_is) h) ∙ a.flags_past j h;
}

-- ---- a ring put back, and a mark

pub stays_ring : (l : Lent) (i : ℕ) (r : Ring) → Good l.image → i < row_count l.image → length r.slab ≡ (row l i).len
    → sound (row l i) r.slab ≡ true → Stays l (with_ring l i r)
stays_ring l i r g hi len sd = record {
  good = good-with l i r g hi len sd;
  image_is = unfold with_ring row in (kept-splice l.image i r.slab g hi (unfold row in len));
  surplus_is = λ p w h. unfold with_ring row in (past p w h (unfold row in len));
  flags_are = flags_with l i r g hi len;
  flags_past = λ j h. unfold with_ring in (get_or-set_other l.flags i j r.wrapped false (omega arith));
}
  where
    past : (p w : ℕ) → image_length l.image ≤ p → length r.slab ≡ (row_at l.image i).len → part (with_slab l.image i r.slab) p w ≡ part l.image p w
    past p w h e = part-splice r.slab l.image p w (row_at l.image i).offset (behind (omega (arith, inside l.image g i hi)))

pub stays_mark : (l : Lent) (b : Bool) (i t : ℕ) → Good l.image → i < row_count l.image → t < 2 ^ 63 → Stays l (with_mark b l i t)
unfolding with_mark
stays_mark l true i t g hi low = record {
  good = good-with_mark l i t g hi low;
  image_is = kept_mark l.image i t g hi low;
  surplus_is = λ p w h. part_mark l.image i t g hi low p w (omega (arith, head-inside l.image));
  flags_are = refl;
  flags_past = λ j h. refl;
}
stays_mark l false i t g hi low = stays_same l g

-- ---- record and record_batch

-- the finest row of a schema
pub finest : (l : Lent) → Good l.image → (k : ℕ) → k < schemas l.image → row_no l k 0 < row_count l.image
unfolding row_no
finest l g k h = (tier-row l.image g.shape_is k 0 (some_tier l.image g.shape_is g.layout_is k h)).there

pub stays_write : (l : Lent) → Good l.image → (k : ℕ) → k < schemas l.image → (es : List ColumnValue) (t : ℕ) → Stays l (write_to l k es t)
unfolding write_to
stays_write l g k h es t =
    let i = row_no l k 0 in
    stays_ring l i (write (ring l i) es t) g (finest l g k h) (length-write l i es t g (finest l g k h)) (sound-written l i es t g (finest l g k h))

pub stays_some : (l : Lent) → Good l.image → (k : ℕ) → k < schemas l.image → (es : List ColumnValue) (t : ℕ) → Stays l (write_some l k es t)
unfolding write_some
stays_some l g k h [] t = stays_same l g
stays_some l g k h (e ∷ es) t = stays_write l g k h (e ∷ es) t

pub stays_schemas : (l : Lent) → Good l.image → (k j : ℕ) → k + j ≤ schemas l.image → (es : List Entry) (t : ℕ) → Stays l (write_schemas l k j es t)
unfolding write_schemas
stays_schemas l g k zero h es t = stays_same l g
stays_schemas l g k (suc j) h es t =
    let m = write_some l k (entries_of k es) t in
    let a = stays_some l g k (omega arith) (entries_of k es) t in
    stays_then l m (write_schemas m (suc k) j es t) a (stays_schemas m a.good (suc k) j (rw (schemas-kept m.image l.image a.image_is) (omega arith)) es t)
