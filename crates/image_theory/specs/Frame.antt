-- A slab put back into its image: header, rows and the other slabs stay, the slab is what was put, and the image stays in good order if the slab is sound
-- for its row. Then the same of what a call is lent, flags beside. A write to one ring is such a put. Assumes nothing.
use Rattle.std.specs.Prelude.{ℕ, ◌+◌, ◌≤◌, ◌<◌, ◌≡◌, ◌≢◌, true, List, length}
use Rattle.std.proofs.Common.{arith, sym, ap, ◌∙◌}
use Rattle.std.proofs.Math.Decide.{dec_lt, ℕ_discrete}
use Rattle.std.proofs.Math.Path.{subst}
use Rattle.std.proofs.Math.Bool.{false}
use Rattle.std.proofs.Math.ListN.{length-set}
use Rattle.std.proofs.Math.Seq.{get_or-set_same, get_or-set_other}
use Rattle.model.specs.declared.Row.{Row}
use Rattle.model.specs.Bytes.{part, splice}
use Rattle.model.specs.Image.{schemas, row_count, row_place, row_at, rows, row_slots, slab_of, sound}
use Rattle.model.specs.Ring.{Ring, ColumnValue, write}
use Rattle.model.specs.Lent.{Lent, row, ring, with_ring}
use Rattle.laws.specs.Bytes.{Apart, before, behind, get-splice, length-splice, part-splice, part-splice-same}
use Rattle.ring_theory.specs.Sound.{Sound, kept-by-write, sound-write}
use Rattle.image_theory.specs.Rows.{row_at-splice, rows_from-same}
use Rattle.image_theory.specs.Checks.{sound_keeps}
use Rattle.image_theory.specs.Good.{Good, behind-head, inside_slice, slabs_apart, length-sound, slab-sound, set_mark, SameRows, count_kept, schemas-kept, good-kept}

-- ---- the image

-- s with t in place of row i's slab
abbrev pub with_slab : List ℕ → ℕ → List ℕ → List ℕ
with_slab s i t = splice s (row_at s i).offset t

module _ (s : List ℕ) (i : ℕ) (t : List ℕ) (g : Good s) (hi : i < row_count s) (len : length t ≡ (row_at s i).len) where
  low : row_place (row_count s) ≤ (row_at s i).offset
  low = behind-head s g i hi

  pub fits-splice : (row_at s i).offset + length t ≤ length s
  fits-splice = omega (arith, inside_slice s g i hi)

  pub row-splice : (j : ℕ) → j < row_count s → row_at (with_slab s i t) j ≡ row_at s j
  row-splice j hj = row_at-splice s (row_at s i).offset t j (before (omega (arith, low, ends)))
    where
      ends : row_place j + 64 ≤ row_place (row_count s)
      ends = unfold row_place in (omega arith)

  pub kept-splice : SameRows (with_slab s i t) s
  kept-splice = record {
    long = length-splice s (row_at s i).offset t;
    header_is = λ w p h. get-splice w s p (row_at s i).offset t (before (omega (arith, low, header)));
    row_is = λ j hj. ap (λ (r : Row). set_mark r 0) (row-splice j hj);
  }
    where
      header : 32 ≤ row_place (row_count s)
      header = unfold row_place in (omega arith)

  pub count-splice : row_count (with_slab s i t) ≡ row_count s
  count-splice = count_kept (with_slab s i t) s kept-splice

  pub schemas-splice : schemas (with_slab s i t) ≡ schemas s
  schemas-splice = schemas-kept (with_slab s i t) s kept-splice

  pub rows-splice : rows (with_slab s i t) ≡ rows s
  unfolding rows
  rows-splice = rw count-splice (rows_from-same (with_slab s i t) s 0 (row_count s) (λ j a l. row-splice j (omega arith)))

  -- the slab itself, and any other
  pub slab-same : slab_of (with_slab s i t) (row_at s i) ≡ t
  unfolding slab_of
  slab-same = subst (λ (n : ℕ). part (with_slab s i t) (row_at s i).offset n ≡ t) len (part-splice-same s (row_at s i).offset t fits-splice)

  pub slab-other : (j : ℕ) → j < row_count s → j ≢ i → slab_of (with_slab s i t) (row_at s j) ≡ slab_of s (row_at s j)
  unfolding slab_of
  slab-other j hj ne = part-splice t s (row_at s j).offset (row_at s j).len (row_at s i).offset (away (dec_lt j i))
    where
      away : Dec (j < i) → Apart (row_at s j).offset (row_at s j).len (row_at s i).offset (length t)
      away (yes p) = before (slabs_apart s g j hj i p hi)
      away (no p) = behind (omega (arith, slabs_apart s g i hi j (omega arith) hj))

  pub good-splice : sound (row_at s i) t ≡ true → Good (with_slab s i t)
  good-splice sd = good-kept (with_slab s i t) s kept-splice g (λ j hj. rw (row-splice j hj) (g.shape_is.mark_low j hj)) (λ j hj. go j hj (ℕ_discrete j i))
    where
      go : (j : ℕ) → j < row_count s → Dec (j ≡ i) → sound (row_at s j) (slab_of (with_slab s i t) (row_at s j)) ≡ true
      go j hj (yes e) = subst (λ (j : ℕ). sound (row_at s j) (slab_of (with_slab s i t) (row_at s j)) ≡ true) (sym e)
          (ap (sound (row_at s i)) slab-same ∙ sd)
      go j hj (no ne) = ap (sound (row_at s j)) (slab-other j hj ne) ∙ g.sounds j hj

-- ---- what a call is lent

module _ (l : Lent) (i : ℕ) (r : Ring) (g : Good l.image) (hi : i < row_count l.image) (len : length r.slab ≡ (row l i).len) where
  long : length r.slab ≡ (row_at l.image i).len
  long = unfold row in len

  pub count-with : row_count (with_ring l i r).image ≡ row_count l.image
  unfolding with_ring row
  count-with = count-splice l.image i r.slab g hi long

  pub schemas-with : schemas (with_ring l i r).image ≡ schemas l.image
  unfolding with_ring row
  schemas-with = schemas-splice l.image i r.slab g hi long

  pub rows-with : rows (with_ring l i r).image ≡ rows l.image
  unfolding with_ring row
  rows-with = rows-splice l.image i r.slab g hi long

  pub row-with : (j : ℕ) → j < row_count l.image → row (with_ring l i r) j ≡ row l j
  unfolding with_ring row
  row-with j hj = row-splice l.image i r.slab g hi long j hj

  -- the ring that was put, its flag too, and any other
  pub ring-same : i < length l.flags → ring (with_ring l i r) i ≡ r
  unfolding ring with_ring row
  ring-same hf = λ x. record {
    slab = (ap (slab_of (with_slab l.image i r.slab)) (row-splice l.image i r.slab g hi long i hi)
        ∙ slab-same l.image i r.slab g hi long) x;
    wrapped = get_or-set_same l.flags i r.wrapped false hf x;
  }

  pub ring-other : (j : ℕ) → j < row_count l.image → j ≢ i → ring (with_ring l i r) j ≡ ring l j
  unfolding ring with_ring row
  ring-other j hj ne = λ x. record {
    slab = (ap (slab_of (with_slab l.image i r.slab)) (row-splice l.image i r.slab g hi long j hj)
        ∙ slab-other l.image i r.slab g hi long j hj ne) x;
    wrapped = get_or-set_other l.flags i j r.wrapped false ne x;
  }

  pub flags_with : length (with_ring l i r).flags ≡ length l.flags
  unfolding with_ring
  flags_with = length-set l.flags i r.wrapped

  pub good-with : sound (row l i) r.slab ≡ true → Good (with_ring l i r).image
  unfolding with_ring row
  good-with sd = good-splice l.image i r.slab g hi long sd

-- ---- a write to one ring

module _ (l : Lent) (i : ℕ) (es : List ColumnValue) (t : ℕ) (g : Good l.image) (hi : i < row_count l.image) where
  old : Sound (ring l i).slab (row_slots (row l i)) (row l i).series (row l i).interval
  unfolding ring row
  old = slab-sound l.image g i hi

  -- what is put suits its place: the laws above hold of it
  pub length-write : length (write (ring l i) es t).slab ≡ (row l i).len
  length-write = go (sound-write (ring l i) es t (row_slots (row l i)) (row l i).series (row l i).interval old)
    where
      go : Sound (write (ring l i) es t).slab (row_slots (row l i)) (row l i).series (row l i).interval → length (write (ring l i) es t).slab ≡ (row l i).len
      go h = unfold row in (length-sound l.image g i hi (write (ring l i) es t).slab (unfold row in h))

  pub sound-written : sound (row l i) (write (ring l i) es t).slab ≡ true
  sound-written =
      sound_keeps (row l i) (ring l i).slab (write (ring l i) es t).slab
      (kept-by-write (ring l i) es t (row_slots (row l i)) (row l i).series (row l i).interval old).header
      (sound-write (ring l i) es t (row_slots (row l i)) (row l i).series (row l i).interval old).cursor_in
      (unfold ring row in (g.sounds i hi))

  pub good-write : Good (with_ring l i (write (ring l i) es t)).image
  good-write = good-with l i (write (ring l i) es t) g hi length-write sound-written
