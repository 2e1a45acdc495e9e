-- What opening leaves, by the way that its check went; the flags of the rows one by one. Assumes nothing.
use Prim.Native.Nat.{ℕ, zero, suc, ◌+◌, ◌*◌, ◌-◌, ◌≤◌, ◌<◌}
use Rattle.std.proofs.Math.Nat.{sub-zero}
use Rattle.std.proofs.Common.{add-one, ap, ◌∙◌}
use native.Mathlib.Omega.{arith}
use Rattle.std.specs.Prelude.{◌≡◌, refl, Bool, List, [], ◌∷◌, ◌++◌, length, take, drop, set}
use Rattle.std.proofs.lemmas.List.Edits.{sets}
use Rattle.model.specs.declared.Row.{Row}
use Rattle.model.specs.Bytes.{get}
use Rattle.model.specs.Image.{row_at, rows_from, row_count, row_slots, row_place, open_check}
use Rattle.model.specs.Ring.{cursor, any_stamp, wrap_flag}
use Rattle.model.specs.Lent.{Lent, wrap_flags, open_on, opening}
use Rattle.ring.specs.Parts.{Sized, sized}
use Rattle.image_theory.specs.Rows.{length-rows_from}
use Rattle.image_theory.specs.Good.{Good, good_open, slab-sound, inside_slice}
use Rattle.rows.specs.Rows.{rows_to, rows_all, rows_step, rows_end}
use Rattle.image.specs.Handed.{handed as slab-is}
use Rattle.image.specs.Flags.{front}

-- ---- the rows of an image in good order

-- what is handed on as `&s[offset..end]`, and that it may be
pub record Handed (s : List ℕ) (r : Row) : Type 0 where
  pub inside : r.offset + r.len ≤ length s
  pub slab-sized : Sized (take (r.offset + r.len - r.offset) (drop r.offset s)) (row_slots r) r.series

module _ (s : List ℕ) (e : open_check s ≡ 0) where
  g : Good s
  g = good_open s e

  pub row_in : {n i : ℕ} → n ≡ get 4 s 12 → i < n → 32 + 64 * i + 64 ≤ length s
  unfolding row_count row_place
  row_in en h = omega (arith, g.shape_is.head-fits)

  pub few_rows : get 4 s 12 ≤ 32
  unfolding row_count
  few_rows = g.shape_is.few_rows

  pub long : 32 ≤ length s
  long = g.shape_is.long

  pub there : 32 + 64 * get 4 s 12 ≤ length s
  unfolding row_count row_place
  there = g.shape_is.head-fits

  pub handed : {n i : ℕ} {r : Row} → n ≡ get 4 s 12 → i < n → r ≡ row_at s i → Handed s r
  unfolding row_count
  handed {i = i} {r} en h is =
      let k : i < row_count s = omega arith in
      record {
        inside = rw is (inside_slice s g i k);
        slab-sized = rw (slab-is s r, is) (sized (slab-sound s g i k));
      }

pub flags_on : (s : List ℕ) (n i : ℕ) → i < n → (l : List Bool) (r : Row) {b : Bool} → r ≡ row_at s i → b ≡ wrap_flag (take (r.offset + r.len - r.offset) (drop r.offset s))
    → sets (set l i b) (i + 1) (wrap_flags s (rows_to s n (i + 1))) ≡ sets l i (wrap_flags s (rows_to s n i))
unfolding wrap_flags
flags_on s n i h l r is e = rw (rows_step s n i h, e, slab-is s r, is, add-one i)

pub flags_end : (s : List ℕ) (n i : ℕ) → n ≤ i → (l : List Bool) → sets l i (wrap_flags s (rows_to s n i)) ≡ l
unfolding wrap_flags
flags_end s n i h l = rw (rows_end s n i h)

length_flags : (s : List ℕ) (rs : List Row) → length (wrap_flags s rs) ≡ length rs
unfolding wrap_flags
length_flags s [] = refl
length_flags s (r ∷ rs) = ap suc (length_flags s rs)

pub flags_all : (s : List ℕ) (n : ℕ) (l : List Bool) → n ≤ length l → sets l 0 (wrap_flags s (rows_to s n 0)) ≡ wrap_flags s (rows_to s n 0) ++ drop n l
unfolding rows_to
flags_all s n l h = front l (wrap_flags s (rows_from s 0 (n - 0))) n (length_flags s (rows_from s 0 (n - 0)) ∙ length-rows_from s 0 (n - 0) ∙ sub-zero n) h

-- ---- what opening leaves

module _ (l : Lent) where
  pub refused_is : (x : ℕ) → x ≡ open_check l.image → (x ≡ 0 → ⊥) → l ≡ opening l
  unfolding opening open_on
  refused_is zero e f = absurd (f refl)
  refused_is (suc x) e f = rw (← e)

  pub accepted_is : {b : List ℕ} {n : ℕ} {flags : List Bool} → open_check l.image ≡ 0 → (b ≡ l.image) × (n ≡ get 4 l.image 12)
      → flags ≡ wrap_flags b (rows_to b n 0) ++ drop n l.flags → record { image = l.image; flags = flags } ≡ opening l
  unfolding opening open_on row_count
  accepted_is e is f = rw (e, f, is.0, is.1, rows_all l.image)

-- ---- a ring's flag

pub flag_is : (s : List ℕ) (n m : ℕ) → Sized s n m → {c : ℕ} → c ≡ cursor s → any_stamp s (c + 1) (n - (c + 1)) ≡ wrap_flag s
unfolding wrap_flag
flag_is s n m h e = rw (e, add-one (cursor s), h.slots-is)
