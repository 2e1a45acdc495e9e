-- An image in good order: `open_check` passes, by its parts, both ways; then each slab lies behind the rows and within the image, no two meet, and each is
-- as long as its header says. And what keeps it so: header and rows stay, but for marks, and each slab stays sound. Every call but creation begins with
-- that check. Assumes nothing.
use Rattle.std.specs.Prelude.{ℕ, suc, ◌+◌, ◌^◌, ◌≤◌, ◌<◌, ◌≡◌, true, ◌&&◌, List, [], ◌∷◌, length, leb, eqb}
use Rattle.std.proofs.Common.{zero-add, arith, sym, ◌∙◌}
use Rattle.std.proofs.Math.Path.{refl, ap}
use Rattle.model.specs.declared.Row.{Row}
use Rattle.model.specs.Bytes.{get}
use Rattle.model.specs.Image.{tier_check, schemas, row_count, total_length, row_place, row_at, rows_from, rows, row_slots, row_length, every, slabs_end, image_length, layout_check, placed, slab_of, sound_fields, sound, sound_all, open_check}
use Rattle.laws.specs.Tests.{yes_le, yes_eq, le_is, eq_is, split3}
use Rattle.laws.specs.Checks.{each_zero, all_zero, unless_zero, unless-on}
use Rattle.laws.specs.Bytes.{length_part}
use Rattle.ring_theory.specs.Sound.{Sound}
use Rattle.image_theory.specs.Rows.{Place, placed_of, placed_at, slabs_end-suc, slabs_end-le, every_of, every-at}
use Rattle.image_theory.specs.Checks.{Shape, shape-parts, shape_of, TierOk, tiers_ok, Like, image_length_like, layout_like, slabs_end_like, shape_like, Suits, sound-parts}

-- where slab i stands: behind the rows, without padding
abbrev pub slab_start : List ℕ → ℕ → ℕ
slab_start s i = slabs_end (row_place (row_count s)) (rows_from s 0 i)

pub start_suc : (s : List ℕ) (i : ℕ) → slab_start s (suc i) ≡ slab_start s i + row_length (row_at s i)
start_suc s i = rw zero-add at (slabs_end-suc (row_place (row_count s)) s 0 i)

pub start_low : (s : List ℕ) (i : ℕ) → row_place (row_count s) ≤ slab_start s i
start_low s i = unfold slabs_end rows_from in (slabs_end-le (row_place (row_count s)) s 0 0 i (omega arith))

pub head-inside : (s : List ℕ) → row_place (row_count s) ≤ image_length s
head-inside s = unfold image_length rows in (start_low s (row_count s))

-- each slab ends within the image
pub start_high : (s : List ℕ) (i : ℕ) → i < row_count s → slab_start s i + row_length (row_at s i) ≤ image_length s
start_high s i h =
    let e : slab_start s (row_count s) ≡ image_length s = unfold image_length rows in refl in
    omega (arith, start_suc s i, slabs_end-le (row_place (row_count s)) s 0 (suc i) (row_count s) h)

pub record Good (s : List ℕ) : Type 0 where
  pub shape_is : Shape s
  pub layout_is : layout_check tier_check s ≡ 0
  pub total_is : total_length s ≡ image_length s
  pub offset_is : (i : ℕ) → i < row_count s → (row_at s i).offset ≡ slab_start s i
  pub len_is : (i : ℕ) → i < row_count s → (row_at s i).len ≡ row_length (row_at s i)
  pub fits : image_length s ≤ length s
  pub sounds : (i : ℕ) → i < row_count s → sound (row_at s i) (slab_of s (row_at s i)) ≡ true

-- ---- the check, both ways

sound_all-every : (s : List ℕ) (rs : List Row) → sound_all s rs ≡ every (λ r. sound r (slab_of s r)) rs
unfolding sound_all every
sound_all-every s [] = refl
sound_all-every s (r ∷ rs) = rw (sound_all-every s rs)

pub open_good : (s : List ℕ) → Good s → open_check s ≡ 0
unfolding open_check rows
open_good s g =
    let slabs = sound_all-every s (rows_from s 0 (row_count s)) ∙ every_of (λ r. sound r (slab_of s r)) s 0 (row_count s) (λ j a l. g.sounds j (omega arith)) in
    all_zero _ (unless-on 1 (shape_of s g.shape_is), (g.layout_is, (unless-on 1 in_place, (unless-on 10 slabs, tt))))
  where
    place : (j : ℕ) → j < row_count s → Place (row_place (row_count s)) s 0 j
    place j l = record { offset_is = rw (zero-add j) (g.offset_is j l); len_is = rw (zero-add j) (g.len_is j l) }

    in_place : eqb (total_length s) (image_length s) && placed (row_place (row_count s)) (rows_from s 0 (row_count s)) && leb (image_length s) (length s) ≡ true
    in_place = rw (g.total_is, yes_eq (image_length s), placed_of (row_place (row_count s)) s 0 (row_count s) place) (yes_le (image_length s) (length s) g.fits)

pub good_open : (s : List ℕ) → open_check s ≡ 0 → Good s
unfolding open_check rows
good_open s h =
    let x = eqb (total_length s) (image_length s) in
    let y = placed (row_place (row_count s)) (rows_from s 0 (row_count s)) in
    let z = leb (image_length s) (length s) in
    let a = each_zero _ h in
    let p = split3 x y z (unless_zero _ (a 2)) in
    let e = sym (sound_all-every s (rows_from s 0 (row_count s))) ∙ unless_zero _ (a 3) in
    record {
      shape_is = shape-parts s (unless_zero _ (a 0));
      layout_is = a 1;
      total_is = eq_is (total_length s) (image_length s) p.0;
      offset_is = λ i l. rw zero-add at (placed_at (row_place (row_count s)) s 0 (row_count s) p.1 i l).offset_is;
      len_is = λ i l. rw zero-add at (placed_at (row_place (row_count s)) s 0 (row_count s) p.1 i l).len_is;
      fits = le_is (image_length s) (length s) p.2;
      sounds = λ i l. every-at (λ r. sound r (slab_of s r)) s 0 (row_count s) e i (omega arith) (omega arith);
    }

-- ---- the slabs of an image in good order

module _ (s : List ℕ) (g : Good s) (i : ℕ) (hi : i < row_count s) where
  pub tier_of_lem : TierOk (row_at s i)
  tier_of_lem = tiers_ok s g.shape_is g.layout_is i hi

  pub behind-head : row_place (row_count s) ≤ (row_at s i).offset
  behind-head = omega (arith, start_low s i, g.offset_is i hi)

  pub inside : (row_at s i).offset + (row_at s i).len ≤ image_length s
  inside = omega (arith, start_high s i hi, g.offset_is i hi, g.len_is i hi)

  pub inside_slice : (row_at s i).offset + (row_at s i).len ≤ length s
  inside_slice = omega (arith, inside, g.fits)

  -- of two slabs, the first ends before the second begins
  pub slabs_apart : (k : ℕ) → i < k → k < row_count s → (row_at s i).offset + (row_at s i).len ≤ (row_at s k).offset
  slabs_apart k l hk = omega (arith, g.offset_is i hi, g.len_is i hi, start_suc s i, slabs_end-le (row_place (row_count s)) s 0 (suc i) k l, g.offset_is k hk)

  pub suits : Suits (row_at s i) (slab_of s (row_at s i))
  suits = sound-parts (row_at s i) (slab_of s (row_at s i)) (g.sounds i hi)

  pub length-slab : length (slab_of s (row_at s i)) ≡ (row_at s i).len
  unfolding slab_of
  length-slab = length_part s (row_at s i).offset (row_at s i).len inside_slice

  -- a slab for the row is as long as the row says
  pub length-sound : (t : List ℕ) → Sound t (row_slots (row_at s i)) (row_at s i).series (row_at s i).interval → length t ≡ (row_at s i).len
  length-sound t h = h.whole ∙ sym (unfold row_length in (g.len_is i hi))

  -- the slab in place is one
  pub slab-sound : Sound (slab_of s (row_at s i)) (row_slots (row_at s i)) (row_at s i).series (row_at s i).interval
  slab-sound =
      let p = suits in
      record {
        whole = length-slab ∙ unfold row_length in (g.len_is i hi);
        slots-is = p.slots-is;
        series-is = p.series-is;
        interval-is = p.interval-is;
        cursor_in = p.cursor-low;
        few_slots = omega (arith, tier_of_lem.few_slots);
      }

-- ---- what keeps an image in good order

-- a row with another mark
unfoldable pub set_mark : Row → ℕ → Row
set_mark r t = record {
  schema = r.schema;
  tier = r.tier;
  interval = r.interval;
  retention = r.retention;
  function = r.function;
  series = r.series;
  offset = r.offset;
  len = r.len;
  mark = t;
  hash = r.hash;
}

-- t is as long as s, has its header, and its rows but for their marks
pub record SameRows (t s : List ℕ) : Type 0 where
  pub long : length t ≡ length s
  pub header_is : (w p : ℕ) → p + w ≤ 32 → get w t p ≡ get w s p
  pub row_is : (i : ℕ) → i < row_count s → set_mark (row_at t i) 0 ≡ set_mark (row_at s i) 0

module _ (t s : List ℕ) (k : SameRows t s) where
  pub count_kept : row_count t ≡ row_count s
  unfolding row_count
  count_kept = k.header_is 4 12 (omega arith)

  pub schemas-kept : schemas t ≡ schemas s
  unfolding schemas
  schemas-kept = k.header_is 4 8 (omega arith)

  pub like : Like t s
  unfolding set_mark
  like = record {
    count-is = count_kept;
    schemas-is = schemas-kept;
    alike = λ i l. let e = k.row_is i l in record {
      schema_is = ap (λ (r : Row). r.schema) e;
      tier-is = ap (λ (r : Row). r.tier) e;
      interval-is = ap (λ (r : Row). r.interval) e;
      retention_is = ap (λ (r : Row). r.retention) e;
      function_is = ap (λ (r : Row). r.function) e;
      series-is = ap (λ (r : Row). r.series) e;
    };
  }

  pub image_length-kept : image_length t ≡ image_length s
  image_length-kept = image_length_like t s like

  offset_kept : (i : ℕ) → i < row_count s → (row_at t i).offset ≡ (row_at s i).offset
  unfolding set_mark
  offset_kept i l = ap (λ (r : Row). r.offset) (k.row_is i l)

  len_kept : (i : ℕ) → i < row_count s → (row_at t i).len ≡ (row_at s i).len
  unfolding set_mark
  len_kept i l = ap (λ (r : Row). r.len) (k.row_is i l)

  hash_kept : (i : ℕ) → i < row_count s → (row_at t i).hash ≡ (row_at s i).hash
  unfolding set_mark
  hash_kept i l = ap (λ (r : Row). r.hash) (k.row_is i l)

  row_length-kept : (i : ℕ) → i < row_count s → row_length (row_at t i) ≡ row_length (row_at s i)
  unfolding set_mark row_length row_slots
  row_length-kept i l = ap row_length (k.row_is i l)

  -- neither a slab's place nor its check goes by the mark
  pub slab-kept : (i : ℕ) → i < row_count s → slab_of t (row_at t i) ≡ slab_of t (row_at s i)
  unfolding set_mark slab_of
  slab-kept i l = ap (slab_of t) (k.row_is i l)

  sound-kept : (i : ℕ) → i < row_count s → (b : List ℕ) → sound (row_at t i) b ≡ sound (row_at s i) b
  unfolding set_mark sound sound_fields row_slots
  sound-kept i l b = ap (λ (r : Row). sound r b) (k.row_is i l)

  pub good-kept : Good s → ((i : ℕ) → i < row_count s → (row_at t i).mark < 2 ^ 63)
      → ((i : ℕ) → i < row_count s → sound (row_at s i) (slab_of t (row_at s i)) ≡ true) → Good t
  good-kept g marks sounds = record {
    shape_is = shape_like t s like g.shape_is (rw k.long g.shape_is.head-fits) (k.header_is 4 0 (omega arith)) (k.header_is 4 4 (omega arith))
        (k.header_is 8 24 (omega arith) ∙ g.shape_is.zero_is) (λ i l e. hash_kept i (omega arith) ∙ e ∙ sym (hash_kept (suc i) l)) marks;
    layout_is = layout_like t s like ∙ g.layout_is;
    total_is = total ∙ g.total_is ∙ sym image_length-kept;
    offset_is = λ i l. let b : i < row_count s = rw count_kept at l in
        offset_kept i b ∙ g.offset_is i b ∙ rw count_kept (sym (slabs_end_like t s like (row_place (row_count s)) i (omega arith)));
    len_is = λ i l. let b : i < row_count s = rw count_kept at l in len_kept i b ∙ g.len_is i b ∙ sym (row_length-kept i b);
    fits = rw (image_length-kept, k.long) g.fits;
    sounds = λ i l. let b : i < row_count s = rw count_kept at l in sound-kept i b (slab_of t (row_at t i)) ∙ ap (sound (row_at s i)) (slab-kept i b) ∙ sounds i b;
  }
    where
      total : total_length t ≡ total_length s
      total = unfold total_length in (k.header_is 8 16 (omega arith))
