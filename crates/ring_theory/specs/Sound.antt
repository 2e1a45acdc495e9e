-- A slab in good order: as long as its header says, with these sizes and this interval, its cursor below its slots. Every write keeps that, whatever it
-- writes. It is the bridge between the sizes that the code reads from the slab's header and the sizes that a proof speaks of. Assumes nothing.
use Rattle.std.specs.Prelude.{ℕ, ◌+◌, ◌/◌, ◌%◌, ◌^◌, ◌≤◌, ◌<◌, ◌≡◌, refl, List, length}
use Rattle.std.proofs.Common.{mod-lt, arith, ◌∙◌, subst}
use Rattle.model.specs.Bytes.{get}
use Rattle.model.specs.Layout.{slab_length, column_at, column_behind, stamps_behind}
use Rattle.model.specs.Ring.{Ring, ColumnValue, slots, series, interval, cursor, slot_of, write}
use Rattle.laws.specs.Slab.{FullLength}
use Rattle.ring_theory.specs.Write.{SlabKept, kept, Elsewhere, elsewhere}

-- n slots, m series, interval d
pub record Sound (s : List ℕ) (n m d : ℕ) : Type 0 where
  pub whole : length s ≡ slab_length n m
  pub slots-is : slots s ≡ n
  pub series-is : series s ≡ m
  pub interval-is : interval s ≡ d
  pub cursor_in : cursor s < n
  pub few_slots : n < 2 ^ 32

length_high : (n m : ℕ) → 64 ≤ slab_length n m
unfolding slab_length column_at column_behind stamps_behind
length_high n m = omega arith

module _ {s : List ℕ} {n m d : ℕ} (h : Sound s n m d) where
  pub some_slots : 0 < n
  some_slots = omega (arith, h.cursor_in)

  pub as_long : FullLength s
  as_long = h.whole ∙ rw (h.slots-is, h.series-is) refl

  pub header_in : 64 ≤ length s
  header_in = rw h.whole (length_high n m)

  -- the slot of a stamp
  pub slot_is : (t : ℕ) → slot_of s t ≡ t / d % n
  unfolding slot_of
  slot_is t = rw (h.slots-is, h.interval-is)

  pub slot_in : (t : ℕ) → slot_of s t < n
  slot_in t = rw (slot_is t) (mod-lt (t / d) some_slots)

  -- a slab of the same length and header, with its cursor among the slots
  pub sound_as : (u : List ℕ) → length u ≡ length s → ((w p : ℕ) → p + w ≤ 32 → get w u p ≡ get w s p) → cursor u < n → Sound u n m d
  unfolding slots series interval
  sound_as u l k c = record {
    whole = l ∙ h.whole;
    slots-is = k 4 16 (omega arith) ∙ h.slots-is;
    series-is = k 4 20 (omega arith) ∙ h.series-is;
    interval-is = k 8 24 (omega arith) ∙ h.interval-is;
    cursor_in = c;
    few_slots = h.few_slots;
  }

-- ---- a write

module _ (r : Ring) (es : List ColumnValue) (t n m d : ℕ) (h : Sound r.slab n m d) where
  pub kept-by-write : SlabKept r.slab (slot_of r.slab t) (write r es t).slab
  kept-by-write = kept r es t (header_in h) (omega (arith, slot_in h t, h.few_slots))

  -- every write keeps it
  pub sound-write : Sound (write r es t).slab n m d
  sound-write =
      let k = kept-by-write in
      sound_as h (write r es t).slab k.length-is k.header (rw k.cursor-is (slot_in h t))

  -- the cursor after a write is the written slot
  pub cursor-write : cursor (write r es t).slab ≡ t / d % n
  cursor-write = kept-by-write.cursor-is ∙ slot_is h t

  pub elsewhere_sound : t < 2 ^ 64 → Elsewhere r.slab (t / d % n) t (write r es t).slab
  elsewhere_sound ht =
      subst (λ (i : ℕ). Elsewhere r.slab i t (write r es t).slab) (slot_is h t) (elsewhere r es t (as_long h) (rw h.slots-is (slot_in h t)) ht)
