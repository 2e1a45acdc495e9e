-- The pair of two adjacent rows: both slabs lie in the image, the source before the destination, alike in series; its job is the definition's. Assumes nothing.
use Prim.Native.Nat.{ℕ, suc, ◌+◌, ◌-◌, ◌*◌, ◌^◌, ◌≤◌, ◌<◌}
use native.Mathlib.Omega.{arith}
use native.Mathlib.Nat.{mul_comm, mul_assoc}
use mathlib.Core.Path.{◌≡◌, sym, ◌∙◌}
use mathlib.Core.Logic.{◌⊎◌, inl, inr}
use mathlib.Core.Bool.{Bool, false}
use mathlib.Core.List.{List}
use lib.ListN.{length, get_or}
use Rattle.model.specs.declared.ConsolidationFn.{ConsolidationFn}
use Rattle.model.specs.declared.Flags.{Flags}
use Rattle.model.specs.Bytes.{part}
use Rattle.model.specs.Layout.{slab_length, column_at, column_behind}
use Rattle.model.specs.Image.{row_count, row_place, row_at, row_slots, row_length, slab_of}
use Rattle.model.specs.Ring.{slots}
use Rattle.model.specs.Lent.{row, ring}
use Rattle.model.specs.Consolidate.{stamps_below}
use Rattle.model.specs.Consolidate as C
use Rattle.image_theory.specs.Checks.{NextTier, NextSchema, follows-parts, layout_parts}
use Rattle.image_theory.specs.Good.{Good, good_open, inside, slabs_apart}
use Rattle.ring.specs.Parts.{sized}
use Rattle.lookup.specs.declared.Slab.{Slab}
use Rattle.lookup.specs.Parts.{SlabAt}
use Rattle.window.specs.declared.Reading.{Reading}
use Rattle.pair_source.specs.Parts.{reading_of}
use Rattle.pair.specs.Parts.{Adjacent, PairAt}

abbrev pub RowSlab : List ℕ → ℕ → Slab → Type 0
RowSlab s i d = SlabAt s i d.from d.to d.sizes.slots d.sizes.series d.sizes.interval

-- ---- the rows

module _ (s : List ℕ) (i : ℕ) (h : Adjacent s i) where
  good : Good s
  good = good_open s h.opened

  pub row_inside : (j : ℕ) → j ≤ suc i → row_place j + 64 ≤ length s
  row_inside j l = omega (arith, good.shape_is.head-fits, ends)
    where
      ends : row_place j + 64 ≤ row_place (row_count s)
      ends = unfold row_place in (omega (arith, h.next_in))

  pub row_low : suc i < 32
  row_low = omega (arith, h.next_in, good.shape_is.few_rows)

  same-series : (row_at s i).series ≡ (row_at s (suc i)).series
  same-series = go (follows-parts (row_at s i) (row_at s (suc i)) (good.shape_is.follow i h.next_in))
    where
      go : NextTier (row_at s i) (row_at s (suc i)) ⊎ NextSchema (row_at s i) (row_at s (suc i)) → (row_at s i).series ≡ (row_at s (suc i)).series
      go (inl x) = x.same-series
      go (inr x) = absurd (omega (arith, x.later, h.same_schema_lem))

-- ---- a row's slab as a part of the image

pub slab-part : {s : List ℕ} {i : ℕ} {d : Slab} → RowSlab s i d → part s d.from (d.to - d.from) ≡ slab_of s (row_at s i)
unfolding slab_of
slab-part {s} {i} {d} h = let l : d.to - d.from ≡ (row_at s i).len = omega (arith, h.to_is) in rw (l, h.from_is)

-- the test of its stamps
pub stamps_part : {s : List ℕ} {i : ℕ} {d : Slab} → RowSlab s i d
    → stamps_below (part s d.from (d.to - d.from)) 0 d.sizes.slots ≡ stamps_below (slab_of s (row_at s i)) 0 (slots (slab_of s (row_at s i)))
stamps_part {s} {i} {d} h = rw (slab-part h, h.sound.slots-is)

-- cells of a slab are fewer than its bytes, and so at most 2^40
few_cells : (n m l : ℕ) → slab_length n m ≤ l → m * n ≤ l
unfolding slab_length column_at column_behind
few_cells n m l h = omega (arith, mul_comm m n, mul_assoc 8 n m)

module _ (s : List ℕ) (i : ℕ) (h : Adjacent s i) (flags : Flags) (f : ConsolidationFn) {d next : Slab} (a : RowSlab s i d) (b : RowSlab s (suc i) next) where
  here : i < row_count s
  here = omega (arith, h.next_in)

  apart : d.to ≤ next.from
  apart = omega (arith, a.from_is, a.to_is, b.from_is, slabs_apart s (good s i h) i here (suc i) (omega arith) h.next_in)

  few : d.sizes.series * d.sizes.slots ≤ 2 ^ 40
  few = few_cells d.sizes.slots d.sizes.series (2 ^ 40) (rw (a.slots-is, a.series-is) short)
    where
      short : slab_length (row_slots (row_at s i)) (row_at s i).series ≤ 2 ^ 40
      short = unfold row_length in
          (omega (arith, (good s i h).len_is i here, inside s (good s i h) i here, (layout_parts s (good s i h).layout_is).1))

  -- with what was read of the source
  pub pair-at : {w : Bool} {q : Reading} → w ≡ get_or flags.wrapped i false
      → q ≡ reading_of (part s d.from (d.to - d.from)) d.sizes.slots d.sizes.series w (row_at s i).mark f next.sizes.interval → q.end < 2 ^ 64
      → PairAt s flags i f (record { from = d.from; to = d.to; reading = q; dest = next })
  unfolding reading_of C.job_of ring row
  pair-at {w} {q} e k l = rw k (record {
    lies = record {
      source_forth = omega (arith, a.to_is);
      apart = apart;
      dest_forth = omega (arith, b.to_is);
      inside = b.inside;
      readable = record { sized = rw (slab-part a) (sized a.sound); some_long = b.some_interval };
      sound = rw (slab-part b) b.sound;
      some_interval = b.some_interval;
      end_low = rw k at l;
      same-series = b.series-is ∙ sym (same-series s i h) ∙ sym a.series-is;
    };
    job_is = rw (slab-part a, e, b.interval-is);
    dest_is = slab-part b;
    start_is = b.from_is;
    series-is = a.series-is;
    few = few;
  })
