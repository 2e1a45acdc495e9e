-- What a passed check tells of the places that the code reads: a row within the slice, its slab with its sizes, as a part of the image; and the search for a schema's first row, one
-- turn at a time. Assumes nothing.
use Rattle.std.specs.Prelude.{Some, None}
use Prim.Native.Nat.{ℕ, zero, suc, ◌+◌, ◌-◌, ◌*◌, ◌≤◌, ◌<◌}
use native.Mathlib.Nat.{add-zero, zero-add, sub-zero}
use native.Mathlib.Numerals.{add-one}
use native.Mathlib.Omega.{arith}
use mathlib.Core.Path.{◌≡◌, refl, sym, ap, subst, ◌∙◌}
use mathlib.Core.Logic.{◌≢◌}
use mathlib.Core.Bool.{Bool, true, false, ◌&&◌, cond}
use mathlib.Core.List.{List}
use lib.Dec.{ltb, eqb}
use lib.ListN.{length, take, drop}
use borrow.Author.Tests.{eq-eqb, ne_eqb}
use Rattle.model.specs.declared.Row.{Row}
use Rattle.model.specs.Bytes.{get, part}
use Rattle.model.specs.Image.{schemas, row_count, row_place, row_at, rows_from, rows, row_slots, tiers_of, slab_of, open_check}
use Rattle.model.specs.Ring.{slots}
use Rattle.model.specs.Lent.{first_row}
use Rattle.model.specs.Record.{series_of}
use Rattle.laws.specs.Tests.{yes_lt, no_lt, lt-is, eq_is}
use Rattle.laws.specs.Bytes.{get-part}
use Rattle.ring_theory.specs.Sound.{Sound, header_in}
use Rattle.ring.specs.Parts.{Sized, sized}
use Rattle.image_theory.specs.Good.{Good, good_open, inside_slice, length-slab, slab-sound, tier_of_lem}
use Rattle.lookup.specs.Parts.{SlabAt, finest_of}
use Rattle.lookup.specs.Handle.{first_there, series_there}

module _ (s : List ℕ) (h : open_check s ≡ 0) where
  g : Good s
  g = good_open s h

  pub header_in_slice : 32 ≤ length s
  header_in_slice = g.shape_is.long

  pub few_rows : row_count s ≤ 32
  few_rows = g.shape_is.few_rows

  pub some_row : 0 < row_count s
  some_row = omega (arith, first_there s h 0 g.shape_is.some_schemas)

  pub row_in_slice : (i : ℕ) → i < row_count s → 32 + 64 * i + 64 ≤ length s
  row_in_slice i l = let f : 32 + 64 * row_count s ≤ length s = unfold row_place in g.shape_is.head-fits in omega arith

  -- ---- a row's slab

  module _ (i : ℕ) (hi : i < row_count s) where
    abbrev r : Row
    r = row_at s i

    -- the slab by the row's fields, as the code reads them
    pub slab-long : 64 ≤ get 8 s (row_place i + 40)
    unfolding row_at
    slab-long = let l = length-slab s g i hi in let k = header_in (slab-sound s g i hi) in omega arith

    pub slab-inside : get 8 s (row_place i + 32) + get 8 s (row_place i + 40) ≤ length s
    unfolding row_at
    slab-inside = inside_slice s g i hi

    slots_in : get 4 s (r.offset + 16) ≡ slots (slab_of s r)
    unfolding slots slab_of row_at
    slots_in = sym (get-part 4 s r.offset r.len 16 (omega (arith, slab-long)))

    pub slab-is : {from len n m d : ℕ} → d ≡ get 8 s (row_place i + 8) → m ≡ get 4 s (row_place i + 28) → from ≡ get 8 s (row_place i + 32)
        → len ≡ get 8 s (row_place i + 40) → n ≡ get 4 s (from + 16) → SlabAt s i from (from + len) n m d
    unfolding row_at
    slab-is {from} {len} {n} {m} {d} ed em ef el en =
        let a = slab-sound s g i hi in
        let es : n ≡ row_slots r = en ∙ ap (λ (x : ℕ). get 4 s (x + 16)) ef ∙ slots_in ∙ a.slots-is in
        record {
          from_is = ef;
          to_is = ap (λ (x : ℕ). from + x) el;
          inside = rw (ef, el) slab-inside;
          slots-is = es;
          series-is = em;
          interval-is = ed;
          some_interval = rw ed (tier_of_lem s g i hi).long;
          few_rows = omega (arith, few_rows);
          sound = rw (es, em, ed) a;
        }

-- the slab as a part of the image
module _ {s : List ℕ} {i from to n m d : ℕ} (h : SlabAt s i from to n m d) where
  pub starts-before : from ≤ to
  starts-before = omega (arith, h.to_is)

  pub part-is : take (to - from) (drop from s) ≡ slab_of s (row_at s i)
  unfolding slab_of part
  part-is = let e : to - from ≡ (row_at s i).len = omega (arith, h.to_is) in rw (e, h.from_is)

  pub part_sound : Sound (take (to - from) (drop from s)) n m d
  part_sound = rw part-is h.sound

  pub part-sized : Sized (take (to - from) (drop from s)) n m
  part-sized = sized part_sound

-- ---- the first row of a schema

-- row i of c: the search goes on, or ends
first_on : (s : List ℕ) (k i c : ℕ) → i < c → eqb (get 4 s (row_place i + 0)) k ≡ false → i + first_row k (rows_from s i (c - i)) ≡ i + 1 + first_row k (rows_from s (i + 1) (c - (i + 1)))
unfolding first_row rows_from row_at
first_on s k i c h e =
    let f : c - i ≡ suc (c - (i + 1)) = omega arith in
    let e' : eqb (get 4 s (row_place i)) k ≡ false = rw add-zero at e in
    rw (f, add-one i, e') (omega arith)

first-here : (s : List ℕ) (k i c : ℕ) → i < c → eqb (get 4 s (row_place i + 0)) k ≡ true → i + first_row k (rows_from s i (c - i)) ≡ i
unfolding first_row rows_from row_at
first-here s k i c h e =
    let f : c - i ≡ suc (c - (i + 1)) = omega arith in
    let e' : eqb (get 4 s (row_place i)) k ≡ true = rw add-zero at e in
    rw (f, e', add-zero)

first_past : (s : List ℕ) (k i c : ℕ) → c ≤ i → i + first_row k (rows_from s i (c - i)) ≡ i
unfolding first_row rows_from
first_past s k i c h = let f : c - i ≡ 0 = omega arith in rw (f, add-zero)

-- the search under way: the first row is the first of those from row i of c on
pub record Finding (s : List ℕ) (k c i : ℕ) : Type 0 where
  pub in_bounds : i ≤ c
  pub count-is : c ≡ row_count s
  pub same : i + first_row k (rows_from s i (c - i)) ≡ first_row k (rows s)

pub begins : (s : List ℕ) (k : ℕ) {c : ℕ} → c ≡ row_count s → Finding s k c 0
unfolding rows
begins s k e = record { in_bounds = omega arith; count-is = e; same = rw (e, sub-zero, zero-add) }

module _ {s : List ℕ} {k c i : ℕ} (r : Finding s k c i) where
  -- with row i's schema x
  module _ {x : ℕ} (h : i < c) (e : x ≡ get 4 s (row_place i + 0)) where
    pub goes_on : x ≢ k → Finding s k c (i + 1)
    goes_on f = record { in_bounds = omega arith; count-is = r.count-is; same = sym (first_on s k i c h (ne_eqb _ _ (λ z. f (e ∙ z)))) ∙ r.same }

    pub found : x ≡ k → i ≡ first_row k (rows s)
    found f = sym (first-here s k i c h (eq-eqb _ _ (sym e ∙ f))) ∙ r.same

  pub ends : c ≤ i → i ≡ first_row k (rows s)
  ends h = sym (first_past s k i c h) ∙ r.same

-- one that is found has the schema
first-has : (k : ℕ) (s : List ℕ) (i n : ℕ) → first_row k (rows_from s i n) < n → (row_at s (i + first_row k (rows_from s i n))).schema ≡ k
unfolding first_row rows_from
first-has k s i zero h = absurd (omega arith)
first-has k s i (suc n) h = go (first-has k s (suc i) n) (eqb (row_at s i).schema k) refl h
  where
    f : ℕ
    f = first_row k (rows_from s (suc i) n)

    go : (f < n → (row_at s (suc i + f)).schema ≡ k) → (b : Bool) → eqb (row_at s i).schema k ≡ b → cond b 0 (suc f) < suc n → (row_at s (i + cond b 0 (suc f))).schema ≡ k
    go later true e l = ap (λ (x : ℕ). (row_at s x).schema) (add-zero i) ∙ eq_is (row_at s i).schema k e
    go later false e l = let m : i + suc f ≡ suc i + f = omega arith in rw m (later (omega arith))

-- ---- the row of a handle's finest tier

module _ (s : List ℕ) (h : open_check s ≡ 0) (k c : ℕ) where
  -- no row has a schema that is out of bounds
  first-low : first_row k (rows s) < row_count s → k < schemas s
  unfolding rows
  first-low l =
      let e : (row_at s (first_row k (rows_from s 0 (row_count s)))).schema ≡ k = rw zero-add at (first-has k s 0 (row_count s) l) in
      subst (λ (x : ℕ). x < schemas s) e ((good_open s h).shape_is.schema_low (first_row k (rows_from s 0 (row_count s))) l)

  -- with the schema's first row i
  module _ (i : ℕ) (e : i ≡ first_row k (rows s)) where
    pub finest_none : row_count s ≤ i → finest_of s k c ≡ None
    unfolding finest_of
    finest_none l = go (ltb k (schemas s)) refl
      where
        go : (b : Bool) → ltb k (schemas s) ≡ b → cond (b && ltb c (series_of (tiers_of k (rows s)))) (Some (first_row k (rows s))) None ≡ None
        go true p = absurd (omega (arith, first_there s h k (lt-is k (schemas s) p)))
        go false p = refl

    -- and its max series m
    module _ (m : ℕ) (l : i < row_count s) (f : m ≡ get 4 s (row_place i + 28)) where
      low : k < schemas s
      low = first-low (rw e at l)

      series-is : series_of (tiers_of k (rows s)) ≡ m
      unfolding row_at
      series-is = series_there s h k low ∙ rw (f, e)

      pub finest_wide : m ≤ c → finest_of s k c ≡ None
      unfolding finest_of
      finest_wide w = rw (yes_lt k (schemas s) low, series-is, no_lt c m w)

      pub finest-at : c < m → finest_of s k c ≡ Some i
      unfolding finest_of
      finest-at w = rw (yes_lt k (schemas s) low, series-is, yes_lt c m w, e)
