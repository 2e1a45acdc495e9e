-- What each part of the quick pass has seen when it says "good", in terms of what it reads; and that all parts together are a pass. Assumes nothing.
use Rattle.std.specs.Prelude.{◌≡◌, ℕ, zero, suc, ◌+◌, ◌*◌, ◌/◌, ◌^◌, ◌<◌, ◌≤◌, List, length, slice_index, Option, Some, None}
use Rattle.std.proofs.Common.{mul-le-mul_right, le-div_iff_mul-le, div-lt_iff_lt-mul, add-one, ◌∙◌, inl, inr}
use native.Mathlib.Omega.{arith}
use Rattle.std.proofs.Math.Decide.{ℕ_discrete}
use Rattle.std.proofs.Math.Path.{refl, sym, ap}
use Rattle.model.specs.declared.Row.{Row}
use Rattle.model.specs.Bytes.{get, part, le}
use Rattle.model.specs.Layout.{slot_count, slab_length}
use Rattle.model.specs.Image.{schemas, row_count, total_length, row_place, row_at, rows_from, rows, row_slots, row_length, slabs_end, image_length, slab_of, open_check}
use Rattle.model.specs.Ring.{slots, series, interval, cursor}
use Rattle.laws.specs.Bytes.{get-part, get-suc}
use Rattle.image_theory.specs.Checks.{Suits}
use Rattle.image_theory.specs.Good.{slab_start, start_suc}
use Rattle.image_quick.specs.declared.Shared.{Shared}
use Rattle.image_quick.specs.Pass.{RowGood, Joins, Start, opens}

-- w is the two numbers that stand side by side at o
abbrev pub TwoAt : List ℕ → ℕ → ℕ → Type 0
TwoAt s o w = (w ≡ get 4 s o + 4_294_967_296 * get 4 s (o + 4)) × (get 4 s o < 4_294_967_296)

-- the header, but for the number of its rows
pub record Head (s : List ℕ) : Type 0 where
  pub long : 96 ≤ length s
  pub magic_is : get 4 s 0 ≡ 0x4f545352
  pub version_is : get 4 s 4 ≡ 1
  pub zero_is : get 8 s 24 ≡ 0
  pub head-low : 96 + 64 * row_count s ≤ total_length s
  pub total_low : total_length s ≤ 2 ^ 40
  pub fits : total_length s ≤ length s

-- ---- rows

-- p is what row i shares with the rows of its schema
pub record Known (s : List ℕ) (i : ℕ) (p : Shared) : Type 0 where
  pub series-is : p.series ≡ (row_at s i).series
  pub high_is : p.high ≡ 4_294_967_296 * p.series
  pub hash_is : p.hash ≡ (row_at s i).hash
  pub series-low : p.series < 4_294_967_296
  pub function_low : (row_at s i).function ≤ 6

-- what is promised where there is a value
abbrev pub IfGood : (Shared → Type 0) → Option Shared → Type 0
IfGood P (Some q) = P q
IfGood P None = Unit {0}

pub good-is : (P : Shared → Type 0) {x : Option Shared} {q : Shared} → x ≡ Some q → IfGood P x → P q
good-is P e h = rw e at h

-- and what follows from it
pub good-map : (P Q : Shared → Type 0) → ((q : Shared) → P q → Q q) → (x : Option Shared) → IfGood P x → IfGood Q x
good-map P Q f (Some q) h = f q h
good-map P Q f (None) h = h

-- row i is the first of schema k
pub record Begun (s : List ℕ) (i k : ℕ) (p : Shared) : Type 0 where
  pub start : Start k (row_at s i)
  pub known : Known s i p

-- row i + 1 has what row i shares, and a longer interval
pub record Followed (s : List ℕ) (i : ℕ) (q : Shared) : Type 0 where
  pub series-is : (row_at s (i + 1)).series ≡ (row_at s i).series
  pub hash_is : (row_at s (i + 1)).hash ≡ (row_at s i).hash
  pub longer : (row_at s i).interval < (row_at s (i + 1)).interval
  pub known : Known s (i + 1) q

-- row i + 1 joins row i
pub record Joined (s : List ℕ) (i : ℕ) (q : Shared) : Type 0 where
  pub joins : Joins (row_at s i) (row_at s (i + 1))
  pub known : Known s (i + 1) q

-- schema and tier of row i are no greater than i
pub record Early (s : List ℕ) (i : ℕ) : Type 0 where
  pub schema_low : (row_at s i).schema ≤ i
  pub tier-low : (row_at s i).tier ≤ i

-- row i is tier i of schema 0
pub record Only (s : List ℕ) (i : ℕ) : Type 0 where
  pub schema_is : (row_at s i).schema ≡ 0
  pub tier-is : (row_at s i).tier ≡ i

-- row i + 1 joins row i, and is tier i + 1 of schema 0
pub record NextTier (s : List ℕ) (i : ℕ) (q : Shared) : Type 0 where
  pub joined : Joined s i q
  pub only : Only s (i + 1)

-- row i is of the last schema
pub record Ends (s : List ℕ) (i : ℕ) : Type 0 where
  pub few_schemas : schemas s ≤ 8
  pub last-is : schemas s ≡ (row_at s i).schema + 1

-- ---- slabs

-- n slots of an interval with this upper half, and one more, hold less than 2^63 ns
abbrev pub Low : ℕ → ℕ → Type 0
Low n high = (d : ℕ) → d < 4_294_967_296 * high + 4_294_967_296 → n * d + d < 2 ^ 63

-- n slots of interval d are what retention r has, and all are far below 2^63
pub record Slotted (n d r : ℕ) : Type 0 where
  pub held : n * d ≤ r
  pub rest : r < n * d + d
  pub low : n * d + d < 2 ^ 63

-- the slab at `at` of s has the interval of row r, which has n slots
pub record Timed (s : List ℕ) (at : ℕ) (r : Row) (n : ℕ) : Type 0 where
  pub interval-is : get 8 s (at + 24) ≡ r.interval
  pub slotted : Slotted n r.interval r.retention

-- the slab at `at` of s is that of row r, which has m series and the hash h
pub record Slab (s : List ℕ) (at : ℕ) (r : Row) (m h : ℕ) : Type 0 where
  pub magic_is : get 4 s at ≡ 0x4f444e52
  pub version_is : get 4 s (at + 4) ≡ 1
  pub hash_is : get 8 s (at + 8) ≡ h
  pub series-is : get 4 s (at + 20) ≡ m
  pub few_slots : get 4 s (at + 16) < 134_217_728
  pub cursor-low : get 4 s (at + 32) < get 4 s (at + 16)
  pub length-is : r.len ≡ slab_length (get 4 s (at + 16)) m
  pub head_in : 64 ≤ r.len
  pub small : r.len < 2 ^ 63
  pub timed : Timed s at r (get 4 s (at + 16))

-- row i, with its slab at `at`
pub record Here (s : List ℕ) (i at : ℕ) : Type 0 where
  pub function_low : (row_at s i).function ≤ 6
  pub mark_low : (row_at s i).mark < 2 ^ 63
  pub offset_is : (row_at s i).offset ≡ at
  pub slab : Slab s at (row_at s i) (row_at s i).series (row_at s i).hash

-- row 0 is the first of schema 0, with its slab at `at`, and shares p
pub record Begins (s : List ℕ) (at : ℕ) (p : Shared) : Type 0 where
  pub begun : Begun s 0 0 p
  pub here : Here s 0 at

-- eight bytes are two numbers side by side
pub get-two : (s : List ℕ) (o : ℕ) → o + 4 ≤ length s → get 8 s o ≡ get 4 s o + 4_294_967_296 * get 4 s (o + 4)
get-two s o h =
    let four : (w : ℕ) → get (suc (suc (suc (suc w)))) s o ≡ slice_index s o + 256 * (slice_index s (suc o) + 256 * (slice_index s (suc (suc o)) + 256 * (slice_index s (suc (suc (suc o))) + 256 * get w s (suc (suc (suc (suc o))))))) =
    λ w. rw (get-suc (suc (suc (suc w))) s o (omega arith), get-suc (suc (suc w)) s (suc o) (omega arith), get-suc (suc w) s (suc (suc o)) (omega arith), get-suc w s (suc (suc (suc o))) (omega arith)) in
    let none : get 0 s (suc (suc (suc (suc o)))) ≡ 0 = unfold get part le in refl in
    let e : suc (suc (suc (suc o))) ≡ o + 4 = omega arith in
    omega (arith, four 4, four 0, none, ap (get 4 s) e)

-- n slots of interval d and a rest below d
slots_of : {n d r : ℕ} → Slotted n d r → r / d ≡ n
slots_of {n} {d} {r} h =
    let some : 0 < d = omega (arith, h.held, h.rest) in
    let above : r < suc n * d = omega (arith, h.rest) in
    omega (arith, (le-div_iff_mul-le some).1 h.held, (div-lt_iff_lt-mul some).1 above)

-- n rows, at least one
pub record JoinedUpTo (s : List ℕ) (n : ℕ) : Type 0 where
  pub starts : Start 0 (row_at s 0)
  pub joins : (i : ℕ) → suc i < n → Joins (row_at s i) (row_at s (suc i))
  pub ends : (i : ℕ) → suc i ≡ n → schemas s ≡ suc (row_at s i).schema

-- the joins of the first rows, up to row n
abbrev pub JoinsTo : List ℕ → ℕ → Type 0
JoinsTo s n = (i : ℕ) → i < n → Joins (row_at s i) (row_at s (suc i))

pub joins_none : (s : List ℕ) → JoinsTo s 0
joins_none s i h = absurd (omega arith)

pub joins_more : (s : List ℕ) (n : ℕ) → JoinsTo s n → Joins (row_at s n) (row_at s (n + 1)) → JoinsTo s (n + 1)
joins_more s n j h i l = go (ℕ_discrete i n)
  where
    go : Dec (i ≡ n) → Joins (row_at s i) (row_at s (suc i))
    go (yes e) = rw (e, ← add-one n) h
    go (no e) = j i (omega arith)

-- row 0, and the row after an early one
pub early-first : (s : List ℕ) → Start 0 (row_at s 0) → Early s 0
early-first s h = record { schema_low = omega (arith, h.schema_is); tier-low = omega (arith, h.tier-is) }

pub early_more : (s : List ℕ) (i : ℕ) → Early s i → Joins (row_at s i) (row_at s (i + 1)) → Early s (i + 1)
early_more s i e (inl a) = record { schema_low = omega (arith, a.schema_is, e.schema_low); tier-low = omega (arith, a.tier-is, e.tier-low) }
early_more s i e (inr a) = record { schema_low = omega (arith, a.schema_is, e.schema_low); tier-low = omega (arith, a.tier-is) }

-- row 0 is tier 0 of schema 0; a last row of schema 0, where one schema is
pub only_first : (s : List ℕ) → Start 0 (row_at s 0) → Only s 0
only_first s h = record { schema_is = h.schema_is; tier-is = h.tier-is }

pub only_ends : (s : List ℕ) (i : ℕ) → Only s i → schemas s ≡ 1 → Ends s i
only_ends s i h e = record { few_schemas = omega (arith, e); last-is = omega (arith, e, h.schema_is) }

-- with the last row i
pub joined-all : (s : List ℕ) (n i : ℕ) → Start 0 (row_at s 0) → JoinsTo s i → i + 1 ≡ n → schemas s ≡ (row_at s i).schema + 1 → JoinedUpTo s n
joined-all s n i st j e l = record {
  starts = st;
  joins = λ k h. j k (omega arith);
  ends = λ k h. let q : k ≡ i = omega arith in rw (q, ← add-one (row_at s i).schema) l;
}

-- the first n rows' slabs, which end at e
pub record Placed (s : List ℕ) (n e : ℕ) : Type 0 where
  pub end_is : e ≡ slab_start s n
  pub good : (i : ℕ) → i < n → RowGood s i

pub placed_none : (s : List ℕ) → Placed s 0 (32 + 64 * row_count s)
placed_none s = record { end_is = unfold row_place slabs_end rows_from in refl; good = λ i h. absurd (omega arith) }

module _ (s : List ℕ) (i at : ℕ) (p : Placed s i at) (h : Here s i at) where
  slab : Slab s at (row_at s i) (row_at s i).series (row_at s i).hash
  slab = h.slab

  slotted : Slotted (get 4 s (at + 16)) (row_at s i).interval (row_at s i).retention
  slotted = h.slab.timed.slotted

  slots_are : row_slots (row_at s i) ≡ get 4 s (at + 16)
  unfolding row_slots slot_count
  slots_are = slots_of slotted

  suits : Suits (row_at s i) (slab_of s (row_at s i))
  unfolding slab_of slots series interval cursor
  suits =
      let r = row_at s i in
      let k = slab.head_in in
      let word : (w q : ℕ) → q + w ≤ 64 → get w (part s r.offset r.len) q ≡ get w s (at + q) = λ w q l. get-part w s r.offset r.len q (omega arith) ∙ ap (λ (x : ℕ). get w s (x + q)) h.offset_is in
      let z : at + 0 ≡ at = omega arith in
      record {
        magic_is = word 4 0 (omega arith) ∙ rw z slab.magic_is;
        version_is = word 4 4 (omega arith) ∙ slab.version_is;
        hash_is = word 8 8 (omega arith) ∙ slab.hash_is;
        slots-is = word 4 16 (omega arith) ∙ sym slots_are;
        series-is = word 4 20 (omega arith) ∙ slab.series-is;
        interval-is = word 8 24 (omega arith) ∙ slab.timed.interval-is;
        cursor-low = rw (word 4 32 (omega arith), slots_are) slab.cursor-low;
      }

  length-is : (row_at s i).len ≡ row_length (row_at s i)
  unfolding row_length
  length-is = slab.length-is ∙ rw slots_are

  some_slot : (row_at s i).interval ≤ get 4 s (at + 16) * (row_at s i).interval
  some_slot = let one : 1 ≤ get 4 s (at + 16) = omega (arith, slab.cursor-low) in omega (arith, mul-le-mul_right (row_at s i).interval one)

  here-good : RowGood s i
  here-good =
      let a = slotted in
      record {
        some_interval = omega (arith, a.held, a.rest);
        interval-low = omega (arith, a.low);
        retention_low = omega (arith, a.rest, a.low);
        kept = omega (arith, some_slot, a.held);
        few_slots = rw slots_are (omega (arith, slab.few_slots));
        function_low = h.function_low;
        mark_low = h.mark_low;
        offset_is = h.offset_is ∙ p.end_is;
        len_is = length-is;
        suits = suits;
      }

  -- one row more
  pub placed_more : Placed s (i + 1) (at + (row_at s i).len)
  placed_more =
      let e : i + 1 ≡ suc i = omega arith in
      rw e (record {
        end_is = rw (p.end_is, length-is) (sym (start_suc s i));
        good = λ j l. go j l (ℕ_discrete j i);
      })
    where
      go : (j : ℕ) → j < suc i → Dec (j ≡ i) → RowGood s j
      go j l (yes q) = rw q here-good
      go j l (no q) = p.good j (omega arith)

-- ---- all parts

-- a number of rows that an image can have
abbrev pub Counted : ℕ → Type 0
Counted n = (0 < n) × (n ≤ 32)

pub record All (s : List ℕ) (n e : ℕ) : Type 0 where
  pub joined : JoinedUpTo s n
  pub few_schemas : schemas s ≤ 8
  pub placed : Placed s n e

-- with the last row i
pub all_are : (s : List ℕ) (n i e : ℕ) → Start 0 (row_at s 0) → JoinsTo s i → i + 1 ≡ n → Ends s i → Placed s (i + 1) e → All s n e
all_are s n i e st j k l p = record { joined = joined-all s n i st j k l.last-is; few_schemas = l.few_schemas; placed = rw k at p }

pub all-good : (s : List ℕ) (n : ℕ) → Head s → Counted n → n ≡ row_count s → All s n (total_length s) → open_check s ≡ 0
all-good s zero h k c a = absurd (omega (arith, k.0))
all-good s (suc n) h k c a = opens s n (record {
  long = omega (arith, h.long);
  magic_is = h.magic_is;
  version_is = h.version_is;
  few_schemas = a.few_schemas;
  count-is = sym c;
  few_rows = omega (arith, c, k.1);
  zero_is = h.zero_is;
  head-fits = unfold row_place in (omega (arith, h.head-low, h.fits));
  starts = a.joined.starts;
  joins = λ i l. a.joined.joins i (omega arith);
  ends = a.joined.ends n refl;
  good = λ i l. a.placed.good i (omega arith);
  total_is = total;
  total_low = omega (arith, total, h.total_low);
  fits = omega (arith, total, h.fits);
})
  where
    total : total_length s ≡ image_length s
    total = a.placed.end_is ∙ unfold image_length rows in (rw (← c))
