-- What stays fixed through a list of calls: the plan, its tiers in whole windows of each other, the used columns and the values that every tier takes; and
-- the store that belongs to it: in good order, its rows the plan's. Then a ring put back into its place, and a mark stored: the store still belongs to the set-up,
-- every other ring and mark stays. And an opening: the store belongs to it too, its marks are as they were and its rings
-- but for the flags. Assumes nothing.
use Rattle.std.specs.Prelude.{ℕ, zero, suc, ◌+◌, ◌-◌, ◌*◌, ◌/◌, ◌^◌, ◌≤◌, ◌<◌, min, ◌≡◌, ◌≢◌, Bool, true, false, length}
use Rattle.std.proofs.Common.{mul_assoc, mul-le-mul_right, div-mul-le_self, arith, sym, ◌∙◌}
use Rattle.std.proofs.Math.Path.{refl, ap}
use mathlib.Core.List.{List}
use Rattle.model.specs.declared.Row.{Row}
use Rattle.model.specs.declared.ConsolidationFn.TheVariants.{Average}
use Rattle.model.specs.Bytes.{get}
use Rattle.model.specs.Image.{schemas, row_count, row_at, row_slots, sound}
use Rattle.model.specs.Ring.{Ring, is_nan_bits, wrap_flag}
use Rattle.model.specs.Lent.{Lent, row, ring, with_ring, opening}
use Rattle.model.specs.Consolidate.{with_mark}
use Rattle.ring_theory.specs.Sound.{Sound}
use Rattle.ring_theory.specs.Hold.{State}
use Rattle.ring_theory.proofs.Hold.{state_opened}
use Rattle.pair_theory.specs.Answers.{patterns_of, answer_for}
use Rattle.pair_theory.specs.Fill.{Full, Given}
use Rattle.image_theory.specs.Checks.{Alike, Like, sound_keeps}
use Rattle.image_theory.specs.Good.{Good, length-sound, set_mark, count_kept, schemas-kept}
use Rattle.image_theory.specs.Frame.{row-with, ring-same, ring-other}
use Rattle.image_theory.specs.Mark.{row-with_mark, row-with_mark-other, ring-with_mark}
use Rattle.image_theory.specs.Stays.{Stays, stays_ring, stays_mark}
use Rattle.image_theory.specs.Calls.{opened_image, opened_flags, ring-opened}
use Rattle.sample_theory.specs.Schedule.{touched}

-- ---- what is fixed

pub record Setup : Type 0 where
  pub plan : List ℕ
  pub columns : ℕ
  -- the coarsest interval
  pub coarsest : ℕ
  -- the first sample's stamp is the start of this coarsest interval, and there are this many ticks at the most
  pub first : ℕ
  pub most : ℕ
  -- a coarsest interval is so many intervals of tier k, an interval of tier k + 1 is so many of tier k, and one of tier k so many ticks
  pub per : ℕ → ℕ
  pub ratio : ℕ → ℕ
  pub long : ℕ → ℕ
  pub is_used : ℕ → Bool
  -- the pattern of column c at tick q; and that of tier k, column c, interval number q, where e ticks are in: of those of its samples that are among them
  pub tick : ℕ → ℕ → ℕ
  pub value : ℕ → ℕ → ℕ → ℕ → ℕ
  pub some : 0 < row_count plan
  pub series-is : (k : ℕ) → k < row_count plan → (row_at plan k).series ≡ columns
  pub average : (k : ℕ) → suc k < row_count plan → (row_at plan (suc k)).function ≡ 1
  pub coarsest-is : (k : ℕ) → k < row_count plan → coarsest ≡ per k * (row_at plan k).interval
  pub next-interval : (k : ℕ) → suc k < row_count plan → (row_at plan (suc k)).interval ≡ ratio k * (row_at plan k).interval
  pub next-per : (k : ℕ) → suc k < row_count plan → per k ≡ per (suc k) * ratio k
  pub first-long : long 0 ≡ 1
  pub next-long : (k : ℕ) → suc k < row_count plan → long (suc k) ≡ long k * ratio k
  pub per-long : (k : ℕ) → k < row_count plan → per 0 ≡ per k * long k
  pub interval-long : (k : ℕ) → k < row_count plan → (row_at plan k).interval ≡ long k * (row_at plan 0).interval
  pub some_ratio : (k : ℕ) → suc k < row_count plan → 0 < ratio k
  pub some_per : (k : ℕ) → k < row_count plan → 0 < per k
  pub some_long : (k : ℕ) → k < row_count plan → 0 < long k
  pub span : (k : ℕ) → suc k < row_count plan → 2 * per k ≤ row_slots (row_at plan k)
  pub later : 0 < first
  pub low : (first * per 0 + most) * (row_at plan 0).interval < 2 ^ 63 + (row_at plan 0).interval
  pub value_tick : (e c q : ℕ) → value e 0 c q ≡ tick c q
  pub number : (e k c q : ℕ) → e ≤ most → k < row_count plan → c < columns → is_used c ≡ true → first * per k ≤ q → q < first * per k + touched (long k) e
      → is_nan_bits (value e k c q) ≡ false
  -- a window's value is the average of what the tier below has of it
  pub given : (e k c q : ℕ) → e ≤ most → suc k < row_count plan → c < columns → is_used c ≡ true → first * per (suc k) ≤ q → q < first * per (suc k) + touched (long (suc k)) e
      → Given (answer_for Average (patterns_of (value e k c) (q * ratio k) (min (first * per k + touched (long k) e) (suc q * ratio k) - q * ratio k))) (value e (suc k) c q)
  -- and changes no more once it is closed
  pub closed : (e f k c q : ℕ) → f ≤ e → k < row_count plan → suc q * long k ≤ first * per 0 + f → value e k c q ≡ value f k c q

abbrev pub tier_count : Setup → ℕ
tier_count S = row_count S.plan

abbrev pub interval_of : Setup → ℕ → ℕ
interval_of S k = (row_at S.plan k).interval

abbrev pub slots_of : Setup → ℕ → ℕ
slots_of S k = row_slots (row_at S.plan k)

-- the interval number of tier k's first window
abbrev pub first_no : Setup → ℕ → ℕ
first_no S k = S.first * S.per k

-- a ring of tier k that took its numbers of the first e ticks
abbrev pub Holds : Setup → Ring → ℕ → ℕ → Type 0
Holds S r k e = Full r S.is_used (S.value e k) (slots_of S k) S.columns (interval_of S k) (first_no S k) (touched (S.long k) e)

-- tier k of the store, as a run after e ticks leaves it
abbrev pub Tier : Setup → Lent → ℕ → ℕ → Type 0
Tier S l k e = Holds S (ring l k) k e

-- the mark of tier k then: its newest number's stamp
unfoldable pub mark_of : Setup → ℕ → ℕ → ℕ
mark_of S k zero = 0
mark_of S k (suc x) = (first_no S k + x / S.long k) * interval_of S k

-- it is no later than the tick's
pub newest-low : (S : Setup) (k x : ℕ) → k < tier_count S → x < S.most → (first_no S k + x / S.long k) * interval_of S k < 2 ^ 63
newest-low S k x h l =
    let a : first_no S k * S.long k ≡ S.first * S.per 0 = mul_assoc S.first (S.per k) (S.long k) ∙ ap (λ (v : ℕ). S.first * v) (sym (S.per-long k h)) in
    let b : (first_no S k + x / S.long k) * S.long k ≤ S.first * S.per 0 + x = omega (arith, a, div-mul-le_self x (S.long k)) in
    let c = mul-le-mul_right (interval_of S 0) b in
    let d : (first_no S k + x / S.long k) * interval_of S k ≡ (first_no S k + x / S.long k) * S.long k * interval_of S 0 =
    ap (λ (v : ℕ). (first_no S k + x / S.long k) * v) (S.interval-long k h) ∙ sym (mul_assoc (first_no S k + x / S.long k) (S.long k) (interval_of S 0)) in
    let t : suc (S.first * S.per 0 + x) * interval_of S 0 ≤ (S.first * S.per 0 + S.most) * interval_of S 0 = mul-le-mul_right (interval_of S 0) (omega arith) in
    omega (arith, c, d, t, S.low)

-- ---- a store that belongs to it

pub record Base (S : Setup) (l : Lent) : Type 0 where
  pub good : Good l.image
  pub like : Like l.image S.plan
  pub flags_are : tier_count S ≤ length l.flags
  pub one_schema : schemas l.image ≡ 1

module _ {S : Setup} {l : Lent} (b : Base S l) where
  -- a tier's row is there
  pub row_in : (k : ℕ) → k < tier_count S → k < row_count l.image
  row_in k h = rw b.like.count-is h

  pub interval_fixed : (k : ℕ) → k < tier_count S → (row l k).interval ≡ interval_of S k
  unfolding row
  interval_fixed k h = (b.like.alike k h).interval-is

  pub series_fixed : (k : ℕ) → k < tier_count S → (row l k).series ≡ S.columns
  unfolding row
  series_fixed k h = (b.like.alike k h).series-is ∙ S.series-is k h

  pub function_fixed : (k : ℕ) → k < tier_count S → (row l k).function ≡ (row_at S.plan k).function
  unfolding row
  function_fixed k h = (b.like.alike k h).function_is

  pub slots_fixed : (k : ℕ) → k < tier_count S → row_slots (row l k) ≡ slots_of S k
  unfolding row row_slots
  slots_fixed k h = let a = b.like.alike k h in rw (a.interval-is, a.retention_is)

-- what keeps header and rows, but for marks, keeps it so
alike_but_mark : (p q r : Row) → set_mark p 0 ≡ set_mark q 0 → Alike q r → Alike p r
unfolding set_mark
alike_but_mark p q r e a = record {
  schema_is = ap (λ (x : Row). x.schema) e ∙ a.schema_is;
  tier-is = ap (λ (x : Row). x.tier) e ∙ a.tier-is;
  interval-is = ap (λ (x : Row). x.interval) e ∙ a.interval-is;
  retention_is = ap (λ (x : Row). x.retention) e ∙ a.retention_is;
  function_is = ap (λ (x : Row). x.function) e ∙ a.function_is;
  series-is = ap (λ (x : Row). x.series) e ∙ a.series-is;
}

base_stays : {S : Setup} {l l' : Lent} → Base S l → Stays l l' → Base S l'
base_stays {S} {l} {l'} b h = record {
  good = h.good;
  like = record {
    count-is = count_kept l'.image l.image h.image_is ∙ b.like.count-is;
    schemas-is = schemas-kept l'.image l.image h.image_is ∙ b.like.schemas-is;
    alike = λ k x. alike_but_mark (row_at l'.image k) (row_at l.image k) (row_at S.plan k) (h.image_is.row_is k (row_in b k x)) (b.like.alike k x);
  };
  flags_are = rw h.flags_are b.flags_are;
  one_schema = schemas-kept l'.image l.image h.image_is ∙ b.one_schema;
}

-- ---- a ring put back

-- l' is l with r in place of ring k
pub record Put (S : Setup) (l : Lent) (k : ℕ) (r : Ring) (l' : Lent) : Type 0 where
  pub base : Base S l'
  pub there : ring l' k ≡ r
  pub elsewhere : (j : ℕ) → j < tier_count S → j ≢ k → ring l' j ≡ ring l j
  pub marks : (j : ℕ) → j < tier_count S → (row l' j).mark ≡ (row l j).mark

-- a sound slab of the tier's sizes, whose header is as it was
module _ {S : Setup} {l : Lent} (b : Base S l) (k : ℕ) (hk : k < tier_count S) (r : Ring) (s : Sound r.slab (slots_of S k) S.columns (interval_of S k))
    (same : (w p : ℕ) → p + w ≤ 32 → get w r.slab p ≡ get w (ring l k).slab p) where
  here : k < row_count l.image
  here = row_in b k hk

  sized : Sound r.slab (row_slots (row l k)) (row l k).series (row l k).interval
  sized = rw (slots_fixed b k hk, series_fixed b k hk, interval_fixed b k hk) s

  long : length r.slab ≡ (row l k).len
  unfolding row
  long = length-sound l.image b.good k here r.slab sized

  suits : sound (row l k) r.slab ≡ true
  suits = sound_keeps (row l k) (ring l k).slab r.slab same sized.cursor_in (unfold ring row in (b.good.sounds k here))

  pub put-ring : Put S l k r (with_ring l k r)
  put-ring = record {
    base = base_stays b (stays_ring l k r b.good here long suits);
    there = ring-same l k r b.good here long (omega (arith, b.flags_are));
    elsewhere = λ j h ne. ring-other l k r b.good here long j (row_in b j h) ne;
    marks = λ j h. ap (λ (x : Row). x.mark) (row-with l k r b.good here long j (row_in b j h));
  }

-- ---- a mark stored

-- l' is l with the mark t in row k
pub record Marked (S : Setup) (l : Lent) (k t : ℕ) (l' : Lent) : Type 0 where
  pub base : Base S l'
  pub rings : (j : ℕ) → j < tier_count S → ring l' j ≡ ring l j
  pub mark : (row l' k).mark ≡ t
  pub marks : (j : ℕ) → j ≢ k → (row l' j).mark ≡ (row l j).mark

pub put_mark : {S : Setup} {l : Lent} → Base S l → (k : ℕ) → k < tier_count S → (t : ℕ) → t < 2 ^ 63 → Marked S l k t (with_mark true l k t)
put_mark {S} {l} b k hk t low =
    let there = row_in b k hk in
    record {
      base = base_stays b (stays_mark l true k t b.good there low);
      rings = λ j h. ring-with_mark l k t b.good there low j (row_in b j h);
      mark = ap (λ (x : Row). x.mark) (row-with_mark l k t b.good there low) ∙ unfold set_mark in refl;
      marks = λ j ne. ap (λ (x : Row). x.mark) (row-with_mark-other l k t b.good there low j ne);
    }

-- ---- an opening: each ring has its flag worked out anew, which does as well

-- l opened, with these flags handed
abbrev pub again : Lent → List Bool → Lent
again l fs = opening (record { image = l.image; flags = fs })

module _ {S : Setup} {l : Lent} (b : Base S l) (fs : List Bool) where
  abbrev m : Lent
  m = record { image = l.image; flags = fs }

  pub base_again : Base S (again l fs)
  base_again =
      let e = opened_image m in
      record {
        good = rw e b.good;
        like = rw e b.like;
        flags_are = rw b.like.count-is at (opened_flags m b.good);
        one_schema = rw e b.one_schema;
      }

  pub ring-again : (k : ℕ) → k < tier_count S → ring (again l fs) k ≡ record { slab = (ring l k).slab; wrapped = wrap_flag (ring l k).slab }
  ring-again k h = ring-opened m b.good k (row_in b k h) ∙ unfold ring row in refl

  pub mark_again : (k : ℕ) → (row (again l fs) k).mark ≡ (row l k).mark
  unfolding row
  mark_again k = ap (λ (s : List ℕ). (row_at s k).mark) (opened_image m)
