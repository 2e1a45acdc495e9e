-- What the passed checks say, part by part, and back: the shape of header and rows, each tier, each slab's header; and that the layout's checks look at
-- no place, mark or hash of a row. Whoever meets a passed check reads its facts here; whoever changes an image shows them again here. Assumes nothing.
use Prim.Native.Nat.{ℕ, zero, suc, ◌+◌, ◌^◌, ◌≤◌, ◌<◌}
use Rattle.std.proofs.Common.{le-div_iff_mul-le, arith, sym, ap, ◌∙◌, subst, inl, inr}
use Rattle.std.proofs.Math.Decide.{ℕ_discrete}
use Rattle.std.specs.Prelude.{◌≡◌, ◌⊎◌, Bool, true, ◌&&◌, ◌||◌, length, leb, ltb, eqb}
use Rattle.std.proofs.Math.Path.{refl}
use Rattle.std.proofs.Math.Bool.{false, or-true}
use Rattle.std.proofs.lemmas.Bool.{false≢true}
use mathlib.Core.List.{List, [], ◌∷◌}
use Rattle.model.specs.declared.Row.{Row}
use Rattle.model.specs.Bytes.{get, u32, u64}
use Rattle.model.specs.Layout.{slot_count}
use Rattle.model.specs.Image.{first, schemas, row_count, row_place, row_at, rows_from, rows, row_slots, row_length, every, header, follows, orderly, row_shape}
use Rattle.model.specs.Image.{shape, keep_row, tiers_of, tier_check, new_tier_check, tier_checks, rising, schema_check, schema_checks, slabs_end, image_length, layout_check, sound_fields, sound}
use Rattle.model.specs.Ring.{slots, series, interval, cursor}
use Rattle.laws.specs.Tests.{yes_le, yes_lt, yes_eq, le_is, lt-is, eq_is, and_left, and_right, split3}
use Rattle.laws.specs.Checks.{all_zero, each_zero, unless_zero}
use Rattle.image_theory.specs.Rows.{every_of, every-at, orderly_of, orderly-at}

split7 : (a b c d e f g : Bool) → a && b && c && d && e && f && g ≡ true
    → (a ≡ true) × (b ≡ true) × (c ≡ true) × (d ≡ true) × (e ≡ true) × (f ≡ true) × (g ≡ true)
split7 a b c d e f g h =
    let x = and_left (a && b && c && d && e && f) g h in
    let y = and_left (a && b && c && d && e) f x in
    let u = split3 (a && b && c) d e y in
    let v = split3 a b c u.0 in
    (v.0, v.1, v.2, u.1, u.2, and_right (a && b && c && d && e) f x, and_right (a && b && c && d && e && f) g h)

-- ---- 1: the shape of header and rows

pub record Shape (s : List ℕ) : Type 0 where
  pub long : 32 ≤ length s
  pub magic_is : u32 s 0 ≡ 0x4f545352
  pub version_is : u32 s 4 ≡ 1
  pub some_schemas : 1 ≤ schemas s
  pub few_schemas : schemas s ≤ 8
  pub few_rows : row_count s ≤ 32
  pub zero_is : u64 s 24 ≡ 0
  pub head-fits : row_place (row_count s) ≤ length s
  pub first-tier : 0 < row_count s → (row_at s 0).tier ≡ 0
  pub follow : (i : ℕ) → suc i < row_count s → follows (row_at s i) (row_at s (suc i)) ≡ true
  pub schema_low : (i : ℕ) → i < row_count s → (row_at s i).schema < schemas s
  pub function_low : (i : ℕ) → i < row_count s → (row_at s i).function ≤ 6
  pub mark_low : (i : ℕ) → i < row_count s → (row_at s i).mark < 2 ^ 63

row-parts : (k : ℕ) (r : Row) → row_shape k r ≡ true → (ltb r.schema k ≡ true) × (leb r.function 6 ≡ true) × (ltb r.mark (2 ^ 63) ≡ true)
unfolding row_shape
row-parts k r h = split3 (ltb r.schema k) (leb r.function 6) (ltb r.mark (2 ^ 63)) h

pub shape-parts : (s : List ℕ) → shape s ≡ true → Shape s
unfolding shape header rows
shape-parts s h =
    let l = leb 32 (length s) in
    let hd = header (length s) (u32 s 0) (u32 s 4) (schemas s) (row_count s) (u64 s 24) in
    let od = orderly (rows_from s 0 (row_count s)) in
    let ev = every (row_shape (schemas s)) (rows_from s 0 (row_count s)) in
    let t = split3 l hd od (and_left (l && hd && od) ev h) in
    let k = split7 (eqb (u32 s 0) 0x4f545352) (eqb (u32 s 4) 1) (leb 1 (schemas s)) (leb (schemas s) 8) (leb (row_count s) 32) (eqb (u64 s 24) 0)
    (leb (row_place (row_count s)) (length s)) t.1 in
    let o = orderly-at s (row_count s) t.2 in
    record {
      long = le_is 32 (length s) t.0;
      magic_is = eq_is (u32 s 0) 0x4f545352 k.0;
      version_is = eq_is (u32 s 4) 1 k.1;
      some_schemas = le_is 1 (schemas s) k.2;
      few_schemas = le_is (schemas s) 8 k.3;
      few_rows = le_is (row_count s) 32 k.4;
      zero_is = eq_is (u64 s 24) 0 k.5;
      head-fits = le_is (row_place (row_count s)) (length s) k.6;
      first-tier = o.0;
      follow = o.1;
      schema_low = λ i l. lt-is (row_at s i).schema (schemas s) (parts i l).0;
      function_low = λ i l. le_is (row_at s i).function 6 (parts i l).1;
      mark_low = λ i l. lt-is (row_at s i).mark (2 ^ 63) (parts i l).2;
    }
  where
    parts : (i : ℕ) → i < row_count s → (ltb (row_at s i).schema (schemas s) ≡ true) × (leb (row_at s i).function 6 ≡ true) × (ltb (row_at s i).mark (2 ^ 63) ≡ true)
    parts i l =
        let a = leb 32 (length s) && header (length s) (u32 s 0) (u32 s 4) (schemas s) (row_count s) (u64 s 24) && orderly (rows_from s 0 (row_count s)) in
        let ev = and_right a (every (row_shape (schemas s)) (rows_from s 0 (row_count s))) h in
        row-parts (schemas s) (row_at s i) (every-at (row_shape (schemas s)) s 0 (row_count s) ev i (omega arith) (omega arith))

pub shape_of : (s : List ℕ) → Shape s → shape s ≡ true
unfolding shape header rows
shape_of s p =
    rw (
      p.magic_is,
      p.version_is,
      p.zero_is,
      yes_le 32 (length s) p.long,
      yes_le 1 (schemas s) p.some_schemas,
      yes_le (schemas s) 8 p.few_schemas,
      yes_le (row_count s) 32 p.few_rows,
      yes_le (row_place (row_count s)) (length s) p.head-fits,
      orderly_of s (row_count s) p.first-tier p.follow,
    )
    (every_of (row_shape (schemas s)) s 0 (row_count s) (λ j a l. row j (omega arith)))
  where
    row : (i : ℕ) → i < row_count s → row_shape (schemas s) (row_at s i) ≡ true
    row i l =
        let a = yes_lt (row_at s i).schema (schemas s) (p.schema_low i l) in
        let b = yes_le (row_at s i).function 6 (p.function_low i l) in
        unfold row_shape in (rw (a, b) (yes_lt (row_at s i).mark (2 ^ 63) (p.mark_low i l)))

-- what may stand right behind a row: the next tier of its schema, or tier 0 of a later schema
pub record NextTier (p q : Row) : Type 0 where
  pub same_schema_lem : p.schema ≡ q.schema
  pub next-tier : suc p.tier ≡ q.tier
  pub same-series : p.series ≡ q.series
  pub same_hash : p.hash ≡ q.hash

pub record NextSchema (p q : Row) : Type 0 where
  pub later : p.schema < q.schema
  pub first_of : q.tier ≡ 0

pub follows-parts : (p q : Row) → follows p q ≡ true → NextTier p q ⊎ NextSchema p q
unfolding follows
follows-parts p q h = go (eqb p.schema q.schema && eqb (suc p.tier) q.tier && eqb p.series q.series && eqb p.hash q.hash) refl h
  where
    go : (b : Bool) → eqb p.schema q.schema && eqb (suc p.tier) q.tier && eqb p.series q.series && eqb p.hash q.hash ≡ b
        → b || (ltb p.schema q.schema && eqb q.tier 0) ≡ true → NextTier p q ⊎ NextSchema p q
    go true e k =
        let x = split3 (eqb p.schema q.schema && eqb (suc p.tier) q.tier) (eqb p.series q.series) (eqb p.hash q.hash) e in
        inl (record {
          same_schema_lem = eq_is p.schema q.schema (and_left (eqb p.schema q.schema) (eqb (suc p.tier) q.tier) x.0);
          next-tier = eq_is (suc p.tier) q.tier (and_right (eqb p.schema q.schema) (eqb (suc p.tier) q.tier) x.0);
          same-series = eq_is p.series q.series x.1;
          same_hash = eq_is p.hash q.hash x.2;
        })
    go false e k = inr (record {
      later = lt-is p.schema q.schema (and_left (ltb p.schema q.schema) (eqb q.tier 0) k);
      first_of = eq_is q.tier 0 (and_right (ltb p.schema q.schema) (eqb q.tier 0) k);
    })

pub follows_of : (p q : Row) → NextTier p q ⊎ NextSchema p q → follows p q ≡ true
unfolding follows
follows_of p q (inl x) =
    rw (x.same_schema_lem, x.next-tier, x.same-series, x.same_hash, yes_eq q.schema, yes_eq q.tier, yes_eq q.series, yes_eq q.hash)
follows_of p q (inr x) =
    rw (x.first_of, yes_lt p.schema q.schema x.later)
    (or-true (eqb p.schema q.schema && eqb (suc p.tier) 0 && eqb p.series q.series && eqb p.hash q.hash))

-- a row may still follow another where schema, tier and max series stay, and hashes that agreed still agree
follows_keeps : (p q p' q' : Row) → p'.schema ≡ p.schema → q'.schema ≡ q.schema → p'.tier ≡ p.tier → q'.tier ≡ q.tier → p'.series ≡ p.series
    → q'.series ≡ q.series → (p.hash ≡ q.hash → p'.hash ≡ q'.hash) → follows p q ≡ true → follows p' q' ≡ true
follows_keeps p q p' q' a b c d e f h k = follows_of p' q' (go (follows-parts p q k))
  where
    go : NextTier p q ⊎ NextSchema p q → NextTier p' q' ⊎ NextSchema p' q'
    go (inl x) = inl (record {
      same_schema_lem = a ∙ x.same_schema_lem ∙ sym b;
      next-tier = ap suc c ∙ x.next-tier ∙ sym d;
      same-series = e ∙ x.same-series ∙ sym f;
      same_hash = h x.same_hash;
    })
    go (inr x) = inr (record { later = rw (a, b) x.later; first_of = d ∙ x.first_of })

-- tiers count up from 0
pub tier-low : (s : List ℕ) → Shape s → (i : ℕ) → i < row_count s → (row_at s i).tier ≤ i
tier-low s p zero l = omega (arith, p.first-tier l)
tier-low s p (suc i) l = go (tier-low s p i (omega arith)) (follows-parts (row_at s i) (row_at s (suc i)) (p.follow i l))
  where
    go : (row_at s i).tier ≤ i → NextTier (row_at s i) (row_at s (suc i)) ⊎ NextSchema (row_at s i) (row_at s (suc i)) → (row_at s (suc i)).tier ≤ suc i
    go h (inl x) = omega (arith, x.next-tier)
    go h (inr x) = omega (arith, x.first_of)

-- ---- 2 to 8: each tier

pub record TierOk (r : Row) : Type 0 where
  pub long : 0 < r.interval
  pub interval-low : r.interval < 2 ^ 63
  pub retention_low : r.retention < 2 ^ 63
  pub kept : r.interval ≤ r.retention
  pub some_slots : 0 < row_slots r
  pub few_slots : row_slots r ≤ 1_000_000_000

pub tier_ok : (r : Row) → tier_check r ≡ 0 → TierOk r
unfolding tier_check
tier_ok r h =
    let i = r.interval in
    let t = r.retention in
    let z = each_zero _ h in
    let c = split3 (ltb 0 i && ltb i (2 ^ 63) && ltb 0 t) (ltb t (2 ^ 63)) (leb i t) (unless_zero _ (z 0)) in
    let d = split3 (ltb 0 i) (ltb i (2 ^ 63)) (ltb 0 t) c.0 in
    let l : 0 < i = lt-is 0 i d.0 in
    let k : i ≤ t = le_is i t c.2 in
    record {
      long = l;
      interval-low = lt-is i (2 ^ 63) d.1;
      retention_low = lt-is t (2 ^ 63) c.1;
      kept = k;
      some_slots = slots_pos l k;
      few_slots = le_is (row_slots r) 1_000_000_000 (unless_zero _ (z 1));
    }
  where
    slots_pos : 0 < r.interval → r.interval ≤ r.retention → 0 < row_slots r
    slots_pos l k = unfold row_slots slot_count in ((le-div_iff_mul-le l).1 (omega arith))

kept_row : (b : Bool) (r : Row) (rs : List Row) → tier_checks tier_check (keep_row b r rs) ≡ 0 → (b ≡ true → tier_check r ≡ 0) × (tier_checks tier_check rs ≡ 0)
unfolding tier_checks keep_row
kept_row true r rs h = let z = each_zero _ h in (λ e. z 0, z 1)
kept_row false r rs h = (λ e. absurd (false≢true e), h)

-- a row of schema n is among the tiers of schema n
tier-at : (n : ℕ) (s : List ℕ) (i k : ℕ) → tier_checks tier_check (tiers_of n (rows_from s i k)) ≡ 0 → (j : ℕ) → i ≤ j → j < i + k → (row_at s j).schema ≡ n
    → tier_check (row_at s j) ≡ 0
unfolding tiers_of rows_from
tier-at n s i zero h j p q e = absurd (omega arith)
tier-at n s i (suc k) h j p q e =
    let a = kept_row (eqb (row_at s i).schema n) (row_at s i) (tiers_of n (rows_from s (suc i) k)) h in
    go (ℕ_discrete j i) a.0 (tier-at n s (suc i) k a.1 j)
  where
    go : Dec (j ≡ i) → (eqb (row_at s i).schema n ≡ true → tier_check (row_at s i) ≡ 0)
        → (suc i ≤ j → j < suc i + k → (row_at s j).schema ≡ n → tier_check (row_at s j) ≡ 0) → tier_check (row_at s j) ≡ 0
    go (yes z) here later = subst (λ (x : ℕ). tier_check (row_at s x) ≡ 0) (sym z)
        (here (ap (λ (x : ℕ). eqb (row_at s x).schema n) (sym z) ∙ ap (λ (x : ℕ). eqb x n) e ∙ yes_eq n))
    go (no z) here later = later (omega arith) (omega arith) e

pub schema_at : (rs : List Row) (j k : ℕ) → schema_checks tier_check j k rs ≡ 0 → (n : ℕ) → j ≤ n → n < j + k → schema_check tier_check (tiers_of n rs) ≡ 0
unfolding schema_checks
schema_at rs j zero h n p q = absurd (omega arith)
schema_at rs j (suc k) h n p q =
    let z = each_zero _ h in
    go (ℕ_discrete n j) (z 0) (schema_at rs (suc j) k (z 1) n)
  where
    go : Dec (n ≡ j) → schema_check tier_check (tiers_of j rs) ≡ 0 → (suc j ≤ n → n < suc j + k → schema_check tier_check (tiers_of n rs) ≡ 0) → schema_check tier_check (tiers_of n rs) ≡ 0
    go (yes z) here later = subst (λ (x : ℕ). schema_check tier_check (tiers_of x rs) ≡ 0) (sym z) here
    go (no z) here later = later (omega arith) (omega arith)

-- a schema that passes has tiers, a series, and tiers that pass
pub schema_parts : (r : Row) (rs : List Row) → schema_check tier_check (r ∷ rs) ≡ 0
    → (0 < r.series) × (tier_checks tier_check (r ∷ rs) ≡ 0) × (rising r rs ≡ true) × (r.function ≡ 0)
unfolding schema_check
schema_parts r rs h =
    let z = each_zero _ h in
    (lt-is 0 r.series (unless_zero _ (z 0)), z 1, unless_zero _ (z 2), eq_is r.function 0 (unless_zero _ (z 3)))

tiers-pass : (ts : List Row) → schema_check tier_check ts ≡ 0 → tier_checks tier_check ts ≡ 0
unfolding schema_check
tiers-pass [] h = absurd (omega arith)
tiers-pass (r ∷ rs) h = (schema_parts r rs h).1

pub layout_parts : (s : List ℕ) → layout_check tier_check s ≡ 0 → (schema_checks tier_check 0 (schemas s) (rows s) ≡ 0) × (image_length s ≤ 2 ^ 40)
unfolding layout_check
layout_parts s h =
    let z = each_zero _ h in
    (z 0, le_is (image_length s) (2 ^ 40) (unless_zero _ (z 1)))

-- where each tier that f passes g passes, each plan or image that f passes g passes
module _ {f g : Row → ℕ} (weaker : (r : Row) → f r ≡ 0 → g r ≡ 0) where
  tiers_weaker : (rs : List Row) → tier_checks f rs ≡ 0 → tier_checks g rs ≡ 0
  unfolding tier_checks
  tiers_weaker [] h = refl
  tiers_weaker (r ∷ rs) h = let z = each_zero _ h in all_zero _ (weaker r (z 0), (tiers_weaker rs (z 1), tt))

  schema_weaker : (rs : List Row) → schema_check f rs ≡ 0 → schema_check g rs ≡ 0
  unfolding schema_check
  schema_weaker [] h = h
  schema_weaker (r ∷ rs) h = let z = each_zero _ h in all_zero _ (z 0, (tiers_weaker (r ∷ rs) (z 1), (z 2, (z 3, tt))))

  schemas_weaker : (rs : List Row) (j k : ℕ) → schema_checks f j k rs ≡ 0 → schema_checks g j k rs ≡ 0
  unfolding schema_checks
  schemas_weaker rs j zero h = refl
  schemas_weaker rs j (suc k) h = let z = each_zero _ h in all_zero _ (schema_weaker (tiers_of j rs) (z 0), (schemas_weaker rs (suc j) k (z 1), tt))

  layout_weaker : (s : List ℕ) → layout_check f s ≡ 0 → layout_check g s ≡ 0
  unfolding layout_check
  layout_weaker s h = let z = each_zero _ h in all_zero _ (schemas_weaker (rows s) 0 (schemas s) (z 0), (z 1, tt))

-- what passes creation's check of its tiers passes opening's
pub plan_opens : (s : List ℕ) → layout_check new_tier_check s ≡ 0 → layout_check tier_check s ≡ 0
plan_opens s = layout_weaker new_tier s
  where
    new_tier : (r : Row) → new_tier_check r ≡ 0 → tier_check r ≡ 0
    new_tier r h = unfold new_tier_check in h

-- every row of an image or a plan that passes is a tier that passes
pub tiers_ok : (s : List ℕ) → Shape s → layout_check tier_check s ≡ 0 → (i : ℕ) → i < row_count s → TierOk (row_at s i)
unfolding rows
tiers_ok s p h i l =
    let n = (row_at s i).schema in
    let c = schema_at (rows_from s 0 (row_count s)) 0 (schemas s) (layout_parts s h).0 n (omega arith) (omega (arith, p.schema_low i l)) in
    tier_ok (row_at s i) (tier-at n s 0 (row_count s) (tiers-pass (tiers_of n (rows_from s 0 (row_count s))) c) i (omega arith) (omega arith) refl)

-- ---- the layout's checks look at no place, mark or hash

-- two rows that differ in these at the most
pub record Alike (p q : Row) : Type 0 where
  pub schema_is : p.schema ≡ q.schema
  pub tier-is : p.tier ≡ q.tier
  pub interval-is : p.interval ≡ q.interval
  pub retention_is : p.retention ≡ q.retention
  pub function_is : p.function ≡ q.function
  pub series-is : p.series ≡ q.series

-- a row without them
unfoldable sized : Row → Row
sized r = record {
  schema = r.schema;
  tier = r.tier;
  interval = r.interval;
  retention = r.retention;
  function = r.function;
  series = r.series;
  offset = 0;
  len = 0;
  mark = 0;
  hash = 0;
}

unfoldable sizes : List Row → List Row
sizes [] = []
sizes (r ∷ rs) = sized r ∷ sizes rs

sized-alike : (p q : Row) → Alike p q → sized p ≡ sized q
unfolding sized
sized-alike p q a = λ i. record {
  schema = a.schema_is i;
  tier = a.tier-is i;
  interval = a.interval-is i;
  retention = a.retention_is i;
  function = a.function_is i;
  series = a.series-is i;
  offset = 0;
  len = 0;
  mark = 0;
  hash = 0;
}

sizes-alike : (s t : List ℕ) (i k : ℕ) → ((j : ℕ) → i ≤ j → j < i + k → Alike (row_at s j) (row_at t j)) → sizes (rows_from s i k) ≡ sizes (rows_from t i k)
unfolding sizes rows_from
sizes-alike s t i zero h = refl
sizes-alike s t i (suc k) h =
    rw (sized-alike (row_at s i) (row_at t i) (h i (omega arith) (omega arith)), sizes-alike s t (suc i) k (λ j p q. h j (omega arith) (omega arith)))

tiers-sizes : (n : ℕ) (rs : List Row) → tiers_of n (sizes rs) ≡ sizes (tiers_of n rs)
unfolding tiers_of sizes sized
tiers-sizes n [] = refl
tiers-sizes n (r ∷ rs) = ap (keep_row (eqb r.schema n) (sized r)) (tiers-sizes n rs) ∙ go (eqb r.schema n)
  where
    go : (b : Bool) → keep_row b (sized r) (sizes (tiers_of n rs)) ≡ sizes (keep_row b r (tiers_of n rs))
    go true = unfold keep_row in refl
    go false = unfold keep_row in refl

tier_checks-sizes : (rs : List Row) → tier_checks tier_check (sizes rs) ≡ tier_checks tier_check rs
unfolding tier_checks sizes sized tier_check row_slots
tier_checks-sizes [] = refl
tier_checks-sizes (r ∷ rs) = ap (λ (x : ℕ). first (tier_check r ∷ x ∷ [])) (tier_checks-sizes rs)

rising-sizes : (p : Row) (rs : List Row) → rising (sized p) (sizes rs) ≡ rising p rs
unfolding rising sizes sized
rising-sizes p [] = refl
rising-sizes p (q ∷ rs) = ap (λ (b : Bool). ltb p.interval q.interval && b) (rising-sizes q rs)

schema_sizes : (rs : List Row) → schema_check tier_check (sizes rs) ≡ schema_check tier_check rs
unfolding schema_check sizes
schema_sizes [] = refl
schema_sizes (r ∷ rs) = rw (tier_checks-sizes (r ∷ rs), rising-sizes r rs) (unfold sized in refl)

schemas-sizes : (rs : List Row) (j k : ℕ) → schema_checks tier_check j k (sizes rs) ≡ schema_checks tier_check j k rs
unfolding schema_checks
schemas-sizes rs j zero = refl
schemas-sizes rs j (suc k) = rw (tiers-sizes j rs, schema_sizes (tiers_of j rs), schemas-sizes rs (suc j) k)

slabs_end-sizes : (at : ℕ) (rs : List Row) → slabs_end at (sizes rs) ≡ slabs_end at rs
unfolding slabs_end sizes sized row_length row_slots
slabs_end-sizes at [] = refl
slabs_end-sizes at (r ∷ rs) = slabs_end-sizes (at + row_length r) rs

-- t has s's rows, but for these
pub record Like (t s : List ℕ) : Type 0 where
  pub count-is : row_count t ≡ row_count s
  pub schemas-is : schemas t ≡ schemas s
  pub alike : (i : ℕ) → i < row_count s → Alike (row_at t i) (row_at s i)

-- slab i would stand at the same place
pub slabs_end_like : (t s : List ℕ) → Like t s → (at i : ℕ) → i ≤ row_count s → slabs_end at (rows_from t 0 i) ≡ slabs_end at (rows_from s 0 i)
slabs_end_like t s p at i h =
    sym (slabs_end-sizes at (rows_from t 0 i)) ∙ ap (slabs_end at) (sizes-alike t s 0 i (λ j a b. p.alike j (omega arith))) ∙ slabs_end-sizes at (rows_from s 0 i)

pub image_length_like : (t s : List ℕ) → Like t s → image_length t ≡ image_length s
unfolding image_length rows
image_length_like t s p = rw p.count-is (slabs_end_like t s p (row_place (row_count s)) (row_count s) (omega arith))

pub layout_like : (t s : List ℕ) → Like t s → layout_check tier_check t ≡ layout_check tier_check s
unfolding layout_check rows
layout_like t s p =
    let r = sizes-alike t s 0 (row_count s) (λ j a b. p.alike j (omega arith)) in
    let f = schema_checks tier_check 0 (schemas s) in
    let e : f (rows_from t 0 (row_count s)) ≡ f (rows_from s 0 (row_count s)) = sym (schemas-sizes (rows_from t 0 (row_count s)) 0 (schemas s)) ∙ ap f r
    ∙ schemas-sizes (rows_from s 0 (row_count s)) 0 (schemas s) in
    rw (image_length_like t s p, p.schemas-is, p.count-is, e)

-- the shape of t: s's header, hashes that agreed still agree, marks below 2^63
pub shape_like : (t s : List ℕ) → Like t s → Shape s → row_place (row_count s) ≤ length t → u32 t 0 ≡ u32 s 0 → u32 t 4 ≡ u32 s 4 → u64 t 24 ≡ 0
    → ((i : ℕ) → suc i < row_count s → (row_at s i).hash ≡ (row_at s (suc i)).hash → (row_at t i).hash ≡ (row_at t (suc i)).hash)
    → ((i : ℕ) → i < row_count s → (row_at t i).mark < 2 ^ 63) → Shape t
shape_like t s p h long magic version zeros hashes marks = record {
  long = omega (arith, header-long);
  magic_is = magic ∙ h.magic_is;
  version_is = version ∙ h.version_is;
  some_schemas = rw p.schemas-is h.some_schemas;
  few_schemas = rw p.schemas-is h.few_schemas;
  few_rows = rw p.count-is h.few_rows;
  zero_is = zeros;
  head-fits = rw p.count-is long;
  first-tier = λ l. let b : 0 < row_count s = rw p.count-is at l in (p.alike 0 b).tier-is ∙ h.first-tier b;
  follow = λ i l.
      let b : suc i < row_count s = rw p.count-is at l in
      let x = p.alike i (omega arith) in
      let y = p.alike (suc i) b in
      follows_keeps (row_at s i) (row_at s (suc i)) (row_at t i) (row_at t (suc i)) x.schema_is y.schema_is x.tier-is y.tier-is x.series-is
      y.series-is (hashes i b) (h.follow i b);
  schema_low = λ i l. let b : i < row_count s = rw p.count-is at l in rw (p.schemas-is, (p.alike i b).schema_is) (h.schema_low i b);
  function_low = λ i l. let b : i < row_count s = rw p.count-is at l in rw (p.alike i b).function_is (h.function_low i b);
  mark_low = λ i l. marks i (rw p.count-is at l);
}
  where
    header-long : 32 ≤ row_place (row_count s)
    header-long = unfold row_place in (omega arith)

-- ---- 10: a slab's header

-- a slab's header that suits its row
pub record Suits (r : Row) (b : List ℕ) : Type 0 where
  pub magic_is : u32 b 0 ≡ 0x4f444e52
  pub version_is : u32 b 4 ≡ 1
  pub hash_is : u64 b 8 ≡ r.hash
  pub slots-is : slots b ≡ row_slots r
  pub series-is : series b ≡ r.series
  pub interval-is : interval b ≡ r.interval
  pub cursor-low : cursor b < row_slots r

pub sound-parts : (r : Row) (b : List ℕ) → sound r b ≡ true → Suits r b
unfolding sound sound_fields slots series interval cursor
sound-parts r b h =
    let k = split7 (eqb (u32 b 0) 0x4f444e52) (eqb (u32 b 4) 1) (eqb (u64 b 8) r.hash) (eqb (u32 b 16) (row_slots r)) (eqb (u32 b 20) r.series)
    (eqb (u64 b 24) r.interval)
    (ltb (u32 b 32) (row_slots r)) h in
    record {
      magic_is = eq_is (u32 b 0) 0x4f444e52 k.0;
      version_is = eq_is (u32 b 4) 1 k.1;
      hash_is = eq_is (u64 b 8) r.hash k.2;
      slots-is = eq_is (u32 b 16) (row_slots r) k.3;
      series-is = eq_is (u32 b 20) r.series k.4;
      interval-is = eq_is (u64 b 24) r.interval k.5;
      cursor-low = lt-is (u32 b 32) (row_slots r) k.6;
    }

pub sound_of : (r : Row) (b : List ℕ) → Suits r b → sound r b ≡ true
unfolding sound sound_fields slots series interval cursor
sound_of r b p =
    rw (p.magic_is, p.version_is, p.hash_is, p.slots-is, p.series-is, p.interval-is, yes_eq r.hash, yes_eq (row_slots r), yes_eq r.series, yes_eq r.interval)
    (yes_lt (cursor b) (row_slots r) p.cursor-low)

-- the first 32 bytes and the cursor decide
pub sound_keeps : (r : Row) (b c : List ℕ) → ((w p : ℕ) → p + w ≤ 32 → get w c p ≡ get w b p) → cursor c < row_slots r → sound r b ≡ true → sound r c ≡ true
unfolding slots series interval
sound_keeps r b c h l s =
    let p = sound-parts r b s in
    sound_of r c (record {
      magic_is = h 4 0 (omega arith) ∙ p.magic_is;
      version_is = h 4 4 (omega arith) ∙ p.version_is;
      hash_is = h 8 8 (omega arith) ∙ p.hash_is;
      slots-is = h 4 16 (omega arith) ∙ p.slots-is;
      series-is = h 4 20 (omega arith) ∙ p.series-is;
      interval-is = h 8 24 (omega arith) ∙ p.interval-is;
      cursor-low = l;
    })
