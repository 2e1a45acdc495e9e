-- The tiers of a schema among the rows. Row i is the row of its own schema and tier, and its schema's max series is its own; the row of schema k's tier j is
-- there, and it is of schema k and tier j. Record, query and consolidation go from a schema to its rows by this. Assumes nothing.
use Rattle.std.specs.Prelude.{ℕ, zero, suc, ◌+◌, ◌≤◌, ◌<◌, ◌≡◌, refl, ◌≢◌, ◌⊎◌, Bool, true, false, cond, eqb}
use Rattle.std.proofs.Common.{add-zero, ap, ◌∙◌, inl, inr}
use Rattle.std.proofs.Math.Nat.{zero-add}
use native.Mathlib.Omega.{arith}
use Rattle.std.proofs.Math.Decide.{ℕ_discrete}
use mathlib.Core.List.{List, [], ◌∷◌}
use Rattle.std.proofs.Math.ListN.{length}
use Rattle.model.specs.declared.Row.{Row}
use Rattle.model.specs.Image.{tier_check, schemas, row_count, row_at, rows_from, rows, keep_row, tiers_of, schema_check, layout_check}
use Rattle.model.specs.Lent.{Lent, tiers, first_row, row_no}
use Rattle.model.specs.Record.{series_of}
use Rattle.laws.specs.Tests.{yes_eq, no_eq, eq_is}
use Rattle.image_theory.specs.Rows.{length-rows}
use Rattle.image_theory.specs.Checks.{Shape, NextTier, NextSchema, follows-parts, schema_at, layout_parts}

-- row i + j is the first of schema k, of the rows from row i on
record First (k : ℕ) (s : List ℕ) (i n j : ℕ) : Type 0 where
  number : first_row k (rows_from s i n) ≡ j
  max-series : series_of (tiers_of k (rows_from s i n)) ≡ (row_at s (i + j)).series

first-is : (k : ℕ) (s : List ℕ) (i n j : ℕ) → j < n → (row_at s (i + j)).schema ≡ k → ((x : ℕ) → x < j → (row_at s (i + x)).schema ≢ k) → First k s i n j
unfolding first_row tiers_of rows_from keep_row series_of
first-is k s i zero j l h none = absurd (omega arith)
first-is k s i (suc n) zero l h none =
    let e : eqb (row_at s i).schema k ≡ true = ap (λ (x : ℕ). eqb x k) (rw add-zero at h) ∙ yes_eq k in
    record { number = rw e; max-series = rw (e, add-zero i) }
first-is k s i (suc n) (suc j) l h none =
    let e : eqb (row_at s i).schema k ≡ false = no_eq (row_at s i).schema k (rw add-zero at (none 0 (omega arith))) in
    let f : i + suc j ≡ suc i + j = omega arith in
    let r = first-is k s (suc i) n j (omega arith) (rw f at h) (λ x y. rw (move x) at (none (suc x) (omega arith))) in
    record { number = rw (e, r.number); max-series = rw (e, f) r.max-series }
  where
    move : (x : ℕ) → i + suc x ≡ suc i + x
    move x = omega arith

-- ---- every row

module _ (s : List ℕ) (p : Shape s) where
  -- schemas never fall
  next_schema : (i : ℕ) → suc i < row_count s → (row_at s i).schema ≤ (row_at s (suc i)).schema
  next_schema i l = go (follows-parts (row_at s i) (row_at s (suc i)) (p.follow i l))
    where
      go : NextTier (row_at s i) (row_at s (suc i)) ⊎ NextSchema (row_at s i) (row_at s (suc i)) → (row_at s i).schema ≤ (row_at s (suc i)).schema
      go (inl x) = omega (arith, x.same_schema_lem)
      go (inr x) = omega (arith, x.later)

  pub schema_le : (i j : ℕ) → i ≤ j → j < row_count s → (row_at s i).schema ≤ (row_at s j).schema
  schema_le i zero h l = let e : i ≡ 0 = omega arith in rw e (omega arith)
  schema_le i (suc j) h l = go (ℕ_discrete i (suc j)) (λ x. schema_le i j x (omega arith))
    where
      go : Dec (i ≡ suc j) → (i ≤ j → (row_at s i).schema ≤ (row_at s j).schema) → (row_at s i).schema ≤ (row_at s (suc j)).schema
      go (yes e) f = rw e (omega arith)
      go (no e) f = omega (arith, f (omega arith), next_schema j l)

  -- a row's number and its max series, found by its schema and tier
  pub record Own (i : ℕ) : Type 0 where
    pub number_is : first_row (row_at s i).schema (rows s) + (row_at s i).tier ≡ i
    pub series-is : series_of (tiers_of (row_at s i).schema (rows s)) ≡ (row_at s i).series

  -- the first row of its schema
  own_first : (i : ℕ) → i < row_count s → (row_at s i).tier ≡ 0 → ((x : ℕ) → x < i → (row_at s x).schema < (row_at s i).schema) → Own i
  unfolding rows
  own_first i l t before =
      let e = zero-add i in
      let f = first-is (row_at s i).schema s 0 (row_count s) i l (rw e) (λ x y. rw (zero-add x) (λ z. omega (arith, before x y))) in
      record { number_is = rw (f.number, t) (add-zero i); series-is = f.max-series ∙ rw e }

  pub own : (i : ℕ) → i < row_count s → Own i
  own zero l = own_first 0 l (p.first-tier l) (λ x y. absurd (omega arith))
  own (suc i) l = go (own i (omega arith)) (follows-parts (row_at s i) (row_at s (suc i)) (p.follow i l))
    where
      go : Own i → NextTier (row_at s i) (row_at s (suc i)) ⊎ NextSchema (row_at s i) (row_at s (suc i)) → Own (suc i)
      go o (inl x) = record {
        number_is = rw (← x.same_schema_lem, ← x.next-tier) (omega (arith, o.number_is));
        series-is = rw (← x.same_schema_lem, ← x.same-series) o.series-is;
      }
      go o (inr x) = own_first (suc i) l x.first_of (λ y z. omega (arith, schema_le y i (omega arith) (omega arith), x.later))

-- ---- every tier

-- with n rows from row i on, whose schemas never fall: tier j of schema k is j rows behind the first of schema k
tier-row-from : (k : ℕ) (s : List ℕ) (i n j : ℕ) → ((x y : ℕ) → i ≤ x → x ≤ y → y < i + n → (row_at s x).schema ≤ (row_at s y).schema)
    → j < length (tiers_of k (rows_from s i n)) → (first_row k (rows_from s i n) + j < n) × ((row_at s (i + (first_row k (rows_from s i n) + j))).schema ≡ k)
unfolding first_row tiers_of rows_from keep_row
tier-row-from k s i zero j up h = absurd (omega arith)
tier-row-from k s i (suc n) j up h =
    go j (λ j. tier-row-from k s (suc i) n j (λ x y a b c. up x y (omega arith) b (omega arith))) (eqb (row_at s i).schema k) refl h
  where
    f : ℕ
    f = first_row k (rows_from s (suc i) n)

    -- schema k goes on in the next row, if it has a later one
    next-is : (j : ℕ) → (row_at s i).schema ≡ k → f + j < n → (row_at s (suc i + (f + j))).schema ≡ k → f ≡ 0
    next-is j e l h =
        let a = up i (suc i) (omega arith) (omega arith) (omega arith) in
        let b = up (suc i) (suc i + (f + j)) (omega arith) (omega arith) (omega arith) in
        let c : (row_at s (suc i)).schema ≡ k = omega arith in
        (first-is k s (suc i) n 0 (omega arith) (rw add-zero c) (λ x y. absurd (omega arith))).number

    go : (j : ℕ) → ((j : ℕ) → j < length (tiers_of k (rows_from s (suc i) n)) → (f + j < n) × ((row_at s (suc i + (f + j))).schema ≡ k)) → (b : Bool)
        → eqb (row_at s i).schema k ≡ b
        → j < length (keep_row b (row_at s i) (tiers_of k (rows_from s (suc i) n))) → (cond b 0 (suc f) + j < suc n) × ((row_at s (i + (cond b 0 (suc f) + j))).schema ≡ k)
    go zero later true e l = (omega arith, ap (λ (x : ℕ). (row_at s x).schema) (add-zero i) ∙ eq_is (row_at s i).schema k e)
    go (suc j) later true e l =
        let r = later j (omega arith) in
        let z = next-is j (eq_is (row_at s i).schema k e) r.0 r.1 in
        let m : i + (0 + suc j) ≡ suc i + (f + j) = omega arith in
        (omega (arith, r.0), rw m r.1)
    go j later false e l =
        let r = later j l in
        let m : i + (suc f + j) ≡ suc i + (f + j) = omega arith in
        (omega (arith, r.0), rw m r.1)

module _ (s : List ℕ) (p : Shape s) where
  -- the row of schema k's tier j
  pub record TierRow (k j : ℕ) : Type 0 where
    pub there : first_row k (rows s) + j < row_count s
    pub schema_is : (row_at s (first_row k (rows s) + j)).schema ≡ k
    pub tier-is : (row_at s (first_row k (rows s) + j)).tier ≡ j
    pub series-is : series_of (tiers_of k (rows s)) ≡ (row_at s (first_row k (rows s) + j)).series

  pub tier-row : (k j : ℕ) → j < length (tiers_of k (rows s)) → TierRow k j
  tier-row k j h =
      let i = first_row k (rows s) + j in
      let t = found in
      let o = own s p i t.0 in
      record {
        there = t.0;
        schema_is = t.1;
        tier-is = omega (arith, rw t.1 at o.number_is);
        series-is = rw t.1 at o.series-is;
      }
    where
      found : (first_row k (rows s) + j < row_count s) × ((row_at s (first_row k (rows s) + j)).schema ≡ k)
      found = unfold rows in (rw zero-add at (tier-row-from k s 0 (row_count s) j (λ x y a b c. schema_le s p x y b (omega arith)) (unfold rows in h)))

  -- a schema that passes has a finest tier
  pub some_tier : layout_check tier_check s ≡ 0 → (k : ℕ) → k < schemas s → 0 < length (tiers_of k (rows s))
  unfolding schema_check
  some_tier h k l = go (tiers_of k (rows s)) (schema_at (rows s) 0 (schemas s) (layout_parts s h).0 k (omega arith) (omega arith))
    where
      go : (ts : List Row) → schema_check tier_check ts ≡ 0 → 0 < length ts
      go [] e = absurd (omega arith)
      go (t ∷ ts) e = omega arith

-- ---- a store of one schema

tiers-all : (k : ℕ) (s : List ℕ) (i n : ℕ) → ((j : ℕ) → i ≤ j → j < i + n → (row_at s j).schema ≡ k) → tiers_of k (rows_from s i n) ≡ rows_from s i n
unfolding tiers_of rows_from keep_row
tiers-all k s i zero h = refl
tiers-all k s i (suc n) h =
    let e : eqb (row_at s i).schema k ≡ true = ap (λ (x : ℕ). eqb x k) (h i (omega arith) (omega arith)) ∙ yes_eq k in
    rw (e, tiers-all k s (suc i) n (λ j p q. h j (omega arith) (omega arith)))

module _ (l : Lent) (p : Shape l.image) (one : schemas l.image ≡ 1) where
  pub schema_one : (i : ℕ) → i < row_count l.image → (row_at l.image i).schema ≡ 0
  schema_one i h = omega (arith, one, p.schema_low i h)

  -- its tiers are all rows, in order
  pub tiers-one : tiers l 0 ≡ rows l.image
  unfolding tiers rows
  tiers-one = tiers-all 0 l.image 0 (row_count l.image) (λ j a b. schema_one j (omega arith))

  pub length-one : length (tiers l 0) ≡ row_count l.image
  length-one = ap length tiers-one ∙ length-rows l.image

  first_one : 0 < row_count l.image → first_row 0 (rows l.image) ≡ 0
  unfolding rows
  first_one h = (first-is 0 l.image 0 (row_count l.image) 0 h (schema_one 0 h) (λ x y. absurd (omega arith))).number

  pub row_no-one : 0 < row_count l.image → (j : ℕ) → row_no l 0 j ≡ j
  unfolding row_no
  row_no-one h j = rw (first_one h) (zero-add j)

  pub series-one : (i : ℕ) → i < row_count l.image → series_of (tiers l 0) ≡ (row_at l.image i).series
  unfolding tiers
  series-one i h = rw (schema_one i h) at (own l.image p i h).series-is
