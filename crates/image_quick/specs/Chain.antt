-- Rows that each join the row before, schemas from 0 on without a gap: every schema's check passes. One pass over the rows can see this, where the check goes
-- schema by schema. Assumes nothing.
use Rattle.std.specs.Prelude.{◌≡◌, ℕ, zero, suc, ◌+◌, ◌<◌, ◌≤◌, true, ◌⊎◌, List, [], nat_eq, refl}
use Rattle.std.proofs.Common.{zero-add, arith, sym, ap, ◌∙◌, inl, inr}
use Rattle.std.proofs.Math.Decide.{ℕ_discrete}
use Rattle.model.specs.declared.Row.{Row}
use Rattle.model.specs.Image.{unless, first, row_at, rows_from, keep_row, tiers_of, tier_check, tier_checks, rising, schema_check, schema_checks}
use Rattle.laws.specs.Tests.{yes_lt, yes_eq, no_eq}

-- q right after p: the same schema, with a longer interval, or the first row of the next schema, with some series and no function
pub record SameSchema (p q : Row) : Type 0 where
  pub schema_is : q.schema ≡ p.schema
  pub longer : p.interval < q.interval

pub record NextSchema (p q : Row) : Type 0 where
  pub schema_is : q.schema ≡ suc p.schema
  pub no_function : q.function ≡ 0
  pub some_series : 0 < q.series

-- the rows from row i up to row e
pub record Chain (s : List ℕ) (i e : ℕ) : Type 0 where
  pub tier-passes : (j : ℕ) → i ≤ j → j < e → tier_check (row_at s j) ≡ 0
  pub joins : (j : ℕ) → i ≤ j → suc j < e → SameSchema (row_at s j) (row_at s (suc j)) ⊎ NextSchema (row_at s j) (row_at s (suc j))

later : {s : List ℕ} {i e : ℕ} → Chain s i e → Chain s (suc i) e
later c = record {
  tier-passes = λ j a b. c.tier-passes j (omega arith) b;
  joins = λ j a b. c.joins j (omega arith) b;
}

-- ---- rows of later schemas

never_falls : (s : List ℕ) (i k x : ℕ) → Chain s i (i + suc k) → x < (row_at s i).schema → tiers_of x (rows_from s i (suc k)) ≡ []
unfolding tiers_of rows_from keep_row
never_falls s i zero x c h = rw (no_eq (row_at s i).schema x (λ e. omega arith))
never_falls s i (suc k) x c h =
    let e : i + suc (suc k) ≡ suc i + suc k = omega arith in
    rw (no_eq (row_at s i).schema x (λ e. omega arith)) (never_falls s (suc i) k x (rw e at (later c)) (go (c.joins i (omega arith) (omega arith))))
  where
    go : SameSchema (row_at s i) (row_at s (suc i)) ⊎ NextSchema (row_at s i) (row_at s (suc i)) → x < (row_at s (suc i)).schema
    go (inl a) = omega (arith, a.schema_is)
    go (inr a) = omega (arith, a.schema_is)

-- ---- behind a row of schema x

record Behind (s : List ℕ) (x i k : ℕ) : Type 0 where
  rises : rising (row_at s i) (tiers_of x (rows_from s (suc i) k)) ≡ true
  tiers-pass : tier_checks tier_check (tiers_of x (rows_from s (suc i) k)) ≡ 0

behind : (s : List ℕ) (x i k : ℕ) → Chain s i (suc i + k) → (row_at s i).schema ≡ x → Behind s x i k
unfolding tiers_of rows_from keep_row rising tier_checks first
behind s x i zero c h = record { rises = refl; tiers-pass = refl }
behind s x i (suc k) c h =
    let e : suc i + suc k ≡ suc (suc i) + k = omega arith in
    go (c.joins i (omega arith) (omega arith)) (λ q. behind s x (suc i) k (rw e at (later c)) q)
  where
    c' : Chain s (suc i) (suc i + suc k)
    c' = later c

    go : SameSchema (row_at s i) (row_at s (suc i)) ⊎ NextSchema (row_at s i) (row_at s (suc i)) → ((row_at s (suc i)).schema ≡ x → Behind s x (suc i) k)
        → Behind s x i (suc k)
    go (inl a) more =
        let q : (row_at s (suc i)).schema ≡ x = a.schema_is ∙ h in
        let m = more q in
        let t : nat_eq (row_at s (suc i)).schema x ≡ true = ap (λ (y : ℕ). nat_eq y x) q ∙ yes_eq x in
        record {
          rises = rw (t, yes_lt (row_at s i).interval (row_at s (suc i)).interval a.longer) m.rises;
          tiers-pass = rw (t, c.tier-passes (suc i) (omega arith) (omega arith), m.tiers-pass);
        }
    go (inr a) more =
        let n : tiers_of x (rows_from s (suc i) (suc k)) ≡ [] = never_falls s (suc i) k x c' (omega (arith, a.schema_is)) in
        record { rises = ap (rising (row_at s i)) n; tiers-pass = ap (tier_checks tier_check) n }

-- ---- schema x, from a row of it or of an earlier schema on

first-row-passes : (s : List ℕ) (x i k : ℕ) → Chain s i (i + suc k) → (row_at s i).schema ≡ x → ((row_at s i).function ≡ 0) × (0 < (row_at s i).series) → schema_check tier_check (tiers_of x (rows_from s i (suc k))) ≡ 0
unfolding tiers_of rows_from keep_row schema_check first unless tier_checks
first-row-passes s x i k c h f =
    let e : i + suc k ≡ suc i + k = omega arith in
    let b = behind s x i k (rw e at c) h in
    let t : nat_eq (row_at s i).schema x ≡ true = ap (λ (y : ℕ). nat_eq y x) h ∙ yes_eq x in
    rw (t, yes_lt 0 (row_at s i).series f.1, c.tier-passes i (omega arith) (omega arith), b.tiers-pass, b.rises, f.0)

passes-from : (s : List ℕ) (x i k : ℕ) → Chain s i (i + suc k) → (row_at s i).schema ≤ x → ((row_at s i).schema ≡ x → ((row_at s i).function ≡ 0) × (0 < (row_at s i).series)) → x ≤ (row_at s (i + k)).schema
    → schema_check tier_check (tiers_of x (rows_from s i (suc k))) ≡ 0
passes-from s x i zero c h f l = let e : i + 0 ≡ i = omega arith in let q : (row_at s i).schema ≡ x = omega (arith, rw e at l) in first-row-passes s x i zero c q (f q)
passes-from s x i (suc k) c h f l =
    let e : i + suc (suc k) ≡ suc i + suc k = omega arith in
    let m : i + suc k ≡ suc i + k = omega arith in
    go (ℕ_discrete (row_at s i).schema x) (λ a b. passes-from s x (suc i) k (rw e at (later c)) a b (rw m at l))
  where
    go : Dec ((row_at s i).schema ≡ x)
        → ((row_at s (suc i)).schema ≤ x → ((row_at s (suc i)).schema ≡ x → ((row_at s (suc i)).function ≡ 0) × (0 < (row_at s (suc i)).series)) → schema_check tier_check (tiers_of x (rows_from s (suc i) (suc k))) ≡ 0)
        → schema_check tier_check (tiers_of x (rows_from s i (suc (suc k)))) ≡ 0
    go (yes q) more = first-row-passes s x i (suc k) c q (f q)
    go (no q) more = skip (next (c.joins i (omega arith) (omega arith)))
      where
        skip : schema_check tier_check (tiers_of x (rows_from s (suc i) (suc k))) ≡ 0 → schema_check tier_check (tiers_of x (rows_from s i (suc (suc k)))) ≡ 0
        skip r = skipped ∙ r
          where
            skipped : schema_check tier_check (tiers_of x (rows_from s i (suc (suc k)))) ≡ schema_check tier_check (tiers_of x (rows_from s (suc i) (suc k)))
            skipped = ap (schema_check tier_check) (unfold tiers_of rows_from keep_row in (rw (no_eq (row_at s i).schema x q)))

        next : SameSchema (row_at s i) (row_at s (suc i)) ⊎ NextSchema (row_at s i) (row_at s (suc i)) → schema_check tier_check (tiers_of x (rows_from s (suc i) (suc k))) ≡ 0
        next (inl a) = more (omega (arith, a.schema_is)) (λ z. absurd (q (sym a.schema_is ∙ z)))
        next (inr a) = more (omega (arith, a.schema_is)) (λ z. (a.no_function, a.some_series))

-- ---- all schemas

all_pass : (rs : List Row) (j k : ℕ) → ((x : ℕ) → j ≤ x → x < j + k → schema_check tier_check (tiers_of x rs) ≡ 0) → schema_checks tier_check j k rs ≡ 0
unfolding schema_checks first
all_pass rs j zero h = refl
all_pass rs j (suc k) h = rw (h j (omega arith) (omega arith), all_pass rs (suc j) k (λ x a b. h x (omega arith) (omega arith)))

-- rows 0 up to n, the first of schema 0, the last of schema k - 1
pub chain_passes : (s : List ℕ) (n k : ℕ) → Chain s 0 (suc n) → (row_at s 0).schema ≡ 0 → ((row_at s 0).function ≡ 0) × (0 < (row_at s 0).series) → k ≡ suc (row_at s n).schema → schema_checks tier_check 0 k (rows_from s 0 (suc n)) ≡ 0
chain_passes s n k c z f e =
    all_pass (rows_from s 0 (suc n)) 0 k (λ x a b. passes-from s x 0 n (rw zero-add c) (omega arith) (λ q. f) (rw zero-add (omega arith)))
