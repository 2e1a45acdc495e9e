-- What one pass over header, rows and slab headers has seen when it says "all good", row by row, and that opening's check passes then. The pass goes by the
-- facts in its own order; the order of the refusals is the plain check's alone. Assumes nothing.
use Rattle.std.specs.Prelude.{◌≡◌, ℕ, zero, suc, ◌+◌, ◌-◌, ◌^◌, ◌<◌, ◌≤◌, true, ◌⊎◌, List, length}
use Rattle.std.proofs.Common.{arith, sym, inl, inr}
use Rattle.model.specs.declared.Row.{Row}
use Rattle.model.specs.Bytes.{u32, u64}
use Rattle.model.specs.Image.{unless, first, schemas, row_count, total_length, row_place, row_at, rows, row_slots, row_length, follows, tier_check, image_length, layout_check, slab_of, open_check}
use Rattle.laws.specs.Tests.{yes_le, yes_lt}
use Rattle.image_theory.specs.Checks.{follows_of, Suits, sound_of}
use Rattle.image_theory.specs.Good.{open_good, slab_start}
use Rattle.image_quick.specs.Chain.{SameSchema, NextSchema, Chain, chain_passes}

-- ---- one row

-- a row by itself, and its slab
pub record RowGood (s : List ℕ) (i : ℕ) : Type 0 where
  pub some_interval : 0 < (row_at s i).interval
  pub interval-low : (row_at s i).interval < 2 ^ 63
  pub retention_low : (row_at s i).retention < 2 ^ 63
  pub kept : (row_at s i).interval ≤ (row_at s i).retention
  pub few_slots : row_slots (row_at s i) ≤ 1_000_000_000
  pub function_low : (row_at s i).function ≤ 6
  pub mark_low : (row_at s i).mark < 2 ^ 63
  pub offset_is : (row_at s i).offset ≡ slab_start s i
  pub len_is : (row_at s i).len ≡ row_length (row_at s i)
  pub suits : Suits (row_at s i) (slab_of s (row_at s i))

-- a row after the row before it: the next tier, or the first of the next schema
pub record Tier (p q : Row) : Type 0 where
  pub schema_is : q.schema ≡ p.schema
  pub tier-is : q.tier ≡ suc p.tier
  pub series-is : q.series ≡ p.series
  pub hash_is : q.hash ≡ p.hash
  pub longer : p.interval < q.interval

pub record Start (k : ℕ) (q : Row) : Type 0 where
  pub schema_is : q.schema ≡ k
  pub tier-is : q.tier ≡ 0
  pub no_function : q.function ≡ 0
  pub some_series : 0 < q.series

abbrev pub Joins : Row → Row → Type 0
Joins p q = Tier p q ⊎ Start (suc p.schema) q

-- ---- all

pub record Pass (s : List ℕ) (n : ℕ) : Type 0 where
  pub long : 32 ≤ length s
  pub magic_is : u32 s 0 ≡ 0x4f545352
  pub version_is : u32 s 4 ≡ 1
  pub few_schemas : schemas s ≤ 8
  pub count-is : row_count s ≡ suc n
  pub few_rows : row_count s ≤ 32
  pub zero_is : u64 s 24 ≡ 0
  pub head-fits : row_place (row_count s) ≤ length s
  pub starts : Start 0 (row_at s 0)
  pub joins : (i : ℕ) → suc i < row_count s → Joins (row_at s i) (row_at s (suc i))
  pub ends : schemas s ≡ suc (row_at s n).schema
  pub good : (i : ℕ) → i < row_count s → RowGood s i
  pub total_is : total_length s ≡ image_length s
  pub total_low : image_length s ≤ 2 ^ 40
  pub fits : image_length s ≤ length s

tier-passes : (s : List ℕ) (i : ℕ) → RowGood s i → tier_check (row_at s i) ≡ 0
unfolding tier_check first unless
tier-passes s i g =
    let r = row_at s i in
    rw (
      yes_lt 0 r.interval g.some_interval,
      yes_lt r.interval (2 ^ 63) g.interval-low,
      yes_lt 0 r.retention (omega (arith, g.some_interval, g.kept)),
      yes_lt r.retention (2 ^ 63) g.retention_low,
      yes_le r.interval r.retention g.kept,
      yes_le (row_slots r) 1_000_000_000 g.few_slots,
    )

follows_join : (p q : Row) → Joins p q → follows p q ≡ true
follows_join p q (inl a) =
    follows_of p q (inl (record { same_schema_lem = sym a.schema_is; next-tier = sym a.tier-is; same-series = sym a.series-is; same_hash = sym a.hash_is }))
follows_join p q (inr a) = follows_of p q (inr (record { later = omega (arith, a.schema_is); first_of = a.tier-is }))

module _ (s : List ℕ) (n : ℕ) (p : Pass s n) where
  -- schemas never fall, and the last is the greatest
  schema_up : (k i : ℕ) → i + k < row_count s → (row_at s i).schema ≤ (row_at s (i + k)).schema
  schema_up zero i h = let e : i + 0 ≡ i = omega arith in rw e (omega arith)
  schema_up (suc k) i h = let e : i + suc k ≡ suc (i + k) = omega arith in rw e (go (p.joins (i + k) (omega arith)) (schema_up k i (omega arith)))
    where
      go : Joins (row_at s (i + k)) (row_at s (suc (i + k))) → (row_at s i).schema ≤ (row_at s (i + k)).schema → (row_at s i).schema ≤ (row_at s (suc (i + k))).schema
      go (inl a) l = omega (arith, a.schema_is)
      go (inr a) l = omega (arith, a.schema_is)

  schema_low : (i : ℕ) → i < row_count s → (row_at s i).schema < schemas s
  schema_low i h = let e : i + (n - i) ≡ n = omega (arith, p.count-is) in omega (arith, p.ends, rw e at (schema_up (n - i) i (omega (arith, p.count-is))))

  chain : Chain s 0 (suc n)
  chain = record {
    tier-passes = λ j a b. tier-passes s j (p.good j (rw p.count-is b));
    joins = λ j a b. go j (p.joins j (rw p.count-is b));
  }
    where
      go : (j : ℕ) → Joins (row_at s j) (row_at s (suc j)) → SameSchema (row_at s j) (row_at s (suc j)) ⊎ NextSchema (row_at s j) (row_at s (suc j))
      go j (inl a) = inl (record { schema_is = a.schema_is; longer = a.longer })
      go j (inr a) = inr (record { schema_is = a.schema_is; no_function = a.no_function; some_series = a.some_series })

  layout : layout_check tier_check s ≡ 0
  unfolding layout_check first unless rows
  layout = rw (p.count-is, chain_passes s n (schemas s) chain p.starts.schema_is (p.starts.no_function, p.starts.some_series) p.ends, yes_le (image_length s) (2 ^ 40) p.total_low)

  -- opening's check passes
  pub opens : open_check s ≡ 0
  opens = open_good s (record {
    shape_is = record {
      long = p.long;
      magic_is = p.magic_is;
      version_is = p.version_is;
      some_schemas = omega (arith, p.ends);
      few_schemas = p.few_schemas;
      few_rows = p.few_rows;
      zero_is = p.zero_is;
      head-fits = p.head-fits;
      first-tier = λ h. p.starts.tier-is;
      follow = λ i h. follows_join (row_at s i) (row_at s (suc i)) (p.joins i h);
      schema_low = schema_low;
      function_low = λ i h. (p.good i h).function_low;
      mark_low = λ i h. (p.good i h).mark_low;
    };
    layout_is = layout;
    total_is = p.total_is;
    offset_is = λ i h. (p.good i h).offset_is;
    len_is = λ i h. (p.good i h).len_is;
    fits = p.fits;
    sounds = λ i h. sound_of (row_at s i) (slab_of s (row_at s i)) (p.good i h).suits;
  })
