-- The tiers of a plan as supposed: each interval is a whole number of the finer one's, the coarsest a whole number of each, and every ring but the
-- coarsest spans two coarsest intervals. So stamps, ticks and window numbers of all tiers go over into each other. Assumes nothing.
use Prim.Native.Nat.{ℕ, zero, suc, ◌+◌, ◌-◌, ◌*◌, ◌/◌, ◌≤◌, ◌<◌}
use Rattle.std.proofs.Math.Nat.{zero-mul, mul-div_cancel}
use Rattle.std.proofs.Common.{mul_assoc, mul-pos, mul-le-mul_right, le_of_mul-le-mul_right, sym, ◌∙◌}
use native.Mathlib.Omega.{arith}
use Rattle.std.proofs.Math.Decide.{dec_lt}
use Rattle.std.specs.Prelude.{◌≡◌, Bool, true, false, List, [], eqb}
use Rattle.std.proofs.Math.Path.{ap, subst}
use Rattle.model.specs.declared.Row.{Row}
use Rattle.model.specs.Image.{tier_check, schemas, row_count, row_at, rows_from, rows, row_slots, keep_row, tiers_of, schema_check, layout_check}
use Rattle.model.specs.Lent.{Lent, first_row}
use Rattle.image_theory.specs.Checks.{Shape, schema_at, schema_parts, layout_parts, tiers_ok}
use Rattle.image_theory.specs.Tiers.{schema_le, TierRow, tier-row, some_tier, series-one}
use Rattle.fresh_theory.specs.FreshImage.{plan-parts}
use Rattle.sample_theory.specs.Lists.{multiple}
use Rattle.demand_proved.specs.Stronger.{Planned}
use Rattle.demand_proved.specs.Values.{Ratios, tier_long}

abbrev pub coarsest_of : List ℕ → ℕ
coarsest_of p = (row_at p (row_count p - 1)).interval

-- so many intervals of tier k are one of tier k + 1, and so many are a coarsest one
unfoldable pub ratio : List ℕ → ℕ → ℕ
ratio p k = (row_at p (suc k)).interval / (row_at p k).interval

unfoldable pub per : List ℕ → ℕ → ℕ
per p k = coarsest_of p / (row_at p k).interval

-- rows that all average have no finest tier among them, which has no function: a schema's tiers would be refused
all_average : (k : ℕ) (s : List ℕ) (i n : ℕ) → ((j : ℕ) → i ≤ j → j < i + n → (row_at s j).function ≡ 1) → schema_check tier_check (tiers_of k (rows_from s i n)) ≡ 0 → ⊥
unfolding tiers_of rows_from keep_row
all_average k s i zero av h = unfold schema_check in (omega arith)
all_average k s i (suc n) av h = go (eqb (row_at s i).schema k) h (all_average k s (suc i) n (λ j x y. av j (omega arith) (omega arith)))
  where
    rest : List Row
    rest = tiers_of k (rows_from s (suc i) n)

    go : (b : Bool) → schema_check tier_check (keep_row b (row_at s i) rest) ≡ 0 → (schema_check tier_check rest ≡ 0 → ⊥) → ⊥
    go true c later = omega (arith, av i (omega arith) (omega arith), (schema_parts (row_at s i) rest c).3)
    go false c later = later c

module _ {p buf : List ℕ} (ok : Planned p buf) where
  shape_is : Shape p
  shape_is = (plan-parts p buf ok.accepted).0.shape_is

  layout_is : layout_check tier_check p ≡ 0
  layout_is = (plan-parts p buf ok.accepted).0.layout_is

  -- schema 0 has a tier, so the first row is one of it
  finest-row : TierRow p shape_is 0 0
  finest-row = tier-row p shape_is 0 0 (some_tier p shape_is layout_is 0 (omega (arith, shape_is.some_schemas)))

  pub some_rows : 0 < row_count p
  some_rows = omega (arith, finest-row.there)

  first_schema : (row_at p 0).schema ≡ 0
  first_schema =
      let z = schema_le p shape_is 0 (first_row 0 (rows p) + 0) (omega arith) finest-row.there in
      omega (arith, z, finest-row.schema_is)

  -- a second schema's tiers are among the other rows
  other-rows : (n : ℕ) → schema_check tier_check (tiers_of 1 (rows_from p 0 (suc n))) ≡ 0 → schema_check tier_check (tiers_of 1 (rows_from p 1 n)) ≡ 0
  unfolding tiers_of rows_from keep_row
  other-rows n c = rw first_schema at c

  -- and they all average: so there is one schema
  pub one_schema : schemas p ≡ 1
  unfolding rows
  one_schema = go (dec_lt 1 (schemas p))
    where
      average : (j : ℕ) → 1 ≤ j → j < row_count p → (row_at p j).function ≡ 1
      average j x y = let f : suc (j - 1) ≡ j = omega arith in subst (λ (i : ℕ). (row_at p i).function ≡ 1) f (ok.average (j - 1) (omega arith))

      go : Dec (1 < schemas p) → schemas p ≡ 1
      go (no ne) = omega (arith, shape_is.some_schemas)
      go (yes h) =
          let c = schema_at (rows p) 0 (schemas p) (layout_parts p layout_is).0 1 (omega arith) (omega arith) in
          let n = row_count p - 1 in
          let e : row_count p ≡ suc n = omega (arith, some_rows) in
          absurd (all_average 1 p 1 n (λ j x y. average j x (omega arith)) (other-rows n (subst (λ (m : ℕ). schema_check tier_check (tiers_of 1 (rows_from p 0 m)) ≡ 0) e c)))

  pub long : (k : ℕ) → k < row_count p → 0 < (row_at p k).interval
  long k h = (tiers_ok p shape_is layout_is k h).long

  pub next-interval : (k : ℕ) → suc k < row_count p → (row_at p (suc k)).interval ≡ ratio p k * (row_at p k).interval
  unfolding ratio
  next-interval k h = multiple (row_at p (suc k)).interval (row_at p k).interval (ok.whole k h)

  pub ratio_in : (k : ℕ) → suc k < row_count p → (0 < ratio p k) × (ratio p k ≤ 4096)
  ratio_in k h = (some (ratio p k) (next-interval k h), unfold ratio in (ok.most k h))
    where
      some : (r : ℕ) → (row_at p (suc k)).interval ≡ r * (row_at p k).interval → 0 < r
      some zero e = absurd (omega (arith, e ∙ zero-mul (row_at p k).interval, long (suc k) h))
      some (suc r) e = omega arith

  -- the coarsest interval in intervals of tier k, from the coarsest tier down
  record InIntervals (k : ℕ) : Type 0 where
    many : ℕ
    whole : coarsest_of p ≡ many * (row_at p k).interval
    some : 0 < many

  down : (j k : ℕ) → suc (k + j) ≡ row_count p → InIntervals k
  down zero k e =
      let f : row_count p - 1 ≡ k = omega arith in
      record { many = 1; whole = ap (λ (v : ℕ). (row_at p v).interval) f ∙ omega arith; some = omega arith }
  down (suc j) k e =
      let u = down j (suc k) (omega arith) in
      let h : suc k < row_count p = omega arith in
      record {
        many = u.many * ratio p k;
        whole = u.whole ∙ ap (λ (v : ℕ). u.many * v) (next-interval k h) ∙ sym (mul_assoc u.many (ratio p k) (row_at p k).interval);
        some = mul-pos u.some (ratio_in k h).0;
      }

  per-whole : (k : ℕ) (h : k < row_count p) (w : InIntervals k) → per p k ≡ w.many
  unfolding per
  per-whole k h w = ap (λ (v : ℕ). v / (row_at p k).interval) w.whole ∙ mul-div_cancel w.many (long k h)

  at : (k : ℕ) → k < row_count p → InIntervals k
  at k h = down (row_count p - suc k) k (omega arith)

  pub coarsest-is : (k : ℕ) → k < row_count p → coarsest_of p ≡ per p k * (row_at p k).interval
  coarsest-is k h = (at k h).whole ∙ ap (λ (v : ℕ). v * (row_at p k).interval) (sym (per-whole k h (at k h)))

  pub some_per : (k : ℕ) → k < row_count p → 0 < per p k
  some_per k h = rw (per-whole k h (at k h)) (at k h).some

  pub next-per : (k : ℕ) → suc k < row_count p → per p k ≡ per p (suc k) * ratio p k
  next-per k h = per-whole k (omega arith) (record {
    many = per p (suc k) * ratio p k;
    whole = coarsest-is (suc k) h ∙ ap (λ (v : ℕ). per p (suc k) * v) (next-interval k h) ∙ sym (mul_assoc (per p (suc k)) (ratio p k) (row_at p k).interval);
    some = mul-pos (some_per (suc k) h) (ratio_in k h).0;
  })

  pub span : (k : ℕ) → suc k < row_count p → 2 * per p k ≤ row_slots (row_at p k)
  span k h =
      let l : k < row_count p = omega arith in
      le_of_mul-le-mul_right {k = (row_at p k).interval}
      (subst (λ (v : ℕ). v ≤ row_slots (row_at p k) * (row_at p k).interval) (ap (λ (v : ℕ). 2 * v) (coarsest-is k l) ∙ sym (mul_assoc 2 (per p k) (row_at p k).interval)) (ok.spans k h)) (long k l)

  -- the finest interval is the least
  pub finest_least : (k : ℕ) → k < row_count p → (row_at p 0).interval ≤ (row_at p k).interval
  finest_least zero h = omega arith
  finest_least (suc k) h = omega (arith, finest_least k (omega arith), next-interval k h, mul-le-mul_right (row_at p k).interval (ratio_in k h).0)

  -- tier k in ticks
  pub interval-ticks : (k : ℕ) → k < row_count p → (row_at p k).interval ≡ tier_long (ratio p) k * (row_at p 0).interval
  unfolding tier_long
  interval-ticks zero h = omega arith
  interval-ticks (suc k) h =
      next-interval k h ∙ ap (λ (v : ℕ). ratio p k * v) (interval-ticks k (omega arith))
      ∙ swap (ratio p k) (tier_long (ratio p) k) (row_at p 0).interval
    where
      swap : (a b c : ℕ) → a * (b * c) ≡ b * a * c
      swap a b c = omega arith

  pub per-ticks : (k : ℕ) → k < row_count p → per p 0 ≡ per p k * tier_long (ratio p) k
  unfolding tier_long
  per-ticks zero h = omega arith
  per-ticks (suc k) h = per-ticks k (omega arith) ∙ rw (next-per k h) (swap (per p (suc k)) (ratio p k) (tier_long (ratio p) k))
    where
      swap : (a b c : ℕ) → a * b * c ≡ a * (c * b)
      swap a b c = omega arith

  pub ratios : (k : ℕ) → k < row_count p → Ratios (ratio p) k
  ratios k h j l = ratio_in j (omega arith)

  -- all rows have one max series
  pub series-same : (k : ℕ) → k < row_count p → (row_at p k).series ≡ (row_at p 0).series
  series-same k h =
      let l : Lent = record { image = p; flags = [] } in
      sym (series-one l shape_is one_schema k h) ∙ series-one l shape_is one_schema 0 (omega arith)
