-- The fresh image of a plan that creation accepts: it is in good order if each max series fits its field, and it passes opening's checks only then. A plan of
-- bytes always does. The third demand's statement does not suppose bytes: where a max series is too large, every later call is refused, so that no list of
-- calls has a sample. Assumes nothing.
use Rattle.std.specs.Prelude.{ℕ, zero, suc, ◌+◌, ◌-◌, ◌*◌, ◌%◌, ◌^◌, ◌≤◌, ◌<◌, ◌≡◌, true, List, length}
use Rattle.std.proofs.Math.Nat.{zero-add, mod-lt, mod-le}
use Rattle.std.proofs.Common.{mod-eq_of_lt, mul-le-mul_left, ap, ◌∙◌, subst, lit<}
use native.Mathlib.Omega.{arith}
use Rattle.std.proofs.Math.Decide.{ℕ_discrete}
use Rattle.std.proofs.Math.Path.{refl, sym}
use Rattle.model.specs.declared.Row.{Row}
use Rattle.model.specs.Layout.{directory, stamps_behind, column_behind, column_at, slab_length}
use Rattle.model.specs.Image.{tier_check, schemas, row_count, total_length, row_place, row_at, rows_from, rows, row_slots, row_length, shape, blank, slabs_end, image_length, layout_check, plan_check, create_check, slab_of, sound, placed_row}
use Rattle.laws.specs.Tests.{le_is, and_left, and_right}
use Rattle.laws.specs.Checks.{each_zero, unless_zero}
use Rattle.laws.specs.Fresh.{fresh_of}
use Rattle.image_theory.specs.Rows.{slabs_end-suc}
use Rattle.image_theory.specs.Checks.{Shape, shape-parts, tier-low, TierOk, tiers_ok, layout_parts, plan_opens, Alike, Like, slabs_end_like, image_length_like, layout_like, shape_like, sound_of}
use Rattle.image_theory.specs.Good.{slab_start, start_suc, head-inside, start_high, Good}
use Rattle.fresh_theory.specs.FreshSlab.{suits_fresh}
use Rattle.fresh_theory.specs.ReadBack.{cut_row, made, low_back, total_back, zero_back, count_back, schemas_back, row-at_back, slab-at_back, length_back}

-- ---- what creation's check says

pub record Plan (p : List ℕ) : Type 0 where
  pub shape_is : Shape p
  pub blank-is : blank p ≡ true
  pub layout_is : layout_check tier_check p ≡ 0

pub plan-parts : (p buf : List ℕ) → create_check p buf ≡ 0 → Plan p × (image_length p ≤ length buf)
unfolding create_check plan_check
plan-parts p buf h =
    let z = each_zero _ h in
    let c = each_zero _ (z 0) in
    let d = unless_zero _ (c 0) in (
      record {
        shape_is = shape-parts p (and_left (shape p) (blank p) d);
        blank-is = and_right (shape p) (blank p) d;
        layout_is = plan_opens p (c 1);
      },
      le_is (image_length p) (length buf) (unless_zero _ (z 1)),
    )

-- q is the plan's row r with its slab at `at`, read back: only max series and hash may be too large for their fields
pub record Placed (q r : Row) (at : ℕ) : Type 0 where
  pub schema_is : q.schema ≡ r.schema
  pub tier-is : q.tier ≡ r.tier
  pub interval-is : q.interval ≡ r.interval
  pub retention_is : q.retention ≡ r.retention
  pub function_is : q.function ≡ r.function
  pub series-is : q.series ≡ r.series % 256 ^ 4
  pub offset_is : q.offset ≡ at
  pub len_is : q.len ≡ row_length r
  pub mark_is : q.mark ≡ 0
  pub hash_is : q.hash ≡ r.hash % 256 ^ 8

placed_cut : (r : Row) (at : ℕ) → r.schema < 2 ^ 32 → r.tier < 2 ^ 32 → r.interval < 2 ^ 64 → r.retention < 2 ^ 64 → r.function < 2 ^ 32
    → at < 2 ^ 64 → row_length r < 2 ^ 64 → Placed (cut_row (placed_row r at)) r at
unfolding cut_row placed_row
placed_cut r at a b c d e f g = record {
  schema_is = mod-eq_of_lt a;
  tier-is = mod-eq_of_lt b;
  interval-is = mod-eq_of_lt c;
  retention_is = mod-eq_of_lt d;
  function_is = mod-eq_of_lt e;
  series-is = refl;
  offset_is = mod-eq_of_lt f;
  len_is = mod-eq_of_lt g;
  mark_is = refl;
  hash_is = refl;
}

-- more series, a longer slab
slab_length_more : (n m k : ℕ) → k ≤ m → slab_length n k + 4 * (m - k) ≤ slab_length n m
unfolding slab_length column_at column_behind stamps_behind directory
slab_length_more n m k h = omega (arith, mul-le-mul_left n h)

pub plan-tier : (p : List ℕ) → Plan p → (i : ℕ) → i < row_count p → TierOk (row_at p i)
plan-tier p ok = tiers_ok p ok.shape_is ok.layout_is

module _ (p tail : List ℕ) (ok : Plan p) where
  small : image_length p ≤ 2 ^ 40
  small = (layout_parts p ok.layout_is).1

  -- each row, read back
  pub row_fresh : (i : ℕ) → i < row_count p → Placed (row_at (made p tail) i) (row_at p i) (slab_start p i)
  row_fresh i l =
      let s = ok.shape_is in
      let t = plan-tier p ok i l in
      subst (λ (q : Row). Placed q (row_at p i) (slab_start p i)) (sym (row-at_back p tail s.long i l))
      (placed_cut (row_at p i) (slab_start p i) (omega (arith, s.schema_low i l, s.few_schemas)) (omega (arith, tier-low p s i l, s.few_rows))
      (omega (arith, t.interval-low)) (omega (arith, t.retention_low)) (omega (arith, s.function_low i l)) (omega (arith, start_high p i l, small))
      (omega (arith, start_high p i l, small)))

  pub count-fresh : row_count (made p tail) ≡ row_count p
  count-fresh = count_back p tail ok.shape_is.long

  pub schemas-fresh : schemas (made p tail) ≡ schemas p
  schemas-fresh = schemas_back p tail ok.shape_is.long

  total_fresh : total_length (made p tail) ≡ image_length p
  total_fresh = total_back p tail ok.shape_is.long ∙ mod-eq_of_lt (omega (arith, small))

  slots-fresh : (i : ℕ) → i < row_count p → row_slots (row_at (made p tail) i) ≡ row_slots (row_at p i)
  unfolding row_slots
  slots-fresh i l = let q = row_fresh i l in rw (q.interval-is, q.retention_is)

  -- ---- the image's total length is right only if each max series fits

  -- how much shorter row i's slab is with its max series cut
  over : ℕ → ℕ
  over i = 4 * ((row_at p i).series - (row_at p i).series % 256 ^ 4)

  shorter : (i : ℕ) → i < row_count p → row_length (row_at (made p tail) i) + over i ≤ row_length (row_at p i)
  unfolding row_length over
  shorter i l = rw (slots-fresh i l, (row_fresh i l).series-is)
      (slab_length_more (row_slots (row_at p i)) (row_at p i).series ((row_at p i).series % 256 ^ 4) (mod-le (row_at p i).series (256 ^ 4)))

  -- where slab k would stand by the image's rows
  said : ℕ → ℕ
  said k = slabs_end (row_place (row_count p)) (rows_from (made p tail) 0 k)

  said_suc : (k : ℕ) → said (suc k) ≡ said k + row_length (row_at (made p tail) k)
  unfolding said
  said_suc k = rw zero-add at (slabs_end-suc (row_place (row_count p)) (made p tail) 0 k)

  said_le : (k : ℕ) → k ≤ row_count p → said k ≤ slab_start p k
  said_le zero h = unfold said rows_from slabs_end in (omega arith)
  said_le (suc k) h = omega (arith, said_suc k, start_suc p k, shorter k h, said_le k (omega arith))

  said_less : (i k : ℕ) → i < k → k ≤ row_count p → said k + over i ≤ slab_start p k
  said_less i zero h l = absurd (omega arith)
  said_less i (suc k) h l = go (ℕ_discrete i k) (λ x. said_less i k x (omega arith))
    where
      go : Dec (i ≡ k) → (i < k → said k + over i ≤ slab_start p k) → said (suc k) + over i ≤ slab_start p (suc k)
      go (yes e) f = rw e (omega (arith, said_suc k, start_suc p k, shorter k l, said_le k (omega arith)))
      go (no e) f = omega (arith, f (omega arith), said_suc k, start_suc p k, shorter k l)

  pub series-low : total_length (made p tail) ≡ image_length (made p tail) → (i : ℕ) → i < row_count p → (row_at p i).series < 2 ^ 32
  unfolding over
  series-low h i l =
      let e : said (row_count p) ≡ slab_start p (row_count p) = same in
      let g = said_less i (row_count p) l (omega arith) in
      let m : (row_at p i).series % 256 ^ 4 < 2 ^ 32 = mod-lt (row_at p i).series (lit< tt) in
      omega arith
    where
      same : said (row_count p) ≡ slab_start p (row_count p)
      same = length_said ∙ sym h ∙ total_fresh ∙ unfold image_length rows in refl
        where
          length_said : said (row_count p) ≡ image_length (made p tail)
          length_said = unfold image_length rows said in (rw count-fresh)

  -- ---- good order

  module _ (low : (i : ℕ) → i < row_count p → (row_at p i).series < 2 ^ 32) where
    alike : (i : ℕ) → i < row_count p → Alike (row_at (made p tail) i) (row_at p i)
    alike i l = let q = row_fresh i l in record {
      schema_is = q.schema_is;
      tier-is = q.tier-is;
      interval-is = q.interval-is;
      retention_is = q.retention_is;
      function_is = q.function_is;
      series-is = q.series-is ∙ mod-eq_of_lt (low i l);
    }

    pub like_fresh : Like (made p tail) p
    like_fresh = record { count-is = count-fresh; schemas-is = schemas-fresh; alike = alike }

    -- each slab is a fresh one
    pub slab-fresh : (i : ℕ) → i < row_count p → slab_of (made p tail) (row_at (made p tail) i) ≡ fresh_of (row_at p i)
    unfolding slab_of
    slab-fresh i l = let q = row_fresh i l in rw (q.offset_is, q.len_is) (slab-at_back p tail ok.shape_is.long i l)

    pub good-fresh : Good (made p tail)
    good-fresh =
        let s = ok.shape_is in
        let n = row_count p in
        record {
          shape_is = shape_like (made p tail) p like_fresh s (omega (arith, length_back p tail s.long, head-inside p))
              (low_back p tail s.long 4 0 (omega arith)) (low_back p tail s.long 4 4 (omega arith))
              (zero_back p tail s.long) (λ i l e. (row_fresh i (omega arith)).hash_is ∙ ap (λ (h : ℕ). h % 256 ^ 8) e
              ∙ sym (row_fresh (suc i) l).hash_is) (λ i l. rw (row_fresh i l).mark_is (lit< tt));
          layout_is = layout_like (made p tail) p like_fresh ∙ ok.layout_is;
          total_is = total_fresh ∙ sym (image_length_like (made p tail) p like_fresh);
          offset_is = λ i l. let b : i < n = rw count-fresh at l in
              (row_fresh i b).offset_is ∙ rw count-fresh (sym (slabs_end_like (made p tail) p like_fresh (row_place n) i (omega arith)));
          len_is = λ i l. let b : i < n = rw count-fresh at l in (row_fresh i b).len_is ∙ same_length i b;
          fits = rw (image_length_like (made p tail) p like_fresh) (length_back p tail s.long);
          sounds = λ i l. let b : i < n = rw count-fresh at l in ap (sound (row_at (made p tail) i)) (slab-fresh i b) ∙ sound-fresh i b;
        }
      where
        same_length : (i : ℕ) → i < row_count p → row_length (row_at p i) ≡ row_length (row_at (made p tail) i)
        same_length i l = unfold row_length in (rw (slots-fresh i l, (alike i l).series-is))

        sound-fresh : (i : ℕ) → i < row_count p → sound (row_at (made p tail) i) (fresh_of (row_at p i)) ≡ true
        sound-fresh i l =
            let r = row_at p i in
            let t = plan-tier p ok i l in
            sound_of (row_at (made p tail) i) (fresh_of r)
            (suits_fresh r.hash (row_slots r) r.series r.interval (omega (arith, t.few_slots)) (low i l) (omega (arith, t.interval-low)) (row_at (made p tail) i)
            (row_fresh i l).hash_is (slots-fresh i l) (alike i l).series-is (row_fresh i l).interval-is t.some_slots)
