-- A mark stored in its row: the other rows stay, this one but for its mark, every slab stays, and the image stays in good order. Then the same of what a
-- call is lent. Consolidation stores a mark after each pair that it finished. Assumes nothing.
use Rattle.std.specs.Prelude.{ℕ, ◌+◌, ◌^◌, ◌≤◌, ◌<◌, ◌≡◌, ◌≢◌, true, List}
use native.Mathlib.Omega.{arith}
use Rattle.std.proofs.Math.Decide.{dec_lt, ℕ_discrete}
use Rattle.std.proofs.Math.Path.{refl, ap, subst}
use Rattle.std.proofs.Common.{sym, ◌∙◌}
use Rattle.std.proofs.Math.Bool.{false}
use Rattle.std.proofs.Math.ListN.{get_or}
use Rattle.model.specs.declared.Row.{Row}
use Rattle.model.specs.Bytes.{get, part, put, put64, bytes}
use Rattle.model.specs.Image.{schemas, row_count, row_place, mark_at, row_at, slab_of, sound}
use Rattle.model.specs.Lent.{Lent, row, ring}
use Rattle.model.specs.Consolidate.{with_mark}
use Rattle.laws.specs.Bytes.{Apart, before, behind, get-put, get-put-same, length-put, length-bytes, part-splice}
use Rattle.image_theory.specs.Rows.{row_at-splice}
use Rattle.image_theory.specs.Good.{Good, behind-head, set_mark, SameRows, count_kept, schemas-kept, slab-kept, good-kept}

-- ---- the image

-- s with the mark t in row i
abbrev pub marked : List ℕ → ℕ → ℕ → List ℕ
marked s i t = put64 s (mark_at i) t

module _ (s : List ℕ) (i t : ℕ) (g : Good s) (hi : i < row_count s) (low : t < 2 ^ 63) where
  inside : mark_at i + 16 ≤ row_place (row_count s)
  unfolding mark_at row_place
  inside = omega arith

  pub row_other : (j : ℕ) → j ≢ i → row_at (marked s i t) j ≡ row_at s j
  unfolding put
  row_other j ne = row_at-splice s (mark_at i) (bytes 8 t) j (subst (Apart (row_place j) 64 (mark_at i)) (sym (length-bytes 8 t)) (away (dec_lt j i)))
    where
      away : Dec (j < i) → Apart (row_place j) 64 (mark_at i) 8
      away (yes p) = unfold mark_at row_place in (before (omega arith))
      away (no p) = unfold mark_at row_place in (behind (omega arith))

  pub row_same : row_at (marked s i t) i ≡ set_mark (row_at s i) t
  unfolding row_at set_mark mark_at
  row_same =
      let r = row_place i in
      λ x. record {
        schema = below 4 r (omega arith) x;
        tier = below 4 (r + 4) (omega arith) x;
        interval = below 8 (r + 8) (omega arith) x;
        retention = below 8 (r + 16) (omega arith) x;
        function = below 4 (r + 24) (omega arith) x;
        series = below 4 (r + 28) (omega arith) x;
        offset = below 8 (r + 32) (omega arith) x;
        len = below 8 (r + 40) (omega arith) x;
        mark = get-put-same 8 s (mark_at i) t (omega (arith, inside, g.shape_is.head-fits)) (omega arith) x;
        hash = get-put 8 8 s (r + 56) (mark_at i) t (behind (omega arith)) x;
      }
    where
      below : (w p : ℕ) → p + w ≤ row_place i + 48 → get w (marked s i t) p ≡ get w s p
      below w p h = get-put w 8 s p (mark_at i) t (before (unfold mark_at in h))

  -- any row, but for its mark
  pub row_kept : (j : ℕ) → set_mark (row_at (marked s i t) j) 0 ≡ set_mark (row_at s j) 0
  row_kept j = go (ℕ_discrete j i)
    where
      go : Dec (j ≡ i) → set_mark (row_at (marked s i t) j) 0 ≡ set_mark (row_at s j) 0
      go (yes e) = subst (λ (j : ℕ). set_mark (row_at (marked s i t) j) 0 ≡ set_mark (row_at s j) 0) (sym e)
          (ap (λ (r : Row). set_mark r 0) row_same ∙ unfold set_mark in refl)
      go (no ne) = ap (λ (r : Row). set_mark r 0) (row_other j ne)

  pub kept_mark : SameRows (marked s i t) s
  kept_mark = record {
    long = length-put 8 s (mark_at i) t;
    header_is = λ w p h. get-put w 8 s p (mark_at i) t (before (omega (arith, behind-header)));
    row_is = λ j hj. row_kept j;
  }
    where
      behind-header : 32 ≤ mark_at i
      behind-header = unfold mark_at row_place in (omega arith)

  pub count_mark : row_count (marked s i t) ≡ row_count s
  count_mark = count_kept (marked s i t) s kept_mark

  pub schemas_mark : schemas (marked s i t) ≡ schemas s
  schemas_mark = schemas-kept (marked s i t) s kept_mark

  -- bytes behind the rows
  pub part_mark : (p w : ℕ) → row_place (row_count s) ≤ p → part (marked s i t) p w ≡ part s p w
  unfolding put
  part_mark p w h = part-splice (bytes 8 t) s p w (mark_at i) (subst (Apart p w (mark_at i)) (sym (length-bytes 8 t)) (behind (omega (arith, inside))))

  slab_stays : (j : ℕ) → j < row_count s → slab_of (marked s i t) (row_at s j) ≡ slab_of s (row_at s j)
  unfolding slab_of
  slab_stays j hj = part_mark (row_at s j).offset (row_at s j).len (behind-head s g j hj)

  pub slab_mark : (j : ℕ) → j < row_count s → slab_of (marked s i t) (row_at (marked s i t) j) ≡ slab_of s (row_at s j)
  slab_mark j hj = slab-kept (marked s i t) s kept_mark j hj ∙ slab_stays j hj

  pub good_mark : Good (marked s i t)
  good_mark = good-kept (marked s i t) s kept_mark g (λ j hj. go j hj (ℕ_discrete j i)) (λ j hj. ap (sound (row_at s j)) (slab_stays j hj) ∙ g.sounds j hj)
    where
      go : (j : ℕ) → j < row_count s → Dec (j ≡ i) → (row_at (marked s i t) j).mark < 2 ^ 63
      go j hj (yes e) = subst (λ (j : ℕ). (row_at (marked s i t) j).mark < 2 ^ 63) (sym e) (subst (λ (x : ℕ). x < 2 ^ 63) (sym (mark_is)) low)
        where
          mark_is : (row_at (marked s i t) i).mark ≡ t
          mark_is = ap (λ (r : Row). r.mark) row_same ∙ unfold set_mark in refl
      go j hj (no ne) = subst (λ (x : ℕ). x < 2 ^ 63) (sym (ap (λ (r : Row). r.mark) (row_other j ne))) (g.shape_is.mark_low j hj)

-- ---- what a call is lent

module _ (l : Lent) (i t : ℕ) (g : Good l.image) (hi : i < row_count l.image) (low : t < 2 ^ 63) where
  pub count-with_mark : row_count (with_mark true l i t).image ≡ row_count l.image
  unfolding with_mark
  count-with_mark = count_mark l.image i t g hi low

  pub schemas-with_mark : schemas (with_mark true l i t).image ≡ schemas l.image
  unfolding with_mark
  schemas-with_mark = schemas_mark l.image i t g hi low

  pub row-with_mark : row (with_mark true l i t) i ≡ set_mark (row l i) t
  unfolding with_mark row
  row-with_mark = row_same l.image i t g hi low

  pub row-with_mark-other : (j : ℕ) → j ≢ i → row (with_mark true l i t) j ≡ row l j
  unfolding with_mark row
  row-with_mark-other j ne = row_other l.image i t g hi low j ne

  pub ring-with_mark : (j : ℕ) → j < row_count l.image → ring (with_mark true l i t) j ≡ ring l j
  unfolding with_mark ring row
  ring-with_mark j hj = λ x. record { slab = slab_mark l.image i t g hi low j hj x; wrapped = get_or l.flags j false }

  pub good-with_mark : Good (with_mark true l i t).image
  unfolding with_mark
  good-with_mark = good_mark l.image i t g hi low
