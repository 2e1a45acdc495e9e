-- Two stores with one image, whose rings read alike: every query of a tier and every automatic one is answered alike, but for the place where the reader
-- stands. Assumes nothing.
use Prim.Native.Nat.{ℕ, zero, suc, ◌+◌, ◌≤◌, ◌<◌}
use Rattle.std.proofs.Common.{arith, sym, ap, ◌∙◌}
use Rattle.std.specs.Prelude.{◌≡◌, cond, length}
use Rattle.std.proofs.Math.Path.{refl}
use Rattle.model.specs.Image.{schemas, row_count}
use Rattle.model.specs.Ring.{oldest, newest}
use Rattle.model.specs.Read.{full, both_ends, points_of}
use Rattle.model.specs.Lent.{Lent, row, ring, tiers, row_no}
use Rattle.model.specs.Record.{series_of, handle_ok}
use Rattle.model.specs.Query.{query_check, auto_check, choose_from, choose, reader_on, answered, query_on, query, query_auto}
use Rattle.model.specs.Store.{read, read_or, shown}
use Rattle.ring_theory.proofs.Points.{reader_points}
use Rattle.image_theory.specs.Recorded.{handle_in}
use Rattle.image_theory.specs.Good.{Good}
use Rattle.image_theory.specs.Pairs.{slab_of_lem}
use Rattle.image_theory.specs.Tiers.{tier-row, some_tier}
use Rattle.query_theory.specs.Choice.{choice_in}
use Rattle.query_theory.proofs.Answer.{query_zero, auto_zero}
use Rattle.reopening_proved.proofs.Same.{Same}

-- what goes by the image alone: the rows' numbers, the checks
module _ (l l' : Lent) (img : l'.image ≡ l.image) where
  pub row_no_lem : (k j : ℕ) → row_no l' k j ≡ row_no l k j
  unfolding row_no
  row_no_lem k j = rw img

  pub query_check_lem : (k c j start end : ℕ) → query_check l' k c j start end ≡ query_check l k c j start end
  unfolding query_check handle_ok tiers
  query_check_lem k c j start end = rw img

  pub auto_check_lem : (k c start end : ℕ) → auto_check l' k c start end ≡ auto_check l k c start end
  unfolding auto_check handle_ok tiers
  auto_check_lem k c start end = rw img

-- the rings read alike
module _ (l l' : Lent) (img : l'.image ≡ l.image) (g : Good l.image) (same : (i : ℕ) → i < row_count l.image → Same (row l i).series (ring l' i) (ring l i)) where
  tiers_are : (k : ℕ) → tiers l' k ≡ tiers l k
  unfolding tiers
  tiers_are k = rw img

  -- tier j of schema k, with its columns
  module _ (k j : ℕ) (h : j < length (tiers l k)) where
    there : (row_no l k j < row_count l.image) × (series_of (tiers l k) ≡ (row l (row_no l k j)).series)
    unfolding row_no tiers row
    there = let t = tier-row l.image g.shape_is k j (unfold tiers in h) in (t.there, t.series-is)

    tier-same : Same (row l (row_no l k j)).series (ring l' (row_no l' k j)) (ring l (row_no l k j))
    tier-same = rw (row_no_lem l l' img k j) (same (row_no l k j) there.0)

  -- the answer of a tier
  answer_same : (k c j start end : ℕ) → c < series_of (tiers l k) → j < length (tiers l k)
      → shown (read (answered l' (row_no l' k j) c j start end)) ≡ shown (read (answered l (row_no l k j) c j start end))
  unfolding shown answered
  answer_same k c j start end hc hj =
      let s = tier-same k j hj in
      rw (s.oldest-is, s.newest-is, handed)
    where
      low : c < (row l (row_no l k j)).series
      low = rw (← (there k j hj).1) hc

      -- the other's slab is as good
      low' : c < (row l' (row_no l k j)).series
      low' = unfold row in (rw img (unfold row in low))

      handed : points_of (reader_on (ring l' (row_no l' k j)) c start end) ≡ points_of (reader_on (ring l (row_no l k j)) c start end)
      handed =
          let i = row_no l k j in
          rw (row_no_lem l l' img k j) (reader_points (ring l' i) (slab_of_lem l' (rw img g) i (rw img (there k j hj).0)) c start end low')
          ∙ (same i (there k j hj).0).points_are c start end low ∙ sym (reader_points (ring l i) (slab_of_lem l g i (there k j hj).0) c start end low)

  choose-from : (k start end n j best : ℕ) → j + n ≤ length (tiers l k) → choose_from l' k j n best start end ≡ choose_from l k j n best start end
  unfolding choose_from
  choose-from k start end zero j best h = refl
  choose-from k start end (suc n) j best h =
      let s = tier-same k j (omega arith) in
      rw (s.oldest-is, s.newest-is)
      (ap (cond (full (oldest (ring l (row_no l k j))) (newest (ring l (row_no l k j))) start end) j)
      (choose-from k start end n (suc j) (cond (both_ends (oldest (ring l (row_no l k j))) (newest (ring l (row_no l k j)))) j best) (omega arith)))

  choose-same : (k start end : ℕ) → choose l' k start end ≡ choose l k start end
  unfolding choose
  choose-same k start end = rw (tiers_are k) (choose-from k start end (length (tiers l k)) 0 0 (omega arith))

  some : (k : ℕ) → k < schemas l.image → 0 < length (tiers l k)
  unfolding tiers
  some k h = some_tier l.image g.shape_is g.layout_is k h

  -- a query that is not refused
  pub query-same : (k c j start end : ℕ) → query_check l k c j start end ≡ 0 → shown (read_or (query l' k c j start end)) ≡ shown (read_or (query l k c j start end))
  unfolding query
  query-same k c j start end e =
      let z = query_zero l k c j start end e in
      rw (query_check_lem l l' img k c j start end, e) (unfold query_on read_or in (answer_same k c j start end (handle_in l k c z.1).1 z.2))

  pub auto_same : (k c start end : ℕ) → auto_check l k c start end ≡ 0 → shown (read_or (query_auto l' k c start end)) ≡ shown (read_or (query_auto l k c start end))
  unfolding query_auto
  auto_same k c start end e =
      let o = handle_in l k c (auto_zero l k c start end e).1 in
      rw (auto_check_lem l l' img k c start end, choose-same k start end, e)
      (unfold query_on read_or in (answer_same k c (choose l k start end) start end o.1 (choice_in l k start end (some k o.0))))
