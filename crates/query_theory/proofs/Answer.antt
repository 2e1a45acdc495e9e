-- What an accepted query answers: its points are those of the tier's ring, each once, in reading order; an accepted query_auto covers the range in full exactly
-- if some tier does, and no finer one does. Assumes nothing.
use Prim.Native.Nat.{ℕ, zero, suc, ◌+◌, ◌≤◌, ◌<◌}
use Rattle.std.proofs.Common.{arith, ◌∙◌}
use Rattle.std.specs.Prelude.{◌≡◌, refl, true, false, length}
use Rattle.std.proofs.Math.Path.{ap}
use Rattle.model.specs.Image.{rows, tiers_of, open_check}
use Rattle.model.specs.Read.{full, points_of}
use Rattle.model.specs.Lent.{Lent, ring, row, row_no, tiers, first_row}
use Rattle.model.specs.Record.{series_of, handle_ok}
use Rattle.model.specs.Query.{Answered, found, query_check, auto_check, choose, answered, query_on, query, query_auto}
use Rattle.laws.specs.Tests.{lt-is}
use Rattle.laws.specs.Checks.{each_zero, unless_zero}
use Rattle.ring_theory.specs.Points.{points}
use Rattle.ring_theory.proofs.Points.{reader_points}
use Rattle.image_theory.specs.Recorded.{handle_in}
use Rattle.image_theory.specs.Good.{good_open, slab-sound}
use Rattle.image_theory.specs.Tiers.{tier-row, some_tier}
use Rattle.query_theory.specs.Choice.{covers, choice_in, some_covers, none_finer}

-- ---- what a query says by not being refused

pub query_zero : (l : Lent) (k c j start end : ℕ) → query_check l k c j start end ≡ 0 → (open_check l.image ≡ 0) × (handle_ok l k c ≡ true) × (j < length (tiers l k))
unfolding query_check
query_zero l k c j start end e =
    let z = each_zero _ e in
    (z 0, unless_zero _ (z 1), lt-is j (length (tiers l k)) (unless_zero _ (z 2)))

pub auto_zero : (l : Lent) (k c start end : ℕ) → auto_check l k c start end ≡ 0 → (open_check l.image ≡ 0) × (handle_ok l k c ≡ true)
unfolding auto_check
auto_zero l k c start end e =
    let z = each_zero _ e in
    (z 0, unless_zero _ (z 1))

-- ---- what it answers

module _ (l : Lent) (k c start end : ℕ) where
  -- an answer is that of the tier's row, and the check has passed
  found_is : (n j : ℕ) {a : Answered} → query_on n l k c j start end ≡ found a → (n ≡ 0) × (a ≡ answered l (row_no l k j) c j start end)
  unfolding query_on
  found_is zero j e = (refl, cc)
  found_is (suc n) j e = (cc, cc)

  module _ (h : open_check l.image ≡ 0) (ok : handle_ok l k c ≡ true) where
    -- the points of tier j's reader
    tier-points : (j : ℕ) → j < length (tiers l k) → points_of (answered l (row_no l k j) c j start end).reader ≡ points (ring l (row_no l k j)) c start end
    unfolding answered row_no tiers ring row
    tier-points j p =
        let g = good_open l.image h in
        let t = tier-row l.image g.shape_is k j p in
        let i = first_row k (rows l.image) + j in
        let in_schema : c < series_of (tiers_of k (rows l.image)) = (handle_in l k c ok).1 in
        reader_points (ring l i) (slab-sound l.image g i t.there) c start end (rw t.series-is at in_schema)

  -- ---- query

  module _ (j : ℕ) {a : Answered} (e : query l k c j start end ≡ found a) where
    pub query_found : (query_check l k c j start end ≡ 0) × (a ≡ answered l (row_no l k j) c j start end)
    unfolding query
    query_found = found_is (query_check l k c j start end) j e

    pub query-points : points_of a.reader ≡ points (ring l (row_no l k j)) c start end
    query-points =
        let z = query_zero l k c j start end query_found.0 in
        ap (λ (b : Answered). points_of b.reader) query_found.1 ∙ tier-points z.0 z.1 j z.2

  -- ---- query_auto

  module _ {a : Answered} (e : query_auto l k c start end ≡ found a) where
    auto_found : (auto_check l k c start end ≡ 0) × (a ≡ answered l (row_no l k (choose l k start end)) c (choose l k start end) start end)
    unfolding query_auto
    auto_found = found_is (auto_check l k c start end) (choose l k start end) e

    pub auto_tier : a.tier ≡ choose l k start end
    unfolding answered
    auto_tier = ap (λ (b : Answered). b.tier) auto_found.1

    passed : (open_check l.image ≡ 0) × (handle_ok l k c ≡ true)
    passed = auto_zero l k c start end auto_found.0

    -- the schema has a tier, so the chosen one is there
    pub auto_there : a.tier < length (tiers l k)
    auto_there =
        let g = good_open l.image passed.0 in
        let some : 0 < length (tiers l k) = unfold tiers in (some_tier l.image g.shape_is g.layout_is k (handle_in l k c passed.1).0) in
        rw auto_tier (choice_in l k start end some)

    pub auto_points : points_of a.reader ≡ points (ring l (row_no l k a.tier)) c start end
    auto_points =
        ap (λ (b : Answered). points_of b.reader) auto_found.1
        ∙ tier-points passed.0 passed.1 (choose l k start end) (rw auto_tier at auto_there)
        ∙ rw auto_tier

    -- the answer covers the range in full if the chosen tier does
    pub auto_covers : full a.oldest a.newest start end ≡ covers l k start end a.tier
    unfolding answered
    auto_covers = ap (λ (b : Answered). full b.oldest b.newest start end) auto_found.1 ∙ rw auto_tier

    -- and some tier covers it only then; the answer's tier is no coarser
    pub auto_full : (j : ℕ) → j < length (tiers l k) → covers l k start end j ≡ true → (full a.oldest a.newest start end ≡ true) × (a.tier ≤ j)
    auto_full j p q =
        let r = some_covers l k start end j p q in
        (auto_covers ∙ rw auto_tier r.0, rw auto_tier r.1)

    -- no finer tier covers it
    pub auto_finest : (j : ℕ) → j < a.tier → covers l k start end j ≡ false
    auto_finest j p = none_finer l k start end j (rw auto_tier at p) (omega (arith, auto_there))
