-- What the row of a handle's finest tier says: whether the handle is within bounds, and, on an image that passes opening's check, that the row is there and has
-- the column; whether its ring takes a stamp. Assumes nothing.
use Rattle.std.specs.Prelude.{ℕ, ◌<◌, ◌≡◌, Bool, not, ◌&&◌, List, Some, None}
use Rattle.std.proofs.Common.{add-zero}
use Rattle.std.proofs.Math.Path.{refl}
use Rattle.std.proofs.Math.Bool.{true, false, cond}
use Rattle.std.proofs.Math.Dec.{ltb}
use Rattle.model.specs.Image.{schemas, row_count, row_at, rows, tiers_of, slab_of, open_check}
use Rattle.model.specs.Ring.{is_old}
use Rattle.model.specs.Lent.{Lent, row, ring, tiers, first_row, row_no}
use Rattle.model.specs.Record.{series_of, handle_ok, takes}
use Rattle.laws.specs.Tests.{lt-is, and_left, and_right}
use Rattle.image_theory.specs.Good.{good_open}
use Rattle.image_theory.specs.Tiers.{TierRow, tier-row, some_tier}
use Rattle.lookup.specs.Parts.{finest_of}

module _ (s : List ℕ) (h : open_check s ≡ 0) (k : ℕ) (l : k < schemas s) where
  finest : TierRow s (good_open s h).shape_is k 0
  finest = let g = good_open s h in tier-row s g.shape_is k 0 (some_tier s g.shape_is g.layout_is k l)

  pub first_there : first_row k (rows s) < row_count s
  first_there = rw add-zero at finest.there

  pub series_there : series_of (tiers_of k (rows s)) ≡ (row_at s (first_row k (rows s))).series
  series_there = rw add-zero at finest.series-is

module _ (l : Lent) (k c : ℕ) where
  pub handle_none : finest_of l.image k c ≡ None → handle_ok l k c ≡ false
  unfolding finest_of handle_ok tiers
  handle_none e = go (ltb k (schemas l.image) && ltb c (series_of (tiers_of k (rows l.image)))) e
    where
      go : (b : Bool) → cond b (Some (first_row k (rows l.image))) None ≡ None → b ≡ false
      go true e = cc
      go false e = refl

  pub handle_at : {i : ℕ} → finest_of l.image k c ≡ Some i → (handle_ok l k c ≡ true) × (i ≡ first_row k (rows l.image))
  unfolding finest_of handle_ok tiers
  handle_at {i} e = go (ltb k (schemas l.image) && ltb c (series_of (tiers_of k (rows l.image)))) e
    where
      go : (b : Bool) → cond b (Some (first_row k (rows l.image))) None ≡ Some i → (b ≡ true) × (i ≡ first_row k (rows l.image))
      go true e = (refl, cc)
      go false e = (cc, cc)

  -- schema and column are within bounds
  pub handle_in : handle_ok l k c ≡ true → (k < schemas l.image) × (c < series_of (tiers_of k (rows l.image)))
  unfolding handle_ok tiers
  handle_in e =
      let a = ltb k (schemas l.image) in
      let b = ltb c (series_of (tiers_of k (rows l.image))) in
      (lt-is k (schemas l.image) (and_left a b e), lt-is c (series_of (tiers_of k (rows l.image))) (and_right a b e))

  -- the row is there, and it has the column
  pub row_there : {i : ℕ} → open_check l.image ≡ 0 → finest_of l.image k c ≡ Some i → (i < row_count l.image) × (c < (row_at l.image i).series)
  row_there {i} h e =
      let a = handle_at e in
      let b = handle_in a.0 in
      (rw a.1 (first_there l.image h k b.0), rw a.1 (rw (series_there l.image h k b.0) at b.1))

-- with the schema's first row i, it is the slab's bytes that take a stamp, whatever the flags
pub takes_at : (l : Lent) (k t : ℕ) {i : ℕ} → i ≡ first_row k (rows l.image) → takes l k t ≡ not (is_old (slab_of l.image (row_at l.image i)) t)
unfolding takes ring row row_no
takes_at l k t e = rw (add-zero, ← e)
