-- The store as creation leaves it: it opens, its rows are the plan's with their places and no mark, and every ring took nothing: cursor 0, stamps 0, cells
-- the fresh value, flag false. Every list of calls begins with it. Assumes nothing.
use Rattle.std.specs.Prelude.{ℕ, ◌+◌, ◌^◌, ◌≤◌, ◌<◌, ◌≡◌, List, ◌++◌, length, replicate}
use Rattle.std.proofs.Common.{arith, ap, ◌∙◌, length-append}
use Rattle.std.proofs.Math.Bool.{false}
use Rattle.std.proofs.Math.ListN.{drop, get_or, get_or-replicate, get_or-append}
use Rattle.std.proofs.lemmas.List.{length-replicate}
use Rattle.model.specs.Layout.{fresh_value}
use Rattle.model.specs.Image.{row_count, row_place, row_at, row_slots, image_length, create_check, open_check, fresh_image}
use Rattle.model.specs.Ring.{cell}
use Rattle.model.specs.Lent.{Lent, create_on, creation, row, ring}
use Rattle.laws.specs.Fresh.{fresh_of}
use Rattle.ring_theory.specs.Hold.{Blank}
use Rattle.image_theory.specs.Checks.{Like}
use Rattle.image_theory.specs.Good.{Good, open_good, good_open}
use Rattle.fresh_theory.specs.Fields.{AllBytes, get-low}
use Rattle.fresh_theory.specs.FreshSlab.{cell-fresh, blank-fresh}
use Rattle.fresh_theory.specs.FreshImage.{Plan, plan-parts, plan-tier, row_fresh, series-low, like_fresh, slab-fresh, good-fresh}

module _ (p : List ℕ) (l : Lent) (accepted : create_check p l.image ≡ 0) where
  left : creation p l ≡ record { image = fresh_image p ++ drop (image_length p) l.image; flags = replicate (row_count p) false ++ drop (row_count p) l.flags }
  unfolding creation create_on
  left = rw accepted

  image_is : (creation p l).image ≡ fresh_image p ++ drop (image_length p) l.image
  image_is = ap (λ (m : Lent). m.image) left

  plan-is : Plan p
  plan-is = (plan-parts p l.image accepted).0

  -- ---- each max series fits its field where the plan is bytes, and where the image opens

  low-bytes : AllBytes p → (i : ℕ) → i < row_count p → (row_at p i).series < 2 ^ 32
  unfolding row_at
  low-bytes b i h = get-low 4 p (row_place i + 28) b

  pub low_open : open_check (creation p l).image ≡ 0 → (i : ℕ) → i < row_count p → (row_at p i).series < 2 ^ 32
  low_open h = series-low p (drop (image_length p) l.image) plan-is (good_open (fresh_image p ++ drop (image_length p) l.image) (rw image_is at h)).total_is

  -- ---- then

  module _ (low : (i : ℕ) → i < row_count p → (row_at p i).series < 2 ^ 32) where
    pub good-created : Good (creation p l).image
    good-created = rw image_is (good-fresh p (drop (image_length p) l.image) plan-is low)

    -- the plan's rows, but for place, mark and hash
    pub created_like : Like (creation p l).image p
    created_like = rw image_is (like_fresh p (drop (image_length p) l.image) plan-is low)

    pub created_mark : (i : ℕ) → i < row_count p → (row (creation p l) i).mark ≡ 0
    unfolding row
    created_mark i h = rw image_is (row_fresh p (drop (image_length p) l.image) plan-is i h).mark_is

    pub created-ring : (i : ℕ) → i < row_count p → ring (creation p l) i ≡ record { slab = fresh_of (row_at p i); wrapped = false }
    unfolding ring row
    created-ring i h = rw left (λ x. record { slab = slab-fresh p (drop (image_length p) l.image) plan-is low i h x; wrapped = flag x })
      where
        flag : get_or (replicate (row_count p) false ++ drop (row_count p) l.flags) i false ≡ false
        flag =
            get_or-append (replicate (row_count p) false) (drop (row_count p) l.flags) false i (rw (length-replicate (row_count p) false) h)
            ∙ get_or-replicate (row_count p) i false false h

    pub created_flags : row_count p ≤ length (creation p l).flags
    created_flags = rw left (omega (arith, length-append (replicate (row_count p) false) (drop (row_count p) l.flags), length-replicate (row_count p) false))

    pub created-blank : (i : ℕ) → i < row_count p → Blank (ring (creation p l) i) (row_slots (row_at p i)) (row_at p i).series (row_at p i).interval
    created-blank i h =
        let r = row_at p i in
        let t = plan-tier p plan-is i h in
        rw (created-ring i h)
        (blank-fresh r.hash (row_slots r) r.series r.interval (omega (arith, t.few_slots)) (low i h) (omega (arith, t.interval-low)) t.some_slots t.long)

    pub created-cell : (i c j : ℕ) → i < row_count p → c < (row_at p i).series → j < row_slots (row_at p i) → cell (ring (creation p l) i).slab c j ≡ fresh_value
    created-cell i c j h hc hj =
        let r = row_at p i in
        let t = plan-tier p plan-is i h in
        rw (created-ring i h)
        (cell-fresh r.hash (row_slots r) r.series r.interval (omega (arith, t.few_slots)) (low i h) (omega (arith, t.interval-low)) c j hc hj)

  -- what creation makes of a plan in bytes opens
  pub created_opens : AllBytes p → open_check (creation p l).image ≡ 0
  created_opens b = open_good (creation p l).image (good-created (low-bytes b))
