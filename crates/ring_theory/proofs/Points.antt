-- A reader's points. The model has them as the unfolding of the reader's step; here they are the handed-out slots of the walk from the reader's place, in
-- order, each once. Code that reads, and everything that is said of a query's points, goes through this law. Assumes nothing.
use Prim.Native.Nat.{ℕ, zero, suc, ◌-◌, ◌%◌, ◌≤◌, ◌<◌}
use Rattle.std.proofs.Math.Nat.{mod-lt}
use Rattle.std.proofs.Common.{arith, ap, ◌∙◌}
use Rattle.std.specs.Prelude.{◌≡◌, Bool, false, ◌&&◌, leb, length}
use Rattle.std.proofs.Math.Path.{refl, sym}
use Rattle.std.proofs.Math.Bool.{true}
use mathlib.Core.List.{List, [], ◌∷◌, ◌++◌}
use Rattle.std.proofs.Math.Dec.{ltb}
use Rattle.model.specs.declared.Place.{Place}
use Rattle.model.specs.declared.Point.{Point}
use Rattle.model.specs.Layout.{slab_length}
use Rattle.model.specs.Ring.{Ring, slots, series, stamp, cell, walk, first_place, order}
use Rattle.model.specs.Read.{Reader, is_handed, stepped, handed, step_from, readable, step, and_then, points_from, points_of}
use Rattle.model.specs.Query.{reader_on}
use Rattle.laws.specs.Tests.{yes_le, yes_lt, and_left, and_right, le_is, lt-is}
use Rattle.ring_theory.specs.Sound.{Sound}
use Rattle.ring_theory.specs.Points.{keep, points_in, points, one_step, step_on, readable-sound, first_in}

pub points-append : (s : List ℕ) (c start end : ℕ) (is js : List ℕ) → points_in s c start end (is ++ js) ≡ points_in s c start end is ++ points_in s c start end js
unfolding points_in keep
points-append s c start end [] js = refl
points-append s c start end (i ∷ is) js =
    ap (keep (is_handed s c start end i) (record { stamp = stamp s i; value = cell s c i })) (points-append s c start end is js)
    ∙ push (is_handed s c start end i) (record { stamp = stamp s i; value = cell s c i }) (points_in s c start end is) (points_in s c start end js)
  where
    push : (b : Bool) (p : Point) (ps qs : List Point) → keep b p (ps ++ qs) ≡ keep b p ps ++ qs
    push true p ps qs = refl
    push false p ps qs = refl

-- ---- one step

module _ (s : List ℕ) (c start end : ℕ) where
  abbrev from : ℕ → ℕ → List Point
  from i k = points_in s c start end (walk (slots s) i k)

  -- a step from slot i on with k left goes to a slot of the ring, takes at least one of the k, and hands out the first point, if there is one
  record Steps (i k : ℕ) : Type 0 where
    slot_in : (step_from s c start end i k).place.slot < slots s
    fewer : (step_from s c start end i k).place.left ≤ k - 1
    first : from i k ≡ and_then (step_from s c start end i k).next (from (step_from s c start end i k).place.slot (step_from s c start end i k).place.left)

  steps : (k i : ℕ) → i < slots s → Steps i k
  unfolding step_from stepped walk points_in and_then keep handed
  steps zero i h = record { slot_in = h; fewer = omega arith; first = refl }
  steps (suc k) i h = go (is_handed s c start end i) refl (steps k (suc i % slots s) nx)
    where
      nx : suc i % slots s < slots s
      nx = mod-lt (suc i) (omega arith)

      go : (b : Bool) → is_handed s c start end i ≡ b → Steps (suc i % slots s) k → Steps i (suc k)
      go true e r = record { slot_in = rw e nx; fewer = rw e (omega arith); first = rw e }
      go false e r = record { slot_in = rw e r.slot_in; fewer = rw e (omega (arith, r.fewer)); first = rw e r.first }

  abbrev before_slot : Bool
  before_slot = leb 64 (length s) && leb (slab_length (slots s) (series s)) (length s) && ltb c (series s)

  readable-next : (p q : Place) → readable s c p ≡ true → q.slot < slots s → q.left ≤ slots s → readable s c q ≡ true
  unfolding readable
  readable-next p q h l k =
      rw (and_left before_slot (ltb p.slot (slots s)) (and_left (before_slot && ltb p.slot (slots s)) (leb p.left (slots s)) h), yes_lt q.slot (slots s) l) (yes_le q.left (slots s) k)

  readable_slot : (p : Place) → readable s c p ≡ true → p.slot < slots s
  unfolding readable
  readable_slot p h =
      lt-is p.slot (slots s) (and_right before_slot (ltb p.slot (slots s)) (and_left (before_slot && ltb p.slot (slots s)) (leb p.left (slots s)) h))

  readable-left : (p : Place) → readable s c p ≡ true → p.left ≤ slots s
  unfolding readable
  readable-left p h = le_is p.left (slots s) (and_right (before_slot && ltb p.slot (slots s)) (leb p.left (slots s)) h)

  -- ---- all steps

  -- f steps, for at most f slots left
  pub from_is : (f : ℕ) (p : Place) → p.left ≤ f → readable s c p ≡ true → points_from f s c start end p ≡ points_in s c start end (walk (slots s) p.slot p.left)
  unfolding points_from step walk points_in
  from_is zero p h r = none p.left h
    where
      none : (k : ℕ) → k ≤ 0 → [] ≡ points_in s c start end (walk (slots s) p.slot k)
      none zero l = refl
      none (suc k) l = absurd (omega arith)
  from_is (suc f) p h r =
      let w = steps p.left p.slot (readable_slot p r) in
      let d = step_from s c start end p.slot p.left in
      rw (here r) (ap (and_then d.next) (from_is f d.place (omega (arith, w.fewer)) (readable-next p d.place r w.slot_in (omega (arith, w.fewer, readable-left p r)))) ∙ sym w.first)
    where
      here : readable s c p ≡ true → step s c start end p ≡ step_from s c start end p.slot p.left
      here e = rw e

-- a reader that can be read
pub points_are : (r : Reader) → readable r.slab r.column r.place ≡ true
    → points_of r ≡ points_in r.slab r.column r.start r.end (walk (slots r.slab) r.place.slot r.place.left)
unfolding points_of
points_are r h = from_is r.slab r.column r.start r.end r.place.left r.place (omega arith) h

-- ---- step by step

module _ (r : Reader) (h : readable r.slab r.column r.place ≡ true) where
  found : one_step r ≡ step_from r.slab r.column r.start r.end r.place.slot r.place.left
  unfolding step
  found = rw h

  here : Steps r.slab r.column r.start r.end r.place.slot r.place.left
  here = steps r.slab r.column r.start r.end r.place.left r.place.slot (readable_slot r.slab r.column r.start r.end r.place h)

  -- it can still be read, and has fewer slots left
  pub step_place : (readable r.slab r.column (one_step r).place ≡ true) × ((one_step r).place.left ≤ r.place.left - 1)
  step_place =
      let l = readable-left r.slab r.column r.start r.end r.place h in
      let d = step_from r.slab r.column r.start r.end r.place.slot r.place.left in
      rw found (readable-next r.slab r.column r.start r.end r.place d.place h here.slot_in (omega (arith, here.fewer, l)), here.fewer)

  -- the points are what the step hands out, before the points from there on
  pub points-step : points_of r ≡ and_then (one_step r).next (points_of (step_on r))
  points-step = points_are r h ∙ rw (points_are (step_on r) step_place.0, found) here.first

-- ---- a query's reader

-- the reader of a query of a ring's column hands out the column's points
pub reader_points : (r : Ring) {n m d : ℕ} → Sound r.slab n m d → (c start end : ℕ) → c < m → points_of (reader_on r c start end) ≡ points r c start end
unfolding reader_on points order
reader_points r h c start end hc =
    points_are (record { slab = r.slab; column = c; start = start; end = end; place = first_place r }) (readable-sound h c (first_place r) hc (first_in r h).0 (first_in r h).1)
