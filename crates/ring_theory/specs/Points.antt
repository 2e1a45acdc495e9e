-- A reader's points, as the handed-out slots of a walk: the definitions, and what a reader needs to be readable. The law that the points are these slots
-- stands in proofs/Points.antt. Assumes nothing.
use Prim.Native.Nat.{ℕ, zero, suc, ◌%◌, ◌≤◌, ◌<◌}
use Rattle.std.proofs.Math.Nat.{mod-lt}
use Rattle.std.proofs.Common.{arith}
use Rattle.std.specs.Prelude.{◌≡◌, Bool, false, cond, length}
use Rattle.std.proofs.Math.Path.{refl}
use Rattle.std.proofs.Math.Bool.{true}
use mathlib.Core.List.{List, [], ◌∷◌}
use Rattle.model.specs.declared.Place.{Place}
use Rattle.model.specs.declared.Point.{Point}
use Rattle.model.specs.declared.Stepped.{Stepped}
use Rattle.model.specs.Layout.{slab_length}
use Rattle.model.specs.Ring.{Ring, slots, cursor, stamp, cell, is_empty, first_place, order}
use Rattle.model.specs.Read.{Reader, is_handed, stepped, readable, step, and_then, points_from, points_of}
use Rattle.laws.specs.Tests.{yes_le, yes_lt}
use Rattle.ring_theory.specs.Sound.{Sound, some_slots, header_in}

unfoldable pub keep : Bool → Point → List Point → List Point
keep true p ps = p ∷ ps
keep false p ps = ps

-- the points of column c in these slots
unfoldable pub points_in : List ℕ → ℕ → ℕ → ℕ → List ℕ → List Point
points_in s c start end [] = []
points_in s c start end (i ∷ is) = keep (is_handed s c start end i) (record { stamp = stamp s i; value = cell s c i }) (points_in s c start end is)

-- the points of a ring's column
unfoldable pub points : Ring → ℕ → ℕ → ℕ → List Point
points r c start end = points_in r.slab c start end (order r)

-- a reader that can't be read hands out nothing
pub points_unreadable : (r : Reader) → readable r.slab r.column r.place ≡ false → points_of r ≡ []
unfolding points_of points_from step stepped and_then
points_unreadable r h = go r.place.left
  where
    go : (k : ℕ) → points_from k r.slab r.column r.start r.end r.place ≡ []
    go zero = refl
    go (suc k) = rw h

-- ---- step by step

abbrev pub one_step : Reader → Stepped
one_step r = step r.slab r.column r.start r.end r.place

-- the reader after a step
abbrev pub step_on : Reader → Reader
step_on r = record { slab = r.slab; column = r.column; start = r.start; end = r.end; place = (one_step r).place }

-- ---- a query's reader

pub readable-sound : {s : List ℕ} {n m d : ℕ} → Sound s n m d → (c : ℕ) (p : Place) → c < m → p.slot < n → p.left ≤ n → readable s c p ≡ true
unfolding readable
readable-sound {s} {n} {m} h c p hc hi hl =
    rw (h.slots-is, h.series-is, yes_le 64 (length s) (header_in h), yes_le (slab_length n m) (length s) (omega (arith, h.whole)), yes_lt c m hc, yes_lt p.slot n hi) (yes_le p.left n hl)

-- a ring is read from one of its slots on, over no more than it has
pub first_in : (r : Ring) {n m d : ℕ} → Sound r.slab n m d → ((first_place r).slot < n) × ((first_place r).left ≤ n)
unfolding first_place
first_in r {n} h = go (is_empty r.slab) r.wrapped
  where
    place : Bool → Bool → Place
    place x y = cond {A = Place} x (record { slot = 0; left = 0 }) (cond y (record { slot = suc (cursor r.slab) % slots r.slab; left = slots r.slab }) (record { slot = 0; left = suc (cursor r.slab) }))

    go : (x y : Bool) → ((place x y).slot < n) × ((place x y).left ≤ n)
    go true y = (some_slots h, omega arith)
    go false true = rw h.slots-is (mod-lt (suc (cursor r.slab)) (some_slots h), omega arith)
    go false false = (some_slots h, omega (arith, h.cursor_in))
