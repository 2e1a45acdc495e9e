-- One turn of the loop that fetches: a step of the reader, its point stored. What is still to be fetched, stored after what is stored, is what was asked.
-- Assumes nothing.
use Rattle.std.specs.Prelude.{Option, Some, None}
use Prim.Native.Nat.{ℕ, suc, ◌+◌, ◌-◌, ◌*◌, ◌/◌, ◌≤◌, ◌<◌}
use native.Mathlib.Omega.{arith}
use mathlib.Core.Path.{◌≡◌, refl, ap, ◌∙◌}
use mathlib.Core.Bool.{true, false}
use mathlib.Core.List.{List}
use lib.ListN.{length, set, length-set}
use lib.Seq.{sets}
use Rattle.model.specs.declared.Place.{Place}
use Rattle.model.specs.declared.Point.{Point}
use Rattle.model.specs.declared.Stepped.{Stepped}
use Rattle.model.specs.Read.{readable, step_from, step, stepped}
use Rattle.ring_theory.proofs.Points.{step_place}
use Rattle.fetch.specs.Fetch.{Fetch, then_fetch, fetch_up_to, words}

module _ (s : List ℕ) (c start end : ℕ) where
  -- `count` points are stored, k more can be, from place p on; `asked` is what was asked for, of the slice old
  pub record Goes (asked : Fetch) (old out : List ℕ) (k count : ℕ) (p : Place) : Type 0 where
    pub reads : readable s c p ≡ true
    pub counted : count + length (fetch_up_to k s c start end p).points ≡ length asked.points
    pub placed : (fetch_up_to k s c start end p).place ≡ asked.place
    pub stored : sets out (2 * count) (words (fetch_up_to k s c start end p).points) ≡ sets old 0 (words asked.points)
    pub same : length out ≡ length old

  -- all is done
  pub record Ended (asked : Fetch) (old out : List ℕ) (count : ℕ) (p : Place) : Type 0 where
    pub counted : count ≡ length asked.points
    pub placed : p ≡ asked.place
    pub stored : out ≡ sets old 0 (words asked.points)

  module _ {asked : Fetch} {old out : List ℕ} {k count : ℕ} {p : Place} {d : Stepped} (d-is : d ≡ step_from s c start end p.slot p.left) (g : Goes asked old out (suc k) count p) where
    here : step s c start end p ≡ d
    unfolding step
    here = rw (g.reads, d-is)

    one : fetch_up_to (suc k) s c start end p ≡ then_fetch d.next d.place (fetch_up_to k s c start end d.place)
    unfolding fetch_up_to
    one = rw here

    by_next : {y : Option Point} → d.next ≡ y → fetch_up_to (suc k) s c start end p ≡ then_fetch y d.place (fetch_up_to k s c start end d.place)
    by_next e = one ∙ ap (λ (y : Option Point). then_fetch y d.place (fetch_up_to k s c start end d.place)) e

    -- a point
    module _ {x : Point} (e : d.next ≡ Some x) where
      some_counted : count + suc (length (fetch_up_to k s c start end d.place).points) ≡ length asked.points
      unfolding then_fetch
      some_counted = rw (by_next e) at g.counted

      some_placed : (fetch_up_to k s c start end d.place).place ≡ asked.place
      unfolding then_fetch
      some_placed = rw (by_next e) at g.placed

      some_stored : sets (set (set out (2 * count) x.stamp) (suc (2 * count)) x.value) (suc (suc (2 * count))) (words (fetch_up_to k s c start end d.place).points) ≡ sets old 0 (words asked.points)
      unfolding then_fetch words
      some_stored = rw (by_next e) at g.stored

      again : Goes asked old (set (set out (2 * count) x.stamp) (2 * count + 1) x.value) k (suc count) d.place
      again =
          let n : suc (suc (2 * count)) ≡ 2 * suc count = omega arith in
          let j : 2 * count + 1 ≡ suc (2 * count) = omega arith in
          record {
            reads = rw here at (step_place (record { slab = s; column = c; start = start; end = end; place = p }) g.reads).0;
            counted = omega (arith, some_counted);
            placed = some_placed;
            stored = rw (j, ← n) some_stored;
            same = length-set (set out (2 * count) x.stamp) (2 * count + 1) x.value ∙ length-set out (2 * count) x.stamp ∙ g.same;
          }

    -- the end
    module _ (e : d.next ≡ None) where
      none_counted : count + 0 ≡ length asked.points
      unfolding then_fetch
      none_counted = rw (by_next e) at g.counted

      stop : Ended asked old out count d.place
      unfolding then_fetch words
      stop = record { counted = omega (arith, none_counted); placed = rw (by_next e) at g.placed; stored = rw (by_next e) at g.stored }

  -- no room is left
  full : {asked : Fetch} {old out : List ℕ} {count : ℕ} {p : Place} → Goes asked old out 0 count p → Ended asked old out count p
  unfolding fetch_up_to words
  full g = record { counted = omega (arith, g.counted); placed = g.placed; stored = g.stored }

  -- as the loop counts: `room` points in all
  module _ {asked : Fetch} {old out : List ℕ} {room count : ℕ} {p : Place} {d : Stepped} (d-is : d ≡ step_from s c start end p.slot p.left) (more : count < room) (g : Goes asked old out (room - count) count p) where
    inside : Goes asked old out (suc (room - (count + 1))) count p
    inside = let n : room - count ≡ suc (room - (count + 1)) = omega arith in rw n at g

    pub turn : {x : Point} → d.next ≡ Some x → Goes asked old (set (set out (2 * count) x.stamp) (2 * count + 1) x.value) (room - (count + 1)) (count + 1) d.place
    turn e = let n : suc count ≡ count + 1 = omega arith in rw n at (again d-is inside e)

    pub last : d.next ≡ None → Ended asked old out count d.place
    last e = stop d-is inside e

  pub filled : {asked : Fetch} {old out : List ℕ} {room count : ℕ} {p : Place} → room ≤ count → Goes asked old out (room - count) count p → Ended asked old out count p
  filled {room = room} {count = count} h g = let n : room - count ≡ 0 = omega arith in full (rw n at g)

  -- no room for a point, or a place that can't be read
  none : (old : List ℕ) (p : Place) → Ended (fetch_up_to 0 s c start end p) old old 0 p
  unfolding fetch_up_to words
  none old p = record { counted = refl; placed = refl; stored = refl }

  pub no_room : (old : List ℕ) (p : Place) → length old < 2 → Ended (fetch_up_to (length old / 2) s c start end p) old old 0 p
  no_room old p h = let n : length old / 2 ≡ 0 = omega arith in rw n (none old p)

  nothing : (old : List ℕ) (p : Place) → readable s c p ≡ false → (k : ℕ) → Ended (fetch_up_to (suc k) s c start end p) old old 0 (record { slot = p.slot; left = 0 })
  unfolding fetch_up_to step stepped then_fetch words
  nothing old p r k = rw r (record { counted = refl; placed = refl; stored = refl })

  pub unread : (old : List ℕ) (p : Place) → 2 ≤ length old → readable s c p ≡ false → Ended (fetch_up_to (length old / 2) s c start end p) old old 0 (record { slot = p.slot; left = 0 })
  unread old p h r = let n : length old / 2 ≡ suc (length old / 2 - 1) = omega arith in rw n (nothing old p r (length old / 2 - 1))
