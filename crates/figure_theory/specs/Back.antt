-- The last point that a reading over all time hands out is the first one going backward from the cursor. So a search from the cursor stops at the first slot
-- that has a value, and needs no reading. Assumes nothing.
use Prim.Native.Nat.{ℕ, zero, suc, ◌+◌, ◌-◌, ◌%◌, ◌<◌}
use Rattle.std.proofs.Common.{mod-lt, zero-add, arith, sym, ◌∙◌}
use Rattle.std.proofs.Math.Nat.{mod-eq_of_lt, mod_self, mod-mod, add-mod_right, suc-mod}
use Rattle.std.proofs.Math.Decide.{dec_lt}
use Rattle.std.specs.Prelude.{◌≡◌, List, [], ◌∷◌, ◌++◌, Option, Some, None}
use Rattle.std.proofs.Math.Path.{refl, ap}
use Rattle.std.proofs.Math.Bool.{Bool, true, false, cond}
use Rattle.model.specs.declared.Place.{Place}
use Rattle.model.specs.declared.Point.{Point}
use Rattle.model.specs.Ring.{Ring, slots, cursor, stamp, cell, walk, is_empty, first_place, order}
use Rattle.model.specs.Read.{is_handed, points_of}
use Rattle.model.specs.Query.{reader_on}
use Rattle.model.specs.Figure.{last_after, end_of_time}
use Rattle.ring_theory.specs.Sound.{Sound, some_slots}
use Rattle.ring_theory.specs.Numbers.{slots_of, slots-append, walk_is}
use Rattle.ring_theory.specs.Points.{keep, points_in, points, first_in}
use Rattle.ring_theory.proofs.Points.{points-append, reader_points}

-- the last point that a reading of a ring's column over all time hands out
abbrev pub ring_last : Ring → ℕ → Option Point
ring_last r c = last_after None (points_of (reader_on r c 0 end_of_time))

-- the slot before slot i in a ring of n
unfoldable pub slot_before : ℕ → ℕ → ℕ
slot_before n zero = n - 1
slot_before n (suc i) = i

-- slot i's point, if it is handed out, else what is found further back
unfoldable pub or_back : Bool → List ℕ → ℕ → ℕ → Option Point → Option Point
or_back true s c i p = Some (record { stamp = stamp s i; value = cell s c i })
or_back false s c i p = p

-- the first point of column c going backward over k slots of n, slot i first
unfoldable pub back_from : List ℕ → ℕ → ℕ → ℕ → ℕ → Option Point
back_from s c n i zero = None
back_from s c n i (suc k) = let earlier = back_from s c n (slot_before n i) k in or_back (is_handed s c 0 end_of_time i) s c i earlier

-- ---- forward and backward

last-append : (x : Option Point) (ps qs : List Point) → last_after x (ps ++ qs) ≡ last_after (last_after x ps) qs
unfolding last_after
last-append x [] qs = refl
last-append x (p ∷ ps) qs = last-append (Some p) ps qs

one_more : (x : Option Point) (b : Bool) (s : List ℕ) (c i : ℕ) → last_after x (keep b (record { stamp = stamp s i; value = cell s c i }) []) ≡ or_back b s c i x
unfolding last_after keep or_back
one_more x true s c i = refl
one_more x false s c i = refl

-- number q's slot stands before that of number q + 1
before-next : (n q : ℕ) → 0 < n → slot_before n (suc q % n) ≡ q % n
unfolding slot_before
before-next n q h = rw (suc-mod q n) (go (dec_lt (suc (q % n)) n))
  where
    low : q % n < n
    low = mod-lt q h

    go : Dec (suc (q % n) < n) → slot_before n (suc (q % n) % n) ≡ q % n
    go (yes l) = rw (mod-eq_of_lt l)
    go (no l) = let e : suc (q % n) ≡ n = omega (arith, low) in let f : n - 1 ≡ q % n = omega (arith, low) in rw (e, mod_self n) f

-- the last point of the slots of k numbers from q on is found from the last of them backward
back_is : (s : List ℕ) (c n q k : ℕ) → 0 < n → last_after None (points_in s c 0 end_of_time (slots_of n q k)) ≡ back_from s c n (slot_before n ((q + k) % n)) k
unfolding back_from slots_of points_in last_after
back_is s c n q zero h = refl
back_is s c n q (suc k) h =
    let i = (q + k) % n in
    let e : suc k ≡ k + 1 = omega arith in
    let next : q + suc k ≡ suc (q + k) = omega arith in
    let one : points_in s c 0 end_of_time (slots_of n (q + k) 1) ≡ keep (is_handed s c 0 end_of_time i) (record { stamp = stamp s i; value = cell s c i }) [] = refl in
    let earlier = points_in s c 0 end_of_time (slots_of n q k) in
    ap (λ x. last_after None (points_in s c 0 end_of_time x)) (ap (slots_of n q) e ∙ slots-append n q k 1)
    ∙ ap (last_after None) (points-append s c 0 end_of_time (slots_of n q k) (slots_of n (q + k) 1))
    ∙ last-append None earlier (points_in s c 0 end_of_time (slots_of n (q + k) 1))
    ∙ ap (last_after (last_after None earlier)) one
    ∙ one_more (last_after None earlier) (is_handed s c 0 end_of_time i) s c i
    ∙ ap (or_back (is_handed s c 0 end_of_time i) s c i) (back_is s c n q k h)
    ∙ sym (rw (next, before-next n (q + k) h))

-- ---- of a ring

module _ (r : Ring) {n m d : ℕ} (h : Sound r.slab n m d) where
  abbrev s : List ℕ
  s = r.slab

  -- the slot before the place behind the reading's last slot is the cursor's, where anything is read
  from-cursor : (c : ℕ) → back_from s c n (slot_before n (((first_place r).slot + (first_place r).left) % n)) (first_place r).left ≡ back_from s c n (cursor s) (first_place r).left
  unfolding first_place
  from-cursor c = go (is_empty s) r.wrapped
    where
      place : Bool → Bool → Place
      place x y = cond {A = Place} x (record { slot = 0; left = 0 }) (cond y (record { slot = suc (cursor s) % slots s; left = slots s }) (record { slot = 0; left = suc (cursor s) }))

      low : cursor s % n ≡ cursor s
      low = mod-eq_of_lt h.cursor_in

      go : (x y : Bool) → back_from s c n (slot_before n (((place x y).slot + (place x y).left) % n)) (place x y).left ≡ back_from s c n (cursor s) (place x y).left
      go true y = unfold back_from in refl
      go false true = rw (h.slots-is, add-mod_right (suc (cursor s) % n) n, mod-mod (suc (cursor s)) n, before-next n (cursor s) (some_slots h), low)
      go false false = rw (zero-add (suc (cursor s)), before-next n (cursor s) (some_slots h), low)

  pub last-is_back : (c : ℕ) → c < m → ring_last r c ≡ back_from s c n (cursor s) (first_place r).left
  unfolding order points
  last-is_back c l =
      let q = (first_place r).slot in
      let k = (first_place r).left in
      let e : q % n ≡ q = mod-eq_of_lt (first_in r h).0 in
      let o : order r ≡ slots_of n q k = rw h.slots-is (ap (λ x. walk n x k) (sym e) ∙ walk_is n q k) in
      ap (last_after None) (reader_points r h c 0 end_of_time l ∙ ap (points_in s c 0 end_of_time) o) ∙ back_is s c n q k (some_slots h) ∙ from-cursor c
