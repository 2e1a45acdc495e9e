-- Rings of interval 1 that are cut as often as a range of so many laps can be, as writes in this order leave them. By computation. Assumes nothing.
use Rattle.std.specs.Prelude.{ℕ, zero, suc, ◌<◌, ◌≡◌, refl, ◌⊎◌, Bool, true, false, ◌&&◌, ◌||◌, List, [], ◌∷◌, leb, ltb, eqb}
use Rattle.std.proofs.Common.{arith, ap, ◌∙◌, inl, inr}
use Rattle.std.proofs.Math.Decide.{ℕ_discrete}
use Rattle.std.proofs.lemmas.Bool.{false≢true}
use Rattle.model.specs.Bytes.{Bytes-defs}
use Rattle.model.specs.Layout.{Layout-defs}
use Rattle.model.specs.Ring.{slots, cursor, stamp, slot_of, order, newest, Ring-defs}
use Rattle.model.specs.Window.{Job, window_of}
use Rattle.model.specs.Consolidate.{end_after}
use Rattle.laws.specs.Tests.{no_eq, eq_is, le_is, lt-is, and_left, and_right}
use Rattle.strand_theory.specs.Cuts.{In, Before, Cut, none, more, Homed, lap_of, Laps}
use Rattle.strand_theory.specs.Passes.{in_ring}
use Rattle.strand_theory.specs.Rows.{after, ring_of, job, Reached, one_lap, from_zero, two_laps, unwritten}

-- ---- tests, so that a row's suppositions are computed

every : ℕ → (ℕ → Bool) → Bool
every zero p = true
every (suc k) p = p k && every k p

every-is : (k : ℕ) (p : ℕ → Bool) → every k p ≡ true → (i : ℕ) → i < k → p i ≡ true
unfolding every
every-is zero p h i l = absurd (omega arith)
every-is (suc k) p h i l = go (ℕ_discrete i k) (every-is k p (and_right (p k) (every k p) h) i)
  where
    go : Dec (i ≡ k) → (i < k → p i ≡ true) → p i ≡ true
    go (yes e) later = ap p e ∙ and_left (p k) (every k p) h
    go (no e) later = later (omega arith)

is_in : ℕ → List ℕ → Bool
is_in x [] = false
is_in x (y ∷ ys) = eqb x y || is_in x ys

is_in_lem : (x : ℕ) (ys : List ℕ) → is_in x ys ≡ true → In x ys
unfolding is_in
is_in_lem x [] h = absurd (false≢true h)
is_in_lem x (y ∷ ys) h = go (ℕ_discrete x y) (is_in_lem x ys)
  where
    go : Dec (x ≡ y) → (is_in x ys ≡ true → In x ys) → (x ≡ y) ⊎ In x ys
    go (yes e) later = inl e
    go (no e) later = inr (later (rw (no_eq x y e) at h))

at_home : List ℕ → ℕ → Bool
at_home s i = eqb (stamp s i) 0 || eqb (slot_of s (stamp s i)) i

is_homed : (s : List ℕ) → every (slots s) (at_home s) ≡ true → Homed s
unfolding at_home
is_homed s h i l ne = eq_is (slot_of s (stamp s i)) i (rw (no_eq (stamp s i) 0 ne) at (every-is (slots s) (at_home s) h i l))

of_laps : List ℕ → List ℕ → ℕ → Bool
of_laps s ls i = is_in (lap_of s (stamp s i)) ls

has_laps : (q : Job) (ls : List ℕ) → cursor q.source.slab < slots q.source.slab → every (slots q.source.slab) (of_laps q.source.slab ls) ≡ true → Laps q ls
unfolding of_laps
has_laps q ls cur h i m lo hi =
    let s = q.source.slab in
    is_in_lem (lap_of s (stamp s i)) ls (every-is (slots s) (of_laps s ls) h i (in_ring q.source cur i m))

is_before : ℕ → ℕ → List ℕ → Bool
is_before x y [] = false
is_before x y (z ∷ zs) = eqb x z && is_in y zs || is_before x y zs

is-before : (x y : ℕ) (zs : List ℕ) → is_before x y zs ≡ true → Before x y zs
unfolding is_before
is-before x y [] h = absurd (false≢true h)
is-before x y (z ∷ zs) h = go (eqb x z && is_in y zs) refl (is-before x y zs)
  where
    go : (b : Bool) → eqb x z && is_in y zs ≡ b → (is_before x y zs ≡ true → Before x y zs) → ((x ≡ z) × In y zs) ⊎ Before x y zs
    go true e later = inl (eq_is x z (and_left (eqb x z) (is_in y zs) e), is_in_lem y zs (and_right (eqb x z) (is_in y zs) e))
    go false e later = inr (later (rw e at h))

-- the slots i and j, by what they hold
is_cut : Job → ℕ → ℕ → ℕ → ℕ → Bool
is_cut q b e i j =
    let s = q.source.slab in
    is_before i j (order q.source) && eqb (window_of q.long (stamp s i)) e && ltb (stamp s i) q.end && leb b (stamp s j) && ltb (window_of q.long (stamp s j)) e

split5 : (a b c d e : Bool) → a && b && c && d && e ≡ true → (a ≡ true) × (b ≡ true) × (c ≡ true) × (d ≡ true) × (e ≡ true)
split5 true true true true e h = (refl, refl, refl, refl, h)
split5 true true true false e h = absurd (false≢true h)
split5 true true false d e h = absurd (false≢true h)
split5 true false c d e h = absurd (false≢true h)
split5 false b c d e h = absurd (false≢true h)

is_cut_lem : (q : Job) (b e i j : ℕ) → is_cut q b e i j ≡ true → Cut q (order q.source) b e
unfolding is_cut
is_cut_lem q b e i j h =
    let t = stamp q.source.slab i in
    let u = stamp q.source.slab j in
    let is = order q.source in
    let d = q.long in
    let p = split5 (is_before i j is) (eqb (window_of d t) e) (ltb t q.end) (leb b u) (ltb (window_of d u) e) h in
    record {
      high = i;
      low = j;
      before = is-before i j is p.0;
      high_is = eq_is (window_of d t) e p.1;
      high_below = lt-is t q.end p.2;
      low-from = le_is b u p.3;
      low-under = lt-is (window_of d u) e p.4;
    }

-- ---- the rows

Rows-defs : Unit {0}
unfolding Bytes-defs Layout-defs Ring-defs window_of lap_of every is_in at_home of_laps is_before is_cut after ring_of job
Rows-defs = tt

pub one_lap_lem : Reached one_lap (1 ∷ []) 2 12
unfolding Rows-defs one_lap
one_lap_lem = record {
  cursor_in = omega arith;
  home = is_homed one_lap.source.slab refl;
  laps = has_laps one_lap (1 ∷ []) (omega arith) refl;
  cuts = more (more none (is_cut_lem one_lap 7 8 4 0 refl)) (is_cut_lem one_lap 8 12 5 1 refl);
}

pub from_zero_lem : Reached from_zero (0 ∷ []) 3 6
unfolding Rows-defs from_zero
from_zero_lem = record {
  cursor_in = omega arith;
  home = is_homed from_zero.source.slab refl;
  laps = has_laps from_zero (0 ∷ []) (omega arith) refl;
  cuts = more (more (more none (is_cut_lem from_zero 0 2 2 3 refl)) (is_cut_lem from_zero 2 4 5 2 refl)) (is_cut_lem from_zero 4 6 6 4 refl);
}

pub two_laps_lem : Reached two_laps (1 ∷ 2 ∷ []) 2 16
unfolding Rows-defs two_laps
two_laps_lem = record {
  cursor_in = omega arith;
  home = is_homed two_laps.source.slab refl;
  laps = has_laps two_laps (1 ∷ 2 ∷ []) (omega arith) refl;
  cuts = more (more none (is_cut_lem two_laps 8 12 0 1 refl)) (is_cut_lem two_laps 12 16 2 5 refl);
}

pub an_unwritten : Reached unwritten (0 ∷ []) 1 2
unfolding Rows-defs unwritten
an_unwritten = record {
  cursor_in = omega arith;
  home = is_homed unwritten.source.slab refl;
  laps = has_laps unwritten (0 ∷ []) (omega arith) refl;
  cuts = more none (is_cut_lem unwritten 0 2 2 3 refl);
}

-- the last two end as a run's range does
pub ends_are : (two_laps.end ≡ end_after (newest two_laps.source)) × (unwritten.end ≡ end_after (newest unwritten.source))
unfolding Rows-defs two_laps unwritten end_after
ends_are = (refl, refl)
