-- A slab that can be read, by the numbers that the code compares; and one turn of the reader's loop. Assumes nothing.
use Rattle.std.specs.Prelude.{Some, None}
use Prim.Native.Nat.{ℕ, suc, ◌+◌, ◌-◌, ◌*◌, ◌/◌, ◌%◌, ◌^◌, ◌≤◌, ◌<◌}
use native.Mathlib.Nat.{mul_assoc, mul-suc, mul-le-mul}
use native.Mathlib.Numerals.{add-one}
use native.Mathlib.Omega.{arith}
use mathlib.Core.Path.{◌≡◌, sym, ◌∙◌}
use mathlib.Core.Bool.{Bool, true, false, not, ◌&&◌, cond, and-false}
use mathlib.Core.List.{List}
use lib.Dec.{leb, ltb}
use lib.ListN.{length}
use Rattle.model.specs.declared.Place.{Place}
use Rattle.model.specs.declared.Stepped.{Stepped}
use Rattle.model.specs.Bytes.{get}
use Rattle.model.specs.Layout.{slab_length, stamps_at, column_at, column_behind, stamps_behind, directory}
use Rattle.model.specs.Ring.{slots, series, stamp, cell, is_nan_bits}
use Rattle.model.specs.Read.{is_handed, stepped, handed, step_from, readable}
use Rattle.laws.specs.Tests.{yes_le, yes_lt, no_le, no_lt, split3, and_left, and_right, le_is, lt-is}
use Rattle.reader.specs.Held.{Held}

-- ---- a slab that can be read

-- n slots of a stamp and m cells
slab-length : (n m : ℕ) → slab_length n m ≡ stamps_at m + 8 * (n * (m + 1))
unfolding slab_length column_at column_behind stamps_at stamps_behind directory
slab-length n m = rw (add-one m) (omega (arith, mul_assoc 8 n m, mul-suc n m))

-- the product that the code compares fits
pub cells_fit : (n m : ℕ) → n < 2 ^ 32 → m < 2 ^ 32 → n * (m + 1) < 2 ^ 64
cells_fit n m h k =
    let a : n ≤ 4294967295 = omega arith in
    let b : m + 1 ≤ 4294967296 = omega arith in
    omega (arith, mul-le-mul a b)

-- n slots, m series, the stamps at k
module _ (s : List ℕ) (c : ℕ) (p : Place) {n m k : ℕ} (n_is : n ≡ get 4 s 16) (m-is : m ≡ get 4 s 20) (k-is : k ≡ stamps_at m) (header : 64 ≤ length s) where
  by-sizes : readable s c p ≡ (leb (slab_length n m) (length s) && ltb c m && ltb p.slot n && leb p.left n)
  unfolding readable slots series
  by-sizes = rw (yes_le 64 (length s) header, n_is, m-is)

  -- no room for the directory, or none for stamps and cells
  pub no_directory : length s < k → false ≡ readable s c p
  no_directory h = sym (by-sizes ∙ rw (no_le (slab_length n m) (length s) (omega (arith, slab-length n m, k-is))))

  pub no_room : (length s - k) / 8 < n * (m + 1) → false ≡ readable s c p
  no_room h = sym (by-sizes ∙ rw (no_le (slab_length n m) (length s) (omega (arith, slab-length n m, k-is))))

  module _ (directory_in : k ≤ length s) (room : n * (m + 1) ≤ (length s - k) / 8) where
    whole : leb (slab_length n m) (length s) ≡ true
    whole = yes_le (slab_length n m) (length s) (omega (arith, slab-length n m, k-is))

    pub no_column : m ≤ c → false ≡ readable s c p
    no_column h = sym (by-sizes ∙ rw (whole, no_lt c m h))

    pub no_slot : c < m → n ≤ p.slot → false ≡ readable s c p
    no_slot h k = sym (by-sizes ∙ rw (whole, yes_lt c m h, no_lt p.slot n k))

    pub left_decides : c < m → p.slot < n → leb p.left n ≡ readable s c p
    left_decides h k = sym (by-sizes ∙ rw (whole, yes_lt c m h, yes_lt p.slot n k))

pub unreadable : (s : List ℕ) (c : ℕ) (p : Place) → length s < 64 → false ≡ readable s c p
unfolding readable
unreadable s c p h = rw (no_le 64 (length s) h)

-- what a passed test says
module _ (s : List ℕ) (c : ℕ) (p : Place) (h : readable s c p ≡ true) where
  parts : (leb 64 (length s) && leb (slab_length (slots s) (series s)) (length s) ≡ true) × (ltb c (series s) ≡ true) × (ltb p.slot (slots s) ≡ true)
  unfolding readable
  parts =
      split3 (leb 64 (length s) && leb (slab_length (slots s) (series s)) (length s)) (ltb c (series s)) (ltb p.slot (slots s))
      (and_left (leb 64 (length s) && leb (slab_length (slots s) (series s)) (length s) && ltb c (series s) && ltb p.slot (slots s)) (leb p.left (slots s)) h)

  pub header_there : 64 ≤ length s
  header_there = le_is 64 (length s) (and_left (leb 64 (length s)) (leb (slab_length (slots s) (series s)) (length s)) parts.0)

  pub held : {n m : ℕ} → n ≡ get 4 s 16 → m ≡ get 4 s 20 → Held s n m × (c < m) × (p.slot < n)
  held {n} {m} e q =
      let sl : slots s ≡ n = unfold slots in (sym e) in
      let se : series s ≡ m = unfold series in (sym q) in
      let w = le_is (slab_length (slots s) (series s)) (length s) (and_right (leb 64 (length s)) (leb (slab_length (slots s) (series s)) (length s)) parts.0) in
      (record { whole = rw (sl, se) at w; slots-is = sl; series-is = se }, rw se at (lt-is c (series s) parts.1), rw sl at (lt-is p.slot (slots s) parts.2))

-- ---- one turn

-- slot i, with k left, where a step gives x; t is its stamp, j the next slot
pub record Turn (s : List ℕ) (c start end n m i k : ℕ) (x : Stepped) (t j : ℕ) : Type 0 where
  pub held : Held s n m
  pub some : 0 < k
  pub same : step_from s c start end i k ≡ x
  pub stamp-is : t ≡ stamp s i
  pub next-is : j ≡ suc i % n

module _ {s : List ℕ} {c start end n m i k : ℕ} {x : Stepped} {t j : ℕ} (h : Turn s c start end n m i k x t j) where
  by-test : (l : ℕ) → k ≡ suc l → x ≡ cond (is_handed s c start end i) (stepped (handed s c i) j l) (step_from s c start end j l)
  unfolding step_from
  by-test l e = sym h.same ∙ rw (e, h.next-is, h.held.slots-is)

  one_less : k ≡ suc (k - 1)
  one_less = omega (arith, h.some)

  skipped : is_handed s c start end i ≡ false → step_from s c start end j (k - 1) ≡ x
  skipped f = sym (by-test (k - 1) one_less ∙ rw f)

  pub skip_early : t < start → step_from s c start end j (k - 1) ≡ x
  unfolding is_handed
  skip_early l = skipped (rw (← h.stamp-is, no_le start t l))

  pub skip_late : end ≤ t → step_from s c start end j (k - 1) ≡ x
  unfolding is_handed
  skip_late l = skipped (rw (← h.stamp-is, no_lt t end l, and-false (leb start t)))

  module _ (from : start ≤ t) (to : t < end) {v : ℕ} (v_is : v ≡ cell s c i) {nan : Bool} (nan_is : nan ≡ is_nan_bits v) where
    handed-is : is_handed s c start end i ≡ not nan
    unfolding is_handed
    handed-is = rw (← h.stamp-is, yes_le start t from, yes_lt t end to, nan_is, v_is)

    pub skip_nan : nan ≡ true → step_from s c start end j (k - 1) ≡ x
    skip_nan e = skipped (handed-is ∙ rw e)

    pub hand_out : nan ≡ false → stepped (Some (record { stamp = t; value = v })) j (k - 1) ≡ x
    unfolding handed
    hand_out e = sym (by-test (k - 1) one_less ∙ rw (handed-is, e, ← h.stamp-is, ← v_is))

-- no slot is left
pub finished : (s : List ℕ) (c start end i : ℕ) {k : ℕ} {x : Stepped} → step_from s c start end i k ≡ x → k ≡ 0 → stepped None i 0 ≡ x
unfolding step_from
finished s c start end i h e = rw e at h
