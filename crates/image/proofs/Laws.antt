-- The slabs one by one: where each stands, and one turn of their check. Assumes nothing.
use Prim.Native.Nat.{ℕ, suc, ◌+◌, ◌-◌, ◌≤◌, ◌<◌}
use native.Mathlib.Nat.{sub-zero, zero-add}
use native.Mathlib.Omega.{arith}
use mathlib.Core.Path.{◌≡◌}
use mathlib.Core.Bool.{Bool, true, ◌&&◌, and_assoc, and-true}
use mathlib.Core.List.{List}
use lib.ListN.{length, take, drop}
use Rattle.model.specs.declared.Row.{Row}
use Rattle.laws.specs.Bytes.{length_part}
use Rattle.model.specs.Image.{rows_from, row_at, row_length, row_slots, slabs_end, placed, slab_of, sound, sound_all}
use Rattle.image_theory.specs.Rows.{placed_at, slabs_end-suc, slabs_end-le}
use Rattle.rows.specs.Rows.{rows_to, rows_step, rows_end}
use Rattle.layout.specs.Ends.{long}
use Rattle.image.specs.Handed.{handed}

-- a slab lies within the slice, and has room for its header
pub record Within (s : List ℕ) (r : Row) : Type 0 where
  pub inside : r.offset + r.len ≤ length s
  pub head : 64 ≤ r.len

pub within : (s : List ℕ) (at n i : ℕ) → placed at (rows_to s n 0) ≡ true → slabs_end at (rows_to s n 0) ≤ length s → i < n → {r : Row} → r ≡ row_at s i → Within s r
unfolding rows_to row_length
within s at n i p l h is =
    let p' : placed at (rows_from s 0 n) ≡ true = rw sub-zero at p in
    let l' : slabs_end at (rows_from s 0 n) ≤ length s = rw sub-zero at l in
    let q = placed_at at s 0 n p' i h in
    let o = rw zero-add at q.offset_is in
    let k = rw zero-add at q.len_is in
    let e = rw zero-add at (slabs_end-suc at s 0 i) in
    let m = slabs_end-le at s 0 (suc i) n h in
    rw is (record { inside = omega arith; head = omega (arith, long (row_slots (row_at s i)) (row_at s i).series) })

pub long_enough : (s : List ℕ) (r : Row) → Within s r → 64 ≤ length (take (r.offset + r.len - r.offset) (drop r.offset s))
unfolding slab_of
long_enough s r w = rw (handed s r) (omega (arith, length_part s r.offset r.len w.inside))

module _ (s : List ℕ) (n i : ℕ) (good : Bool) where
  pub sound_more : {one : Bool} (r : Row) → i < n → r ≡ row_at s i → one ≡ sound r (take (r.offset + r.len - r.offset) (drop r.offset s))
      → (good && one) && sound_all s (rows_to s n (i + 1)) ≡ good && sound_all s (rows_to s n i)
  unfolding sound_all
  sound_more r h f e = rw (rows_step s n i h, e, handed s r, f) (and_assoc good _ _)

  pub sound_end : n ≤ i → good && sound_all s (rows_to s n i) ≡ good
  unfolding sound_all
  sound_end h = rw (rows_end s n i h) (and-true good)
