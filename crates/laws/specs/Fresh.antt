-- How long the parts are that creation writes: a row, all rows, a fresh slab, all slabs. Assumes nothing.
use Rattle.std.specs.Prelude.{ℕ, zero, suc, ◌+◌, ◌*◌, ◌≡◌, refl, List, [], ◌∷◌, length}
use Rattle.std.proofs.Common.{arith, ◌∙◌, length-append}
use Rattle.std.proofs.Math.ListN.{length-replicate}
use Rattle.model.specs.declared.Row.{Row}
use Rattle.model.specs.Layout.{stamps_behind, column_behind, column_at, slab_length, copies, fresh_head, fresh_slab}
use Rattle.model.specs.Image.{row_slots, row_length, slabs_end, placed_row, placed_rows, row_bytes, all_rows, fresh_slabs}
use Rattle.laws.specs.Bytes.{length-bytes}

-- ---- a slab

pub length-copies : (n : ℕ) (xs : List ℕ) → length (copies n xs) ≡ length xs * n
unfolding copies
length-copies zero xs = omega arith
length-copies (suc n) xs = length-append xs (copies n xs) ∙ rw (length-copies n xs) (omega arith)

module _ (h n m d : ℕ) where
  pub length-head : length (fresh_head h n m d) ≡ 64
  unfolding fresh_head
  length-head = simp (length-append, length-bytes, length-replicate)

  pub length-fresh : length (fresh_slab h n m d) ≡ slab_length n m
  unfolding fresh_slab slab_length column_at column_behind stamps_behind
  length-fresh = simp (length-append, length-head, length-replicate, length-copies, length-bytes) (omega arith)

-- the fresh slab of a row
abbrev pub fresh_of : Row → List ℕ
fresh_of r = fresh_slab r.hash (row_slots r) r.series r.interval

pub length-fresh_of : (r : Row) → length (fresh_of r) ≡ row_length r
unfolding row_length
length-fresh_of r = length-fresh r.hash (row_slots r) r.series r.interval

pub length_slabs : (at : ℕ) (rs : List Row) → at + length (fresh_slabs rs) ≡ slabs_end at rs
unfolding fresh_slabs slabs_end
length_slabs at [] = omega arith
length_slabs at (r ∷ rs) = omega (arith, length-append (fresh_of r) (fresh_slabs rs), length-fresh_of r, length_slabs (at + row_length r) rs)

-- ---- a row

pub length-row : (r : Row) → length (row_bytes r) ≡ 64
unfolding row_bytes
length-row r = simp (length-append, length-bytes)

pub length-rows : (at : ℕ) (rs : List Row) → length (all_rows (placed_rows at rs)) ≡ 64 * length rs
unfolding all_rows placed_rows
length-rows at [] = refl
length-rows at (r ∷ rs) =
    omega (arith, length-append (row_bytes (placed_row r at)) (all_rows (placed_rows (at + row_length r) rs)), length-row (placed_row r at), length-rows (at + row_length r) rs)
