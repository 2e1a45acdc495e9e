-- What a write leaves of a slab, read back field by field: the written slot's stamp and cells, the cursor, which is always the written slot, and every
-- other word as it was. For any values, none and a column named twice included. The proofs of the ring's code and the theory of a ring both cite it.
-- Assumes nothing.
use Rattle.std.specs.Prelude.{ℕ, ◌+◌, ◌^◌, ◌≤◌, ◌<◌, ◌≡◌, refl, ◌≢◌, Bool, true, false, ◌&&◌, ◌||◌, cond, List, [], ◌∷◌, leb, ltb, length}
use Rattle.std.proofs.Common.{arith, ◌∙◌}
use Rattle.std.proofs.Math.Decide.{dec_lt}
use Rattle.std.proofs.Math.Dec.{eqb}
use Rattle.model.specs.Bytes.{get, put}
use Rattle.model.specs.Layout.{stamps_behind, stamps_at, column_behind, column_at}
use Rattle.model.specs.Ring.{Ring, ColumnValue, slots, series, cursor, stamp_at, cell_at, stamp, cell, slot_of, put_cells, move_cursor, flag_after, store, cells_for, write}
use Rattle.laws.specs.Tests.{yes_le, yes_lt, no_lt}
use Rattle.laws.specs.Bytes.{before, behind, get-put, length-put}
use Rattle.laws.specs.Slab.{FullLength, cell_at_high, stamp_at_high, inside-stamp, slots-put, series-put, cell-put-cell, stamp-put-cell, stamp-put-stamp, cell-put-stamp, stamp-same, cursor-same, stamp-cursor, cell-cursor}

-- ---- cells by column and slot

-- with value v in slot i of column c
unfoldable pub set_cell : (ℕ → ℕ → ℕ) → ℕ → ℕ → ℕ → ℕ → ℕ → ℕ
set_cell C i c v c' i' = cond (eqb c' c && eqb i' i) v (C c' i')

-- with these values in slot i, in order: a column named twice keeps its last value
unfoldable pub set_cells : (ℕ → ℕ → ℕ) → ℕ → List ColumnValue → ℕ → ℕ → ℕ
set_cells C i [] = C
set_cells C i (e ∷ es) = set_cells (set_cell C i e.column e.value) i es

-- columns below m, and 64-bit values
abbrev pub Fit : ℕ → List ColumnValue → Type 0
Fit m [] = Unit {0}
Fit m (e ∷ es) = (e.column < m) × (e.value < 2 ^ 64) × Fit m es

-- ---- the cells stored

stamps_first : (s : List ℕ) (c i : ℕ) → stamps_at (series s) ≤ cell_at s c i
unfolding stamps_at cell_at column_at column_behind
stamps_first s c i = omega arith

stamp-behind : (s : List ℕ) (i : ℕ) → stamps_at (series s) ≤ stamp_at s i
unfolding stamp_at
stamp-behind s i = omega arith

stamps_high : (s : List ℕ) → 64 ≤ stamps_at (series s)
unfolding stamps_at stamps_behind
stamps_high s = omega arith

-- u is s but for cells of slot i
record CellsOnly (s : List ℕ) (i : ℕ) (u : List ℕ) : Type 0 where
  length-is : length u ≡ length s
  front : (w p : ℕ) → p + w ≤ stamps_at (series s) → get w u p ≡ get w s p
  stamps : (j : ℕ) → j < slots s → stamp u j ≡ stamp s j
  cell_other : i < slots s → (c j : ℕ) → j < slots s → j ≢ i → cell u c j ≡ cell s c j

cells_only : (es : List ColumnValue) (s : List ℕ) (i : ℕ) → CellsOnly s i (put_cells s i es)
unfolding put_cells
cells_only [] s i = record { length-is = refl; front = λ w p h. refl; stamps = λ j h. refl; cell_other = λ hi c j hj ne. refl }
cells_only (e ∷ es) s i =
    let c = e.column in
    let v = e.value in
    let o = cell_at s c i in
    let u = put 8 s o v in
    let n₁ : slots u ≡ slots s = slots-put s o v (cell_at_high s c i) in
    let m₁ : series u ≡ series s = series-put s o v (cell_at_high s c i) in
    let r = cells_only es u i in
    record {
      length-is = r.length-is ∙ length-put 8 s o v;
      front = λ w p h. r.front w p (rw m₁ h) ∙ get-put w 8 s p o v (before (omega (arith, stamps_first s c i)));
      stamps = λ j hj. r.stamps j (rw n₁ hj) ∙ stamp-put-cell s c i v j hj;
      cell_other = λ hi d j hj ne. r.cell_other (rw n₁ hi) d j (rw n₁ hj) ne ∙ cell-put-cell s c i v d j hj hi (λ _. ne);
    }

-- ---- the store of any cells

-- the slot moves the cursor there, or the flag does
pub cursor_moves : (w : Bool) (i k : ℕ) → (w || ltb i k) || leb k i ≡ true
cursor_moves true i k = refl
cursor_moves false i k = go (dec_lt i k)
  where
    go : Dec (i < k) → ltb i k || leb k i ≡ true
    go (yes p) = rw (yes_lt i k p)
    go (no p) = rw (no_lt i k (omega arith), yes_le k i (omega arith))

-- so the cursor is always stored
pub store_is : (r : Ring) (es : List ColumnValue) (t : ℕ)
    → (store r es t).slab ≡ put 4 (put_cells (put 8 r.slab (stamp_at r.slab (slot_of r.slab t)) t) (slot_of r.slab t) es) 32 (slot_of r.slab t)
unfolding store flag_after move_cursor
store_is r es t = rw (cursor_moves r.wrapped (slot_of r.slab t) (cursor r.slab))

pub store_flag : (r : Ring) (es : List ColumnValue) (t : ℕ) → (store r es t).wrapped ≡ (r.wrapped || ltb (slot_of r.slab t) (cursor r.slab))
unfolding store flag_after
store_flag r es t = refl

-- ---- what holds of u after any values went to slot i of s: length, header but for the cursor, directory

pub record SlabKept (s : List ℕ) (i : ℕ) (u : List ℕ) : Type 0 where
  pub length-is : length u ≡ length s
  pub header : (w p : ℕ) → p + w ≤ 32 → get w u p ≡ get w s p
  pub directory : (w p : ℕ) → 36 ≤ p → p + w ≤ stamps_at (series s) → get w u p ≡ get w s p
  pub cursor-is : cursor u ≡ i

pub store_kept : (r : Ring) (es : List ColumnValue) (t : ℕ) → 64 ≤ length r.slab → slot_of r.slab t < 2 ^ 32 → SlabKept r.slab (slot_of r.slab t) (store r es t).slab
store_kept r es t hl hi =
    let s = r.slab in
    let i = slot_of s t in
    let o = stamp_at s i in
    let s₁ = put 8 s o t in
    let m₁ : series s₁ ≡ series s = series-put s o t (stamp_at_high s i) in
    let l₁ : length s₁ ≡ length s = length-put 8 s o t in
    let k = cells_only es s₁ i in
    let s₂ = put_cells s₁ i es in
    rw (store_is r es t) (record {
      length-is = length-put 4 s₂ 32 i ∙ k.length-is ∙ l₁;
      header = λ w p h. get-put w 4 s₂ p 32 i (before h) ∙ k.front w p (rw m₁ (omega (arith, stamps_high s))) ∙ get-put w 8 s p o t (before (omega (arith, stamp_at_high s i)));
      directory = λ w p g h. get-put w 4 s₂ p 32 i (behind g) ∙ k.front w p (rw m₁ h) ∙ get-put w 8 s p o t (before (omega (arith, stamp-behind s i)));
      cursor-is = cursor-same s₂ i (omega (arith, k.length-is, l₁)) (omega arith);
    })

-- ---- whatever the values: the written slot's stamp, and every other slot

pub record Elsewhere (s : List ℕ) (i t : ℕ) (u : List ℕ) : Type 0 where
  pub stamp-is : stamp u i ≡ t
  pub stamp-other : (j : ℕ) → j < slots s → j ≢ i → stamp u j ≡ stamp s j
  pub cell_other : (c j : ℕ) → j < slots s → j ≢ i → cell u c j ≡ cell s c j

pub store_elsewhere : (r : Ring) (es : List ColumnValue) (t : ℕ) → FullLength r.slab → slot_of r.slab t < slots r.slab → t < 2 ^ 64
    → Elsewhere r.slab (slot_of r.slab t) t (store r es t).slab
store_elsewhere r es t wh hi ht =
    let s = r.slab in
    let i = slot_of s t in
    let s₁ = put 8 s (stamp_at s i) t in
    let n₁ : slots s₁ ≡ slots s = slots-put s (stamp_at s i) t (stamp_at_high s i) in
    let k = cells_only es s₁ i in
    let s₂ = put_cells s₁ i es in
    rw (store_is r es t) (record {
      stamp-is = stamp-cursor s₂ i i ∙ k.stamps i (rw n₁ hi) ∙ stamp-same s i t (inside-stamp s i wh hi) ht;
      stamp-other = λ j hj ne. stamp-cursor s₂ i j ∙ k.stamps j (rw n₁ hj) ∙ stamp-put-stamp s i t j ne;
      cell_other = λ c j hj ne. cell-cursor s₂ i c j ∙ k.cell_other (rw n₁ hi) c j (rw n₁ hj) ne ∙ cell-put-stamp s i t c j hi;
    })

-- ---- and with 64-bit values that fit: the stamps and the cells

pub record Wrote (s : List ℕ) (i t : ℕ) (es : List ColumnValue) (u : List ℕ) : Type 0 where
  pub rest : SlabKept s i u
  pub stamp-is : stamp u i ≡ t
  pub stamp-other : (j : ℕ) → j < slots s → j ≢ i → stamp u j ≡ stamp s j
  pub cells : (c j : ℕ) → j < slots s → cell u c j ≡ set_cells (cell s) i es c j

-- ---- the write: it stores the cells for it

pub write-is : (r : Ring) (es : List ColumnValue) (t : ℕ)
    → (write r es t).slab ≡ put 4 (put_cells (put 8 r.slab (stamp_at r.slab (slot_of r.slab t)) t) (slot_of r.slab t) es) 32 (slot_of r.slab t)
unfolding write cells_for
write-is r es t = store_is r es t

pub flag_is : (r : Ring) (es : List ColumnValue) (t : ℕ) → (write r es t).wrapped ≡ (r.wrapped || ltb (slot_of r.slab t) (cursor r.slab))
unfolding write
flag_is r es t = store_flag r (cells_for r.slab es t) t

pub kept : (r : Ring) (es : List ColumnValue) (t : ℕ) → 64 ≤ length r.slab → slot_of r.slab t < 2 ^ 32 → SlabKept r.slab (slot_of r.slab t) (write r es t).slab
unfolding write
kept r es t hl hi = store_kept r (cells_for r.slab es t) t hl hi

pub elsewhere : (r : Ring) (es : List ColumnValue) (t : ℕ) → FullLength r.slab → slot_of r.slab t < slots r.slab → t < 2 ^ 64
    → Elsewhere r.slab (slot_of r.slab t) t (write r es t).slab
unfolding write
elsewhere r es t wh hi ht = store_elsewhere r (cells_for r.slab es t) t wh hi ht
