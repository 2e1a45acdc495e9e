-- One ring, a slab with its wrap flag: the fields, a write, the reading order, the ends (document 01, "Record", "Query" and "The slab's bytes"), the flag at
-- opening (request 2026-02), which stamps are old (request 2026-05). Assumes nothing.
use Rattle.std.specs.Prelude.{ℕ, zero, suc, ◌+◌, ◌-◌, ◌*◌, ◌/◌, ◌%◌, ◌^◌, Bool, true, false, not, ◌&&◌, ◌||◌, cond, List, [], ◌∷◌, leb, ltb, eqb, Option, Some, None}
use Rattle.model.specs.declared.Place.{Place}
use Rattle.model.specs.Bytes.{u32, u64, put32, put64}
use Rattle.model.specs.Layout.{stamps_at, column_at}

-- ---- the fields of a slab

unfoldable pub slots : List ℕ → ℕ
slots s = u32 s 16

unfoldable pub series : List ℕ → ℕ
series s = u32 s 20

unfoldable pub interval : List ℕ → ℕ
interval s = u64 s 24

unfoldable pub cursor : List ℕ → ℕ
cursor s = u32 s 32

-- where slot i's stamp stands, and the cell of column c in slot i
unfoldable pub stamp_at : List ℕ → ℕ → ℕ
stamp_at s i = stamps_at (series s) + 8 * i

unfoldable pub cell_at : List ℕ → ℕ → ℕ → ℕ
cell_at s c i = column_at (slots s) (series s) c + 8 * i

unfoldable pub stamp : List ℕ → ℕ → ℕ
stamp s i = u64 s (stamp_at s i)

unfoldable pub cell : List ℕ → ℕ → ℕ → ℕ
cell s c i = u64 s (cell_at s c i)

-- ---- 64-bit patterns: eleven exponent bits above 52 of fraction

unfoldable pub is_infinite : ℕ → Bool
is_infinite v = eqb (v / 2 ^ 52 % 2 ^ 11) 2047 && eqb (v % 2 ^ 52) 0

unfoldable pub is_nan_bits : ℕ → Bool
is_nan_bits v = eqb (v / 2 ^ 52 % 2 ^ 11) 2047 && not (eqb (v % 2 ^ 52) 0)

-- ---- writing

pub record Ring : Type 0 where
  pub slab : List ℕ
  pub wrapped : Bool

-- a value for a column
pub record ColumnValue : Type 0 where
  pub column : ℕ
  pub value : ℕ

unfoldable pub slot_of : List ℕ → ℕ → ℕ
slot_of s t = t / interval s % slots s

-- t is below the stamp that its slot holds (request 2026-05): such a write is refused by record and record_batch, and passed over by consolidation
unfoldable pub is_old : List ℕ → ℕ → Bool
is_old s t = ltb t (stamp s (slot_of s t))

-- the values in slot i of their columns, in order; other columns' cells stay
unfoldable pub put_cells : List ℕ → ℕ → List ColumnValue → List ℕ
put_cells s i [] = s
put_cells s i (e ∷ es) = put_cells (put64 s (cell_at s e.column i) e.value) i es

unfoldable pub move_cursor : Bool → List ℕ → ℕ → List ℕ
move_cursor true s i = put32 s 32 i
move_cursor false s i = s

-- the flag after a write to slot i
unfoldable pub flag_after : Ring → ℕ → Bool
flag_after r i = r.wrapped || ltb i (cursor r.slab)

-- stamp t and these cells, stored in t's slot
unfoldable pub store : Ring → List ColumnValue → ℕ → Ring
store r es t =
    let s = r.slab in
    let i = slot_of s t in
    record { slab = move_cursor (flag_after r i || leb (cursor s) i) (put_cells (put64 s (stamp_at s i) t) i es) i; wrapped = flag_after r i }

-- the cells that a write of these values at t stores: the values as given
unfoldable pub cells_for : List ℕ → List ColumnValue → ℕ → List ColumnValue
cells_for s es t = es

-- stamp t and the values: `write` for one value, `write_batch` for any number, none included
unfoldable pub write : Ring → List ColumnValue → ℕ → Ring
write r es t = store r (cells_for r.slab es t) t

-- ---- the reading order

-- k slots of n, from slot i on, round the ring
unfoldable pub walk : ℕ → ℕ → ℕ → List ℕ
walk n i zero = []
walk n i (suc k) = i ∷ walk n (suc i % n) k

-- the stamp at the cursor is 0
unfoldable pub is_empty : List ℕ → Bool
is_empty s = eqb (stamp s (cursor s)) 0

-- where a reading starts, and over how many slots it goes: from cursor + 1 over all when wrapped, else from 0 up to the cursor
unfoldable pub first_place : Ring → Place
first_place r =
    let s = r.slab in
    cond (is_empty s) (record { slot = 0; left = 0 })
    (cond r.wrapped (record { slot = suc (cursor s) % slots s; left = slots s }) (record { slot = 0; left = suc (cursor s) }))

unfoldable pub order : Ring → List ℕ
order r = walk (slots r.slab) (first_place r).slot (first_place r).left

-- ---- the ends

-- a stamp as an end: 0 is none
unfoldable pub end_of : ℕ → Option ℕ
end_of zero = None
end_of (suc t) = Some (suc t)

-- the stamp at the cursor
unfoldable pub newest : Ring → Option ℕ
newest r = end_of (stamp r.slab (cursor r.slab))

unfoldable pub or_stamp : ℕ → ℕ → ℕ
or_stamp zero t = t
or_stamp (suc u) t = suc u

-- the first nonzero stamp of these slots, or 0
unfoldable pub first_stamp : List ℕ → List ℕ → ℕ
first_stamp s [] = 0
first_stamp s (i ∷ is) = or_stamp (stamp s i) (first_stamp s is)

unfoldable pub oldest : Ring → Option ℕ
oldest r = end_of (first_stamp r.slab (order r))

-- ---- the flag that opening works out

-- one of the k slots from slot i on has a nonzero stamp
unfoldable pub any_stamp : List ℕ → ℕ → ℕ → Bool
any_stamp s i zero = false
any_stamp s i (suc k) = not (eqb (stamp s i) 0) || any_stamp s (suc i) k

-- some slot numbered above the cursor has one (in document 01 the slot after the cursor alone counted)
unfoldable pub wrap_flag : List ℕ → Bool
wrap_flag s = any_stamp s (suc (cursor s)) (slots s - suc (cursor s))

-- names every definition of this module, for a proof by computation: `unfolding Ring-defs`
unfoldable pub Ring-defs : Unit {0}
unfolding slots series interval cursor stamp_at cell_at stamp cell is_infinite is_nan_bits slot_of is_old put_cells move_cursor flag_after store cells_for write walk is_empty first_place order end_of newest or_stamp first_stamp oldest any_stamp wrap_flag
Ring-defs = tt
