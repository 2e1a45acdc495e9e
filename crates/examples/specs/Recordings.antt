-- What a recording accepts, stores and leaves: patterns of NaN, stamps, batches, two schemas with different max series. By computation. Assumes nothing.
use Rattle.std.specs.Prelude.{ℕ, ◌-◌, ◌^◌, ◌≡◌, refl, Bool, true, false, List, [], ◌∷◌, ◌++◌, replicate, Some}
use Rattle.model.specs.declared.Row.{Row}
use Rattle.model.specs.Bytes.{put}
use Rattle.model.specs.Layout.{fresh_head, fresh_slab}
use Rattle.model.specs.Ring.{Ring, write}
use Rattle.model.specs.Lent.{Lent, creation, ring}
use Rattle.model.specs.Record.{Entry, entries}
use Rattle.model.specs.Store.{Call, Reply, call, after, record_call, batch_call, query_call, auto_call, consolidate_call, refused, done, wrote, read, accepted, writes, points}
use Rattle.model.specs.Cases.{Cases-defs, tier_of, tier, plan_of, num, infinity, story, last, Case, ◌gives◌, Holds, rec, end64, everything, at}

-- ---- patterns: NaN by its exponent and a fraction that is not zero, whatever sign and quiet bit

unfoldable pub negative : ℕ
negative = 0xfff8_0000_0000_0000

-- the quiet bit not set
unfoldable pub signalling : ℕ
signalling = 0x7ff0_0000_0000_0001

-- the greatest finite number
unfoldable pub greatest : ℕ
greatest = 0x7fef_ffff_ffff_ffff

-- 10 for 20 into 20 for 40, by function f
unfoldable pub pair_by : ℕ → List Row
pair_by f = tier 0 10 20 0 ∷ tier 1 20 40 f ∷ []

unfoldable pub nans : List Case
nans =
    -- accepted, but not handed out
    (story (pair_by 6) (record_call 0 0 negative 20 ∷ []) gives last (false ∷ false ∷ []) (0 ∷ 0 ∷ []) accepted)
    ∷ (story (pair_by 6) (record_call 0 0 negative 20 ∷ rec 30 3 ∷ everything 0 ∷ []) gives last (false ∷ false ∷ []) (0 ∷ 0 ∷ []) (points 0 (Some 20) (Some 30) 0 end64 true (at 30 3 ∷ [])))
    ∷ (story (pair_by 6) (batch_call (record { schema = 0; column = 0; value = signalling } ∷ []) 20 ∷ []) gives last (false ∷ false ∷ []) (0 ∷ 0 ∷ []) accepted)
    ∷ (story (pair_by 6) (record_call 0 0 signalling 20 ∷ rec 30 3 ∷ everything 0 ∷ []) gives last (false ∷ false ∷ []) (0 ∷ 0 ∷ []) (points 0 (Some 20) (Some 30) 0 end64 true (at 30 3 ∷ [])))
    -- no value of a window: it is not counted, and alone it makes no write
    ∷ (story (pair_by 6) (record_call 0 0 negative 20 ∷ rec 30 3 ∷ consolidate_call ∷ everything 1 ∷ [])
    gives last (false ∷ false ∷ []) (30 ∷ 0 ∷ []) (points 1 (Some 20) (Some 20) 0 end64 true (at 20 1 ∷ [])))
    ∷ (story (pair_by 6) (record_call 0 0 signalling 20 ∷ rec 30 3 ∷ consolidate_call ∷ everything 1 ∷ [])
    gives last (false ∷ false ∷ []) (30 ∷ 0 ∷ []) (points 1 (Some 20) (Some 20) 0 end64 true (at 20 1 ∷ [])))
    ∷ (story (pair_by 6) (record_call 0 0 negative 20 ∷ record_call 0 0 signalling 30 ∷ consolidate_call ∷ []) gives last (false ∷ false ∷ []) (0 ∷ 0 ∷ []) (writes 0))
    -- the greatest finite number is a number
    ∷ (story (pair_by 2) (record_call 0 0 greatest 20 ∷ consolidate_call ∷ everything 1 ∷ [])
    gives last (false ∷ false ∷ []) (20 ∷ 0 ∷ []) (points 1 (Some 20) (Some 20) 0 end64 true (record { stamp = 20; value = greatest } ∷ [])))
    ∷ []

pub nans_are : Holds nans
unfolding Cases-defs negative signalling greatest pair_by nans
nans_are = (refl, (refl, (refl, (refl, (refl, (refl, (refl, (refl, tt))))))))

-- ---- two schemas: one series and two slots, at 160; three series and two slots, at 260

unfoldable pub uneven : Lent
uneven = creation (plan_of 2 (tier_of 0 0 10 20 0 1 ∷ tier_of 1 0 10 20 0 3 ∷ [])) (record { image = replicate 402 9; flags = replicate 32 true })

unfoldable pub number : Reply → ℕ
number (refused n) = n
number done = 0
number (wrote k) = 0
number (read a) = 0

unfoldable pub entry_of : ℕ → ℕ → ℕ → Entry
entry_of k c v = record { schema = k; column = c; value = v }

-- the numbers that these calls give, each on the same store
unfoldable pub on : Lent → List Call → List ℕ
on l [] = []
on l (c ∷ cs) = number (call l c).reply ∷ on l cs

-- a column is judged by its own schema's max series, whether that is the smaller or the greater; stamp 1 is good
pub columns_are :
    on uneven (record_call 0 0 0 10 ∷ record_call 0 1 0 10 ∷ record_call 1 2 0 10 ∷ record_call 1 3 0 10 ∷ record_call 2 0 0 10 ∷ record_call 0 0 0 1
    ∷ batch_call (entry_of 1 2 0 ∷ entry_of 0 0 0 ∷ []) 1 ∷ batch_call (entry_of 1 2 0 ∷ entry_of 0 1 0 ∷ []) 10 ∷ batch_call (entry_of 0 0 0 ∷ entry_of 1 3 0 ∷ []) 10
    ∷ query_call 0 1 0 5 9 ∷ query_call 1 2 0 5 9 ∷ query_call 1 3 0 5 9 ∷ auto_call 0 1 5 9 ∷ auto_call 1 2 5 9 ∷ auto_call 1 3 5 9 ∷ [])
    ≡ 0 ∷ 11 ∷ 0 ∷ 11 ∷ 11 ∷ 0 ∷ 0 ∷ 11 ∷ 11 ∷ 11 ∷ 0 ∷ 11 ∷ 11 ∷ 0 ∷ 11 ∷ []
unfolding Cases-defs uneven number entry_of on
columns_are = refl

-- any entry of a batch is judged, the first too: 11, 12; a batch's stamp may be 2^63 - 1, not 2^63
pub first-entries :
    on uneven (batch_call (entry_of 1 3 0 ∷ entry_of 1 0 0 ∷ []) 10 ∷ batch_call (entry_of 1 0 infinity ∷ entry_of 1 1 0 ∷ []) 10 ∷ batch_call (entry_of 2 0 0 ∷ []) 10
    ∷ batch_call (entry_of 1 0 0 ∷ entry_of 1 1 infinity ∷ entry_of 1 2 0 ∷ []) 10 ∷ batch_call (entry_of 1 0 0 ∷ []) (2 ^ 63 - 1) ∷ batch_call (entry_of 1 0 0 ∷ []) (2 ^ 63) ∷ [])
    ≡ 11 ∷ 12 ∷ 11 ∷ 12 ∷ 0 ∷ 13 ∷ []
unfolding Cases-defs uneven number entry_of on
first-entries = refl

-- ---- what a batch leaves

-- both rings
unfoldable pub rings : Lent → List Ring
rings l = ring l 0 ∷ ring l 1 ∷ []

-- schema 0's ring with a sample in slot 1, the cursor there
unfoldable pub begun : Ring
begun = record { slab = put 8 (put 8 (put 4 (fresh_slab 7 2 1 10) 32 1) 76 10) 92 (num 5); wrapped = false }

-- an empty batch leaves the store as it was, at a good stamp and at a bad one
pub empty_leaves : after uneven (record_call 0 0 (num 5) 10 ∷ batch_call [] 20 ∷ batch_call [] 0 ∷ batch_call [] 5 ∷ []) ≡ (call uneven (record_call 0 0 (num 5) 10)).lent
unfolding Cases-defs uneven
empty_leaves = refl

pub empty-rings : rings (after uneven (record_call 0 0 (num 5) 10 ∷ batch_call [] 20 ∷ batch_call [] 0 ∷ [])) ≡ begun ∷ record { slab = fresh_slab 7 2 3 10; wrapped = false } ∷ []
unfolding Cases-defs uneven rings begun
empty-rings = refl

-- a batch for schema 1 alone leaves schema 0's ring, bytes and flag; its own has stamp and values, each in its column, and column 1 as it was
pub alone_are :
    rings (after uneven (record_call 0 0 (num 5) 10 ∷ batch_call (entry_of 1 2 (num 7) ∷ entry_of 1 0 (num 6) ∷ []) 20 ∷ []))
    ≡ begun ∷ record { slab = put 8 (put 8 (put 8 (fresh_slab 7 2 3 10) 76 20) 92 (num 6)) 124 (num 7); wrapped = false } ∷ []
unfolding Cases-defs uneven entry_of rings begun
alone_are = refl

-- and one for schema 0 alone leaves schema 1's. It wraps: slot 0 is below the cursor
pub alone_too :
    rings (after uneven (record_call 0 0 (num 5) 10 ∷ batch_call (entry_of 0 0 (num 7) ∷ []) 20 ∷ []))
    ≡ record { slab = put 8 (put 8 (put 8 (put 8 (fresh_slab 7 2 1 10) 68 20) 76 10) 84 (num 7)) 92 (num 5); wrapped = true }
    ∷ record { slab = fresh_slab 7 2 3 10; wrapped = false } ∷ []
unfolding Cases-defs uneven entry_of rings begun
alone_too = refl

-- ---- a ring's write

-- five slots of an interval above 2^32, two series; a flag that is set stays set, and the cursor goes on
unfoldable pub slow : Ring
slow = record { slab = fresh_slab 7 5 2 0x1_0000_000a; wrapped = true }

-- slot 3 of column 1
pub slow-write :
    write slow (record { column = 1; value = num 4 } ∷ []) 0x3_0000_0020
    ≡ record { slab = put 4 (put 8 (put 8 (fresh_slab 7 5 2 0x1_0000_000a) 96 0x3_0000_0020) 176 (num 4)) 32 3; wrapped = true }
unfolding Cases-defs slow
slow-write = refl

-- the same slot again: no wrap; a lower one: a wrap, and the cursor goes back; a higher one: no wrap; with the flag set a lower one: it stays set
unfoldable pub writes3 : Bool → ℕ → Ring
writes3 b t = write (record { slab = put 4 (fresh_slab 7 3 1 10) 32 1; wrapped = b }) [] t

pub cursors_are :
    (writes3 false 10 ≡ record { slab = put 8 (put 4 (fresh_slab 7 3 1 10) 32 1) 76 10; wrapped = false })
    × (writes3 false 9 ≡ record { slab = put 8 (fresh_slab 7 3 1 10) 68 9; wrapped = true })
    × (writes3 false 29 ≡ record { slab = put 8 (put 4 (fresh_slab 7 3 1 10) 32 2) 84 29; wrapped = false })
    × (writes3 true 30 ≡ record { slab = put 8 (fresh_slab 7 3 1 10) 68 30; wrapped = true })
unfolding Cases-defs writes3
cursors_are = (refl, refl, refl, refl)

-- the header alone of a slab of 300 slots, its cursor at c: the cursor is more than a byte. The stamp falls past the end
unfoldable pub header300 : ℕ → List ℕ
header300 c = put 4 (fresh_head 7 300 1 10) 32 c

pub wide_cursors :
    (write (record { slab = header300 0; wrapped = false }) [] 2990 ≡ record { slab = header300 299; wrapped = false })
    × (write (record { slab = header300 256; wrapped = false }) [] 2550 ≡ record { slab = header300 255; wrapped = true })
unfolding Cases-defs header300
wide_cursors = (refl, refl)

-- ---- entries as lent: none of 0 and of 15 bytes, one of 16, wide fields

pub entries_are :
    (entries [] ≡ []) × (entries (replicate 15 1) ≡ []) × (entries (replicate 16 1) ≡ entry_of 0x0101_0101 0x0101_0101 0x0101_0101_0101_0101 ∷ [])
    × (entries (replicate 16 1 ++ replicate 16 2 ++ replicate 16 3) ≡ entry_of 0x0101_0101 0x0101_0101 0x0101_0101_0101_0101
    ∷ entry_of 0x0202_0202 0x0202_0202 0x0202_0202_0202_0202 ∷ entry_of 0x0303_0303 0x0303_0303 0x0303_0303_0303_0303 ∷ [])
unfolding Cases-defs entry_of
entries_are = (refl, refl, refl, refl)
