-- Bytes and layout, plans and images of several rows, to the byte; faults also in rows that are not the first. By computation. Assumes nothing.
use Rattle.std.specs.Prelude.{ℕ, zero, suc, ◌-◌, ◌^◌, ◌≡◌, refl, true, false, List, [], ◌∷◌, ◌++◌, map, take, replicate, Some, None, Ok, Err}
use Rattle.model.specs.declared.Row.{Row}
use Rattle.model.specs.declared.Refusal.TheVariants.{BadImage, NoTiers, InvalidMaxSeries, InvalidTierConfig, TooManySlots, TiersNotOrdered, ConsolidationOnHighestTier, LayoutTooLarge}
use Rattle.model.specs.declared.Refusal.TheVariants.{ShortBuffer, CorruptedSlab, InvalidHandle, InvalidValue, InvalidTimestamp, InvalidTier, InvalidTimeRange, NoConsolidationFunction, OffPanel, OldSample}
use Rattle.model.specs.declared.ConsolidationFn.TheVariants.{Average, Min, Max, Last, Sum, Count}
use Rattle.model.specs.Bytes.{le, bytes, part, splice, get, put}
use Rattle.model.specs.Words.{number_of, outcome_no, function_no}
use Rattle.model.specs.Image.{image_length, plan_check, create_check, open_check}
use Rattle.model.specs.Lent.{Lent, creation}
use Rattle.model.specs.Cases.{Cases-defs, tier_of, tier, plan_of, plan}

-- ---- bytes and words

-- a number's lowest bytes alone are stored, the least first, and read so; what lies past a list's end is not stored, and counts as 0
pub bytes_are : (bytes 2 0x1_2345 ≡ 0x45 ∷ 0x23 ∷ []) × (le (0x45 ∷ 0x23 ∷ 1 ∷ []) ≡ 0x1_2345) × (get 2 (9 ∷ 1 ∷ 2 ∷ 9 ∷ []) 1 ≡ 0x201) × (get 4 (9 ∷ 3 ∷ []) 1 ≡ 3)
    × (splice (1 ∷ 2 ∷ 3 ∷ []) 1 (7 ∷ []) ≡ 1 ∷ 7 ∷ 3 ∷ []) × (splice (1 ∷ 2 ∷ []) 1 (7 ∷ 8 ∷ []) ≡ 1 ∷ 7 ∷ []) × (part (1 ∷ 2 ∷ 3 ∷ 4 ∷ []) 1 2 ≡ 2 ∷ 3 ∷ [])
unfolding Cases-defs
bytes_are = (refl, refl, refl, refl, refl, refl, refl)

-- the refusals' numbers, and the functions by theirs
pub numbers_are :
    map number_of (BadImage ∷ NoTiers ∷ InvalidMaxSeries ∷ InvalidTierConfig ∷ TooManySlots ∷ TiersNotOrdered ∷ ConsolidationOnHighestTier ∷ LayoutTooLarge ∷ ShortBuffer
    ∷ CorruptedSlab ∷ InvalidHandle ∷ InvalidValue ∷ InvalidTimestamp ∷ InvalidTier ∷ InvalidTimeRange ∷ NoConsolidationFunction ∷ OffPanel ∷ OldSample ∷ [])
    ≡ 1 ∷ 2 ∷ 3 ∷ 4 ∷ 5 ∷ 6 ∷ 7 ∷ 8 ∷ 9 ∷ 10 ∷ 11 ∷ 12 ∷ 13 ∷ 14 ∷ 15 ∷ 16 ∷ 17 ∷ 18 ∷ []
numbers_are = refl

pub outcomes_are : outcome_no (Ok tt) ∷ outcome_no (Err ShortBuffer) ∷ [] ≡ 0 ∷ 9 ∷ []
outcomes_are = refl

pub functions_are : map function_no (0 ∷ 1 ∷ 2 ∷ 3 ∷ 4 ∷ 5 ∷ 6 ∷ []) ≡ None ∷ Some Average ∷ Some Min ∷ Some Max ∷ Some Last ∷ Some Sum ∷ Some Count ∷ []
unfolding Cases-defs
functions_are = refl

-- ---- plans

-- k schemas of one slot, from schema j on
unfoldable pub each : ℕ → ℕ → List Row
each j zero = []
each j (suc k) = tier_of j 0 10 10 0 1 ∷ each (suc j) k

-- eight schemas are good; schemas 0 and 2 of three are 2; 10 goes four times into 45: four slots, 264 bytes; 2^63 - 1 is a good retention and interval
pub plans_are :
    plan_check (plan_of 8 (each 0 8)) ∷ plan_check (plan_of 3 (tier_of 0 0 10 10 0 1 ∷ tier_of 2 0 10 10 0 1 ∷ [])) ∷ image_length (plan (tier 0 10 45 0 ∷ []))
    ∷ plan_check (plan (tier 0 (2 ^ 62) (2 ^ 63 - 1) 0 ∷ [])) ∷ plan_check (plan (tier 0 (2 ^ 63 - 1) (2 ^ 63 - 1) 0 ∷ [])) ∷ []
    ≡ 0 ∷ 2 ∷ 264 ∷ 0 ∷ 0 ∷ []
unfolding Cases-defs each
plans_are = refl

-- 1: tiers 0, 1, 3; tier 0 twice; schema 1 of one schema in the second row; the magic's last byte; version 0; the last of the header's zero bytes
-- 6: the third interval not above the second; 4: the third tier's; 3, 7, 6 and 4 of schema 1; schema 0's 7 before schema 1's 3
unfoldable pub faulty : List (List ℕ)
faulty =
    plan (tier 0 10 20 0 ∷ tier 1 20 20 1 ∷ tier 3 40 40 1 ∷ []) ∷ plan (tier 0 10 20 0 ∷ tier 0 20 20 0 ∷ []) ∷ plan_of 1 (each 0 2)
    ∷ put 1 (plan (each 0 1)) 3 0 ∷ put 4 (plan (each 0 1)) 4 0 ∷ put 1 (plan (each 0 1)) 31 1
    ∷ plan (tier 0 10 20 0 ∷ tier 1 20 20 1 ∷ tier 2 20 40 1 ∷ []) ∷ plan (tier 0 10 20 0 ∷ tier 1 20 20 1 ∷ tier 2 40 30 1 ∷ [])
    ∷ plan_of 2 (tier_of 0 0 10 10 0 1 ∷ tier_of 1 0 10 10 0 0 ∷ []) ∷ plan_of 2 (tier_of 0 0 10 10 0 1 ∷ tier_of 1 0 10 10 1 1 ∷ [])
    ∷ plan_of 2 (tier_of 0 0 10 10 0 1 ∷ tier_of 1 0 10 10 0 1 ∷ tier_of 1 1 10 10 1 1 ∷ []) ∷ plan_of 2 (tier_of 0 0 10 10 0 1 ∷ tier_of 1 0 10 9 0 1 ∷ [])
    ∷ plan_of 2 (tier_of 0 0 10 10 1 1 ∷ tier_of 1 0 10 10 0 0 ∷ []) ∷ []

pub faulty_are : map plan_check faulty ≡ 1 ∷ 1 ∷ 1 ∷ 1 ∷ 1 ∷ 1 ∷ 6 ∷ 4 ∷ 3 ∷ 7 ∷ 6 ∷ 4 ∷ 7 ∷ []
unfolding Cases-defs each faulty
faulty_are = refl

-- of the second row: function 7; offset, slab length and mark not zero, by the lowest byte and by the highest; and the highest byte of the total length
unfoldable pub second_row : List ℕ → List ℕ
second_row p =
    plan_check p ∷ plan_check (put 4 p 120 7) ∷ plan_check (put 1 p 128 1) ∷ plan_check (put 1 p 136 1) ∷ plan_check (put 1 p 144 1)
    ∷ plan_check (put 1 p 135 1) ∷ plan_check (put 1 p 143 1) ∷ plan_check (put 1 p 151 1) ∷ plan_check (put 1 p 23 1) ∷ []

pub second-row : second_row (plan (tier 0 10 20 0 ∷ tier 1 20 20 1 ∷ [])) ≡ 0 ∷ 1 ∷ 1 ∷ 1 ∷ 1 ∷ 1 ∷ 1 ∷ 1 ∷ 1 ∷ []
unfolding Cases-defs second_row
second-row = refl

-- the highest bytes of version, schema count, row count; of a row's schema, tier and function
unfoldable pub highest : List ℕ → List ℕ
highest p = plan_check (put 1 p 7 1) ∷ plan_check (put 1 p 11 1) ∷ plan_check (put 1 p 15 1) ∷ plan_check (put 1 p 35 1) ∷ plan_check (put 1 p 39 1) ∷ plan_check (put 1 p 59 1) ∷ []

pub highest_are : highest (plan (each 0 1)) ≡ 1 ∷ 1 ∷ 1 ∷ 1 ∷ 1 ∷ 1 ∷ []
unfolding Cases-defs each highest
highest_are = refl

-- ---- an image of two schemas that differ in everything, to the byte

-- schema 0: 10 for 15, one series. Schema 1: 20 for 45 into 40 for 40, three series. The rows' hashes stand at 88, 152 and 216
unfoldable pub mixed_plan : List ℕ
mixed_plan =
    put 8 (put 8 (put 8 (plan_of 2 (tier_of 0 0 10 15 0 1 ∷ tier_of 1 0 20 45 0 3 ∷ tier_of 1 1 40 40 6 3 ∷ []))
    88 0x1122_3344_5566_7788) 152 0x99aa_bbcc_ddee_ff01) 216 0x99aa_bbcc_ddee_ff01

unfoldable pub mixed : Lent
mixed = creation mixed_plan (record { image = replicate 559 9; flags = replicate 32 true })

-- a plan's surplus is not read
unfoldable pub mixed_too : Lent
mixed_too = creation (mixed_plan ++ 5 ∷ []) (record { image = replicate 559 9; flags = replicate 32 true })

-- the two hashes as bytes
unfoldable pub one : List ℕ
one = 0x88 ∷ 0x77 ∷ 0x66 ∷ 0x55 ∷ 0x44 ∷ 0x33 ∷ 0x22 ∷ 0x11 ∷ []

unfoldable pub other : List ℕ
other = 0x01 ∷ 0xff ∷ 0xee ∷ 0xdd ∷ 0xcc ∷ 0xbb ∷ 0xaa ∷ 0x99 ∷ []

-- a u32 and a u64 below 256, and k fresh values
unfoldable pub w4 : ℕ → List ℕ
w4 x = x ∷ replicate 3 0

unfoldable pub w8 : ℕ → List ℕ
w8 x = x ∷ replicate 7 0

unfoldable pub values : ℕ → List ℕ
values zero = []
values (suc k) = 0 ∷ 0 ∷ 0 ∷ 0 ∷ 0 ∷ 0 ∷ 0xf8 ∷ 0x7f ∷ values k

unfoldable pub mixed_bytes : List ℕ
mixed_bytes =
    (0x52 ∷ 0x53 ∷ 0x54 ∷ 0x4f ∷ []) ++ w4 1 ++ w4 2 ++ w4 3 ++ (0x2c ∷ 2 ∷ replicate 6 0) ++ replicate 8 0
    ++ w4 0 ++ w4 0 ++ w8 10 ++ w8 15 ++ w4 0 ++ w4 1 ++ w8 224 ++ w8 84 ++ w8 0 ++ one
    ++ w4 1 ++ w4 0 ++ w8 20 ++ w8 45 ++ w4 0 ++ w4 3 ++ (0x34 ∷ 1 ∷ replicate 6 0) ++ w8 140 ++ w8 0 ++ other
    ++ w4 1 ++ w4 1 ++ w8 40 ++ w8 40 ++ w4 6 ++ w4 3 ++ (0xc0 ∷ 1 ∷ replicate 6 0) ++ w8 108 ++ w8 0 ++ other
    ++ (0x52 ∷ 0x4e ∷ 0x44 ∷ 0x4f ∷ []) ++ w4 1 ++ one ++ w4 1 ++ w4 1 ++ w8 10 ++ replicate 32 0 ++ replicate 4 255 ++ replicate 8 0 ++ values 1
    ++ (0x52 ∷ 0x4e ∷ 0x44 ∷ 0x4f ∷ []) ++ w4 1 ++ other ++ w4 2 ++ w4 3 ++ w8 20 ++ replicate 32 0 ++ replicate 12 255 ++ replicate 16 0 ++ values 6
    ++ (0x52 ∷ 0x4e ∷ 0x44 ∷ 0x4f ∷ []) ++ w4 1 ++ other ++ w4 1 ++ w4 3 ++ w8 40 ++ replicate 32 0 ++ replicate 12 255 ++ replicate 8 0 ++ values 3
    ++ replicate 3 9

unfoldable pub Images-defs : Unit {0}
unfolding Cases-defs mixed_plan mixed mixed_too one other w4 w8 values mixed_bytes
Images-defs = tt

pub mixed-is : (mixed.image ≡ mixed_bytes) × (mixed.flags ≡ false ∷ false ∷ false ∷ replicate 29 true) × (mixed_too.image ≡ mixed_bytes)
unfolding Images-defs
mixed-is = (refl, refl, refl)

-- it needs all its 556 bytes
pub mixed_needs : create_check mixed_plan (replicate 555 0) ∷ create_check mixed_plan (replicate 556 0) ∷ open_check mixed_bytes ∷ open_check (take 555 mixed_bytes) ∷ open_check (take 556 mixed_bytes) ∷ [] ≡ 9 ∷ 0 ∷ 0 ∷ 1 ∷ 0 ∷ []
unfolding Images-defs
mixed_needs = refl

-- ---- opening it, with a field changed

-- 1, of the second row: offset and slab length, one more, one less, and by the highest byte; function 7; a mark of 2^63; the hash. Good: a mark below 2^63
unfoldable pub opened_rows : List ℕ → List ℕ
opened_rows s =
    open_check (put 1 s 128 0x35) ∷ open_check (put 1 s 128 0x33) ∷ open_check (put 1 s 135 1) ∷ open_check (put 1 s 136 141) ∷ open_check (put 1 s 136 139)
    ∷ open_check (put 1 s 143 1) ∷ open_check (put 1 s 120 7) ∷ open_check (put 1 s 151 0x80) ∷ open_check (put 1 s 159 0) ∷ open_check (put 1 s 151 0x7f)
    -- the third row's offset and slab length; the highest byte of the total length
    ∷ open_check (put 1 s 192 0xc1) ∷ open_check (put 1 s 200 109) ∷ open_check (put 1 s 23 1) ∷ []

pub opened_rows_lem : opened_rows mixed_bytes ≡ 1 ∷ 1 ∷ 1 ∷ 1 ∷ 1 ∷ 1 ∷ 1 ∷ 1 ∷ 1 ∷ 0 ∷ 1 ∷ 1 ∷ 1 ∷ []
unfolding Images-defs opened_rows
opened_rows_lem = refl

-- 10, of the second slab, which stands at 308: magic's last byte, version 0, the hash's and the interval's highest bytes, slots, series, cursor 2; good: cursor 1
unfoldable pub opened_slabs : List ℕ → List ℕ
opened_slabs s =
    open_check (put 1 s 311 0) ∷ open_check (put 1 s 312 0) ∷ open_check (put 1 s 323 0) ∷ open_check (put 1 s 339 1) ∷ open_check (put 1 s 324 1)
    ∷ open_check (put 1 s 328 1) ∷ open_check (put 1 s 340 2) ∷ open_check (put 1 s 340 1)
    -- more slots and series than the row's; the highest bytes of version, slots, series and cursor
    ∷ open_check (put 1 s 324 3) ∷ open_check (put 1 s 328 4) ∷ open_check (put 1 s 315 1) ∷ open_check (put 1 s 327 1) ∷ open_check (put 1 s 331 1) ∷ open_check (put 1 s 343 1)
    -- the third slab's magic; the second slab's magic and the third row's offset both wrong: 1, which comes before every 10
    ∷ open_check (put 1 s 448 0) ∷ open_check (put 1 (put 1 s 308 0) 192 0xc1) ∷ []

pub opened_slabs_lem : opened_slabs mixed_bytes ≡ 10 ∷ 10 ∷ 10 ∷ 10 ∷ 10 ∷ 10 ∷ 10 ∷ 0 ∷ 10 ∷ 10 ∷ 10 ∷ 10 ∷ 10 ∷ 10 ∷ 10 ∷ 1 ∷ []
unfolding Images-defs opened_slabs
opened_slabs_lem = refl
