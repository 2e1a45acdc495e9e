-- The wrap flags that opening works out, row by row; opening as a call; the rows' numbers by schema and tier. By computation. Assumes nothing.
use Rattle.std.specs.Prelude.{ℕ, ◌+◌, ◌*◌, ◌≡◌, refl, Bool, true, false, List, [], ◌∷◌, map, drop, replicate, Some, None}
use Rattle.model.specs.Bytes.{put}
use Rattle.model.specs.Layout.{fresh_slab}
use Rattle.model.specs.Ring.{Ring, wrap_flag, oldest, newest, order, first_place}
use Rattle.model.specs.Lent.{Lent, creation, opening, ring, row_no, tiers}
use Rattle.model.specs.Store.{call, open_call, refused, done}
use Rattle.model.specs.Cases.{Cases-defs, tier_of, plan_of}

-- ---- one slab's flag

-- three slots with these stamps
unfoldable pub stamped : ℕ → ℕ → ℕ → ℕ → List ℕ
stamped cursor a b c = put 8 (put 8 (put 8 (put 4 (fresh_slab 7 3 1 10) 32 cursor) 68 a) 76 b) 84 c

-- two slots
unfoldable pub stamped2 : ℕ → ℕ → ℕ → List ℕ
stamped2 cursor a b = put 8 (put 8 (put 4 (fresh_slab 7 2 1 10) 32 cursor) 68 a) 76 b

-- a stamp in any slot above the cursor counts, in the next one or in the last; those below it and at it do not, and above the last slot there is none. Any
-- nonzero stamp counts: the one at the cursor once more, and one with its highest bit alone
pub flags_are :
    map wrap_flag (stamped 1 10 20 30 ∷ stamped 1 0 20 30 ∷ stamped 1 10 20 0 ∷ stamped 2 10 0 20 ∷ stamped 2 0 10 20
    ∷ stamped 0 10 20 0 ∷ stamped 0 10 0 20 ∷ stamped 0 0 0 20 ∷ stamped 0 10 0 0 ∷ stamped2 0 10 20 ∷ stamped2 0 10 0 ∷ stamped2 1 10 20 ∷ stamped2 1 0 20
    ∷ stamped 1 10 20 20 ∷ stamped 0 10 0 0x8000_0000_0000_0000 ∷ [])
    ≡ true ∷ true ∷ false ∷ false ∷ false ∷ true ∷ true ∷ true ∷ false ∷ true ∷ false ∷ false ∷ false ∷ true ∷ true ∷ []
unfolding Cases-defs stamped stamped2
flags_are = refl

-- twelve slots, a stamp in slot i alone: the tenth above the cursor, the ninth, the first; one below it
unfoldable pub stamped_at : ℕ → ℕ → List ℕ
stamped_at cursor i = put 8 (put 4 (fresh_slab 7 12 1 10) 32 cursor) (68 + 8 * i) 120

pub far_are : map wrap_flag (stamped_at 1 11 ∷ stamped_at 1 10 ∷ stamped_at 10 11 ∷ stamped_at 11 10 ∷ []) ≡ true ∷ true ∷ true ∷ false ∷ []
unfolding Cases-defs stamped_at
far_are = refl

-- ---- an image of two rows: a slab of three slots at 160, one of two at 276

unfoldable pub fresh2 : List ℕ
fresh2 = (creation (plan_of 1 (tier_of 0 0 10 30 0 1 ∷ tier_of 0 1 20 40 1 1 ∷ [])) (record { image = replicate 378 9; flags = replicate 32 true })).image

-- stamps by hand, so that the first ring's flag comes out true (cursor 1, slot 2 stamped), or the second's (cursor 0, slot 1 stamped)
unfoldable pub first_wrapped : List ℕ
first_wrapped = put 8 (put 1 fresh2 192 1) 244 30

unfoldable pub second_wrapped : List ℕ
second_wrapped = put 8 fresh2 352 60

-- the flags before: both rows' true, and past R a false among true
unfoldable pub before : List Bool
before = true ∷ true ∷ false ∷ true ∷ replicate 28 true

-- each row has its own flag, the flags past R stay, and so do all the bytes
pub first_wrapped_lem : opening (record { image = first_wrapped; flags = before }) ≡ record { image = first_wrapped; flags = true ∷ false ∷ drop 2 before }
unfolding Cases-defs fresh2 first_wrapped before
first_wrapped_lem = refl

pub second_wrapped_lem : opening (record { image = second_wrapped; flags = before }) ≡ record { image = second_wrapped; flags = false ∷ true ∷ drop 2 before }
unfolding Cases-defs fresh2 second_wrapped before
second_wrapped_lem = refl

-- a refused opening leaves all flags and bytes: a damaged second slab; a wrong header; no byte at all
unfoldable pub refused_on : List ℕ → Lent
refused_on s = opening (record { image = s; flags = before })

pub refused_leaves :
    (refused_on (put 1 first_wrapped 276 0) ≡ record { image = put 1 first_wrapped 276 0; flags = before })
    × (refused_on (put 1 first_wrapped 0 0) ≡ record { image = put 1 first_wrapped 0 0; flags = before }) × (refused_on [] ≡ record { image = []; flags = before })
unfolding Cases-defs fresh2 first_wrapped before refused_on
refused_leaves = (refl, refl, refl)

-- ---- opening as a call

-- other flags than those before, in every place
unfoldable pub others : List Bool
others = false ∷ true ∷ true ∷ false ∷ replicate 28 false

-- the flags that it is handed take the place of those before: past R they stay, and all of them stay where it is refused
pub opened-call :
    (call (record { image = first_wrapped; flags = before }) (open_call others) ≡ record { reply = done; lent = record { image = first_wrapped; flags = true ∷ false ∷ drop 2 others } })
    × (call (record { image = put 1 first_wrapped 276 0; flags = before }) (open_call others)
    ≡ record { reply = refused 10; lent = record { image = put 1 first_wrapped 276 0; flags = others } })
unfolding Cases-defs fresh2 first_wrapped before others
opened-call = (refl, refl)

-- ---- a ring by hand

unfoldable pub wrapped_ring : List ℕ → Ring
wrapped_ring s = record { slab = s; wrapped = true }

-- with stamp 0 at the cursor a ring is empty, whatever the other stamps are: no order, no ends; its reading stands at slot 0, wherever the cursor is
pub nothing_at-cursor :
    (order (wrapped_ring (stamped 0 0 20 30)) ≡ []) × (oldest (wrapped_ring (stamped 0 0 20 30)) ≡ None) × (newest (wrapped_ring (stamped 0 0 20 30)) ≡ None)
    × (first_place (wrapped_ring (stamped 1 20 0 30)) ≡ record { slot = 0; left = 0 })
unfolding Cases-defs stamped wrapped_ring
nothing_at-cursor = (refl, refl, refl, refl)

-- the order begins after the cursor, and at 0 where the cursor is last; the oldest is the first that is not 0, not the least, the newest the one at the cursor
pub ends_are :
    (order (wrapped_ring (stamped 1 20 5 0)) ≡ 2 ∷ 0 ∷ 1 ∷ []) × (oldest (wrapped_ring (stamped 1 20 5 0)) ≡ Some 20) × (newest (wrapped_ring (stamped 1 20 5 0)) ≡ Some 5)
    × (order (wrapped_ring (stamped 2 20 5 1)) ≡ 0 ∷ 1 ∷ 2 ∷ []) × (newest (wrapped_ring (stamped 2 20 5 1)) ≡ Some 1)
    × (order (record { slab = stamped 1 0 5 9; wrapped = false }) ≡ 0 ∷ 1 ∷ []) × (oldest (record { slab = stamped 1 0 5 9; wrapped = false }) ≡ Some 5)
unfolding Cases-defs stamped wrapped_ring
ends_are = (refl, refl, refl, refl, refl, refl, refl)

-- ---- rows by schema and tier, and a row's flag

unfoldable pub three : Lent
three = creation (plan_of 3 (tier_of 0 0 10 10 0 1 ∷ tier_of 0 1 20 20 1 1 ∷ tier_of 1 0 30 30 0 1 ∷ tier_of 2 0 10 10 0 2 ∷ tier_of 2 1 40 40 1 2 ∷ [])) (record { image = replicate 800 9; flags = replicate 32 true })

-- of the three schemas' tiers: their row numbers and intervals; of a fourth schema: none
unfoldable pub numbered : Lent → List (List ℕ)
numbered l =
    (row_no l 0 0 ∷ row_no l 0 1 ∷ row_no l 1 0 ∷ row_no l 2 0 ∷ row_no l 2 1 ∷ []) ∷ map (λ r. r.interval) (tiers l 0) ∷ map (λ r. r.interval) (tiers l 1)
    ∷ map (λ r. r.interval) (tiers l 2) ∷ map (λ r. r.interval) (tiers l 3) ∷ []

pub numbered_are : numbered three ≡ (0 ∷ 1 ∷ 2 ∷ 3 ∷ 4 ∷ []) ∷ (10 ∷ 20 ∷ []) ∷ (30 ∷ []) ∷ (10 ∷ 40 ∷ []) ∷ [] ∷ []
unfolding Cases-defs three numbered
numbered_are = refl

-- a row's flag is its own, by its number
pub own_flag : (ring (record { image = first_wrapped; flags = before }) 1).wrapped ∷ (ring (record { image = first_wrapped; flags = before }) 2).wrapped ∷ [] ≡ true ∷ false ∷ []
unfolding Cases-defs before
own_flag = refl
