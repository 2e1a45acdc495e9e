-- A reader's whole steps, readers made by hand that can't be read, and a query's whole answer of a row that is not the first. By computation. Assumes nothing.
use Rattle.std.specs.Prelude.{ℕ, ◌≡◌, refl, true, false, List, [], ◌∷◌, ◌++◌, take, drop, replicate, Option, Some, None, Ok, Err}
use Rattle.model.specs.declared.Refusal.TheVariants.{InvalidTier}
use Rattle.model.specs.declared.Point.{Point}
use Rattle.model.specs.declared.Stepped.{Stepped}
use Rattle.model.specs.Bytes.{bytes, put}
use Rattle.model.specs.Layout.{fresh_value, fresh_slab}
use Rattle.model.specs.Read.{Reader, step, points_of, full, incomplete, both_ends}
use Rattle.model.specs.Lent.{Lent, creation}
use Rattle.model.specs.Query.{QueryReply, found, not_found, query, query_auto, replied_by}
use Rattle.model.specs.Cases.{Cases-defs, tier_of, plan_of, num, end64, at}

-- ---- steps: a slab of three slots and two series, stamped 30, 10, 20. Column 0 holds 5, 6, 7, column 1 holds 1, 2 and NaN

unfoldable pub slab3 : List ℕ
slab3 =
    take 72 (fresh_slab 7 3 2 10) ++ bytes 8 30 ++ bytes 8 10 ++ bytes 8 20 ++ bytes 8 (num 5) ++ bytes 8 (num 6) ++ bytes 8 (num 7)
    ++ bytes 8 (num 1) ++ bytes 8 (num 2) ++ bytes 8 fresh_value

-- a step of column c over all time, at slot i with k left
unfoldable pub step_at : List ℕ → ℕ → ℕ → ℕ → Stepped
step_at s c i k = step s c 0 end64 (record { slot = i; left = k })

unfoldable pub then : Option Point → ℕ → ℕ → Stepped
then x i k = record { next = x; place = record { slot = i; left = k } }

unfoldable pub Readings-defs : Unit {0}
unfolding Cases-defs slab3 step_at then
Readings-defs = tt

-- a point, and the place after it; NaN is passed over, round the ring; the last slot left is handed out, and then there is none; at the end the place is after
-- the slots passed over, with none left
pub steps_are :
    step_at slab3 1 1 3 ∷ step_at slab3 1 2 2 ∷ step_at slab3 0 2 1 ∷ step_at slab3 1 2 1 ∷ step_at slab3 1 1 0 ∷ []
    ≡ then (Some (at 10 2)) 2 2 ∷ then (Some (at 30 1)) 1 0 ∷ then (Some (at 20 7)) 0 0 ∷ then None 0 0 ∷ then None 1 0 ∷ []
unfolding Readings-defs
steps_are = refl

-- a range: its start is in it, its end is not; out of it two slots from slot 2 on are passed over
pub ranges_are :
    step slab3 0 20 30 (record { slot = 0; left = 3 }) ∷ step slab3 0 21 30 (record { slot = 0; left = 3 }) ∷ step slab3 0 30 31 (record { slot = 1; left = 3 })
    ∷ step slab3 0 31 end64 (record { slot = 2; left = 2 }) ∷ []
    ≡ then (Some (at 20 7)) 0 0 ∷ then None 0 0 ∷ then (Some (at 30 5)) 1 0 ∷ then None 1 0 ∷ []
unfolding Readings-defs
ranges_are = refl

-- by hand: column = series; slot = slots; one slot more left than there are; a slab one byte too short, one that ends in the header, an empty one. Each is at its end, its slot as it was
pub by_hand :
    step_at slab3 2 1 3 ∷ step_at slab3 1 3 3 ∷ step_at slab3 1 1 4 ∷ step_at (take 143 slab3) 1 1 3 ∷ step_at (take 63 slab3) 1 1 3 ∷ step_at [] 0 1 3 ∷ []
    ≡ then None 1 0 ∷ then None 3 0 ∷ then None 1 0 ∷ then None 1 0 ∷ then None 1 0 ∷ then None 1 0 ∷ []
unfolding Readings-defs
by_hand = refl

-- a slab with surplus is read; a slot with stamp 0 and a value is handed out, too, from start 0 on
pub read_too : step_at (slab3 ++ 9 ∷ []) 1 1 3 ∷ step_at (put 8 slab3 80 0) 1 1 3 ∷ [] ≡ then (Some (at 10 2)) 2 2 ∷ then (Some (at 0 2)) 2 2 ∷ []
unfolding Readings-defs
read_too = refl

-- up to its end: in the ring's order, no more than the slots left
unfoldable pub read_from : ℕ → ℕ → ℕ → List Point
read_from c i k = points_of (record { slab = slab3; column = c; start = 10; end = 31; place = record { slot = i; left = k } })

pub points_are : read_from 0 1 3 ∷ read_from 1 1 3 ∷ read_from 0 2 2 ∷ read_from 0 0 0 ∷ [] ≡ (at 10 6 ∷ at 20 7 ∷ at 30 5 ∷ []) ∷ (at 10 2 ∷ at 30 1 ∷ []) ∷ (at 20 7 ∷ at 30 5 ∷ []) ∷ [] ∷ []
unfolding Readings-defs read_from
points_are = refl

-- ---- coverage where an end is missing

pub no_ends :
    full None None 5 6 ∷ full None (Some 9) 5 6 ∷ full (Some 5) None 5 6 ∷ incomplete None None 5 6 ∷ incomplete None (Some 9) 5 6 ∷ incomplete (Some 5) None 5 6
    ∷ both_ends None None ∷ both_ends None (Some 9) ∷ both_ends (Some 5) None ∷ both_ends (Some 5) (Some 9) ∷ []
    ≡ false ∷ false ∷ false ∷ true ∷ true ∷ true ∷ false ∷ false ∷ false ∷ true ∷ []
unfolding Readings-defs
no_ends = refl

-- ---- a query's whole answer

-- schema 0 of one tier; schema 1 of 10 for 30, 20 for 40 and 40 for 40. The slabs stand at 288, 388, 532 and 652, up to 748
unfoldable pub fresh4 : List ℕ
fresh4 =
    (creation (plan_of 2 (tier_of 0 0 10 20 0 1 ∷ tier_of 1 0 10 30 0 2 ∷ tier_of 1 1 20 40 1 2 ∷ tier_of 1 2 40 40 1 2 ∷ [])) (record { image = replicate 750 9; flags = replicate 32 false })).image

-- tier 1's slab, stamped 4 and 20, the cursor at slot 1
unfoldable pub slab2 : List ℕ
slab2 = put 8 (put 8 (put 4 (fresh_slab 7 2 2 20) 32 1) 72 4) 80 20

-- schema 1's tier 0 is slab3, wrapped, its tier 1 is slab2; the others are empty
unfoldable pub filled : Lent
filled = record { image = take 388 fresh4 ++ slab3 ++ slab2 ++ drop 652 fresh4; flags = false ∷ true ∷ false ∷ true ∷ replicate 28 true }

unfoldable pub reader_of : List ℕ → ℕ → ℕ → ℕ → ℕ → ℕ → Reader
reader_of s c start end i k = record { slab = s; column = c; start = start; end = end; place = record { slot = i; left = k } }

-- the answers of schema 1's tiers 0, 1 and 2, of schema 0, and the automatic one of tier 1
unfoldable pub answers_of : Lent → List QueryReply
answers_of l = query l 1 1 0 15 35 ∷ query l 1 0 1 3 9 ∷ query l 1 1 2 5 6 ∷ query l 0 0 0 5 6 ∷ query_auto l 1 1 5 15 ∷ []

pub answers_are :
    answers_of filled
    ≡ found (record { tier = 0; oldest = Some 10; newest = Some 30; start = 15; end = 35; incomplete = false; from = 388; to = 532; reader = reader_of slab3 1 15 35 1 3 })
    ∷ found (record { tier = 1; oldest = Some 4; newest = Some 20; start = 3; end = 9; incomplete = true; from = 532; to = 652; reader = reader_of slab2 0 3 9 0 2 })
    ∷ found (record { tier = 2; oldest = None; newest = None; start = 5; end = 6; incomplete = true; from = 652; to = 748; reader = reader_of (fresh_slab 7 1 2 40) 1 5 6 0 0 })
    ∷ found (record { tier = 0; oldest = None; newest = None; start = 5; end = 6; incomplete = true; from = 288; to = 388; reader = reader_of (fresh_slab 7 2 1 10) 0 5 6 0 0 })
    ∷ found (record { tier = 1; oldest = Some 4; newest = Some 20; start = 5; end = 15; incomplete = false; from = 532; to = 652; reader = reader_of slab2 1 5 15 0 2 }) ∷ []
unfolding Readings-defs fresh4 slab2 filled reader_of answers_of
answers_are = refl

-- a refusal's number, or the tier
unfoldable pub tier_in : QueryReply → ℕ
tier_in (found a) = a.tier
tier_in (not_found n) = n

-- the automatic choice in schema 1: tier 0 covers, its ends the range's; tier 1 does; none does, and tier 2 is empty; and in schema 0, where nothing is
-- 14: schema 0 has no tier 1, schema 1 no tier 3; 15: the start above the end, or at it
unfoldable pub chosen : Lent → List ℕ
chosen l =
    tier_in (query_auto l 1 0 10 30) ∷ tier_in (query_auto l 1 0 9 20) ∷ tier_in (query_auto l 1 0 9 21) ∷ tier_in (query_auto l 1 0 10 31) ∷ tier_in (query_auto l 0 0 10 30)
    ∷ tier_in (query l 0 0 1 5 6) ∷ tier_in (query l 1 0 3 5 6) ∷ tier_in (query l 1 0 2 6 5) ∷ tier_in (query_auto l 1 0 6 5) ∷ tier_in (query_auto l 0 0 6 6) ∷ []

pub chosen_are : chosen filled ≡ 0 ∷ 1 ∷ 1 ∷ 1 ∷ 0 ∷ 14 ∷ 14 ∷ 15 ∷ 15 ∷ 15 ∷ []
unfolding Readings-defs fresh4 slab2 filled tier_in chosen
chosen_are = refl

-- with a stamp in tier 2, too, it is the last with both ends; tier 1 still covers
unfoldable pub chosen_too : Lent → List ℕ
chosen_too l = tier_in (query_auto l 1 0 9 21) ∷ tier_in (query_auto l 1 0 9 20) ∷ tier_in (query_auto l 1 0 10 30) ∷ []

pub chosen_too_lem : chosen_too (record { image = put 8 filled.image 724 8; flags = filled.flags }) ≡ 2 ∷ 1 ∷ 0 ∷ []
unfolding Readings-defs fresh4 slab2 filled tier_in chosen_too
chosen_too_lem = refl

-- ---- the code's answer as the definitions': its reader has the image from `from` up to `to`

pub replied_by_lem :
    replied_by (0 ∷ 1 ∷ 2 ∷ 3 ∷ 4 ∷ 5 ∷ 6 ∷ []) (Ok (record {
      tier = 1;
      oldest = Some 2;
      newest = Some 3;
      start = 4;
      end = 5;
      incomplete = true;
      column = 6;
      from = 2;
      to = 5;
      place = record { slot = 7; left = 8 };
    }))
    ∷ replied_by [] (Err InvalidTier) ∷ []
    ≡ found (record { tier = 1; oldest = Some 2; newest = Some 3; start = 4; end = 5; incomplete = true; from = 2; to = 5; reader = reader_of (2 ∷ 3 ∷ 4 ∷ []) 6 4 5 7 8 })
    ∷ not_found 14 ∷ []
unfolding Readings-defs reader_of
replied_by_lem = refl
