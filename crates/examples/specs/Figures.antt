-- The panel's figure and the service figure (request 2026-04): rounding and its bound by values, the last point and both ends by stores, the refusals and their
-- order, the code's answers, what agrees. By computation. Assumes nothing.
use Rattle.std.specs.Prelude.{ℕ, ◌+◌, ◌-◌, ◌^◌, ◌≡◌, refl, Bool, true, false, List, [], ◌∷◌, map, take, replicate, pos, negsuc, neg_ℤ, Option, Some, None, Ok, Err}
use Rattle.std.proofs.Common.{sym, ap}
use Rattle.std.proofs.lemmas.Bool.{false≢true}
use Rattle.std.specs.Float.Ieee.{eq}
use Rattle.model.specs.declared.Refusal.TheVariants.{InvalidTier, OffPanel}
use Rattle.model.specs.Bytes.{put}
use Rattle.model.specs.Layout.{fresh_value}
use Rattle.model.specs.Lent.{Lent, creation}
use Rattle.model.specs.Figure.{panel, service, PanelReply, shows, shows_nothing, not_shown, serves, serves_nothing, not_served, panel_reply, service_reply, agree, SameOnPanel}
use Rattle.model.specs.Store.{Call, after, record_call, consolidate_call}
use Rattle.model.specs.Cases.{Cases-defs, tier_of, plan_of, plan, num, infinity, fresh, ring10, two, rec}
use Rattle.demand.specs.Demand.{Demand-defs, Situation}
use Rattle.demand.specs.PanelBound.{Bound-defs, last_start, last_due, panel_after, shown_within}
use Rattle.model.specs.declared.Point.{Point}

-- ---- stores

-- one ring of four slots of ten, two columns; row at 32, slab at 96, stamps at 168, column 0 at 200, column 1 at 232
unfoldable pub with4 : List Call → Lent
with4 cs = after (fresh (ring10 4)) cs

-- v in the slot of 10, alone
unfoldable pub at10 : ℕ → Lent
at10 v = with4 (record_call 0 0 v 10 ∷ [])

-- an image that somebody else wrote: x in the 8 bytes at o
unfoldable pub poked : ℕ → ℕ → Lent → Lent
poked o x l = record { image = put 8 l.image o x; flags = l.flags }

-- the slab's magic is gone
unfoldable pub damaged : Lent → Lent
damaged l = record { image = put 4 l.image 96 0; flags = l.flags }

unfoldable pub short : Lent → Lent
short l = record { image = take 263 l.image; flags = l.flags }

-- opened with no flag set
unfoldable pub unwrapped : Lent → Lent
unwrapped l = record { image = l.image; flags = replicate 32 false }

unfoldable pub panel_at10 : ℕ → PanelReply
panel_at10 v = panel (at10 v) 0 0 0

-- the value after 2^53
unfoldable pub beyond : ℕ
beyond = 0x4340_0000_0000_0001

-- two schemas of one column, one slot each
unfoldable pub both : Lent
both =
    after (creation (plan_of 2 (tier_of 0 0 10 10 0 1 ∷ tier_of 1 0 10 10 0 1 ∷ [])) (record { image = replicate 400 0; flags = replicate 32 false }))
    (record_call 0 0 (num 3) 20 ∷ record_call 1 0 (num 4) 30 ∷ [])

unfoldable pub Figures-defs : Unit {0}
unfolding Cases-defs with4 at10 poked damaged short unwrapped panel_at10 beyond both
Figures-defs = tt

-- ---- rounding: to nearest, ties to even

-- ties: 0.5, 2.5, 3.5, -1.5; 2^52 - 0.5, the greatest
pub ties :
    map panel_at10 (0x3fe0_0000_0000_0000 ∷ 0x4004_0000_0000_0000 ∷ 0x400c_0000_0000_0000 ∷ 0xbff8_0000_0000_0000 ∷ 0x432f_ffff_ffff_ffff ∷ [])
    ≡ shows (pos 0) ∷ shows (pos 2) ∷ shows (pos 4) ∷ shows (neg_ℤ (pos 2)) ∷ shows (pos (2 ^ 52)) ∷ []
unfolding Figures-defs
ties = refl

-- no ties: 0.75, -0.75, 1.25, -1.25, 1.75; just below and above a half; the least value; -0.0 and 0.0
pub nearest_ones :
    map panel_at10 (0x3fe8_0000_0000_0000 ∷ 0xbfe8_0000_0000_0000 ∷ 0x3ff4_0000_0000_0000 ∷ 0xbff4_0000_0000_0000 ∷ 0x3ffc_0000_0000_0000
    ∷ 0x3fdf_ffff_ffff_ffff ∷ 0x3fe0_0000_0000_0001 ∷ 0xbfe0_0000_0000_0001 ∷ 1 ∷ 0x8000_0000_0000_0000 ∷ 0 ∷ [])
    ≡ shows (pos 1) ∷ shows (neg_ℤ (pos 1)) ∷ shows (pos 1) ∷ shows (neg_ℤ (pos 1)) ∷ shows (pos 2)
    ∷ shows (pos 0) ∷ shows (pos 1) ∷ shows (neg_ℤ (pos 1)) ∷ shows (pos 0) ∷ shows (pos 0) ∷ shows (pos 0) ∷ []
unfolding Figures-defs
nearest_ones = refl

-- whole numbers stay: 2^52 + 1, where a half added in doubles rounds up; 2^53 - 1; ±2^53 are shown. The values next to ±2^53 are not, nor the greatest finite one
pub limit :
    map panel_at10 (0x4330_0000_0000_0001 ∷ 0x433f_ffff_ffff_ffff ∷ 0x4340_0000_0000_0000 ∷ 0xc340_0000_0000_0000 ∷ beyond ∷ 0xc340_0000_0000_0001 ∷ 0x7fef_ffff_ffff_ffff ∷ [])
    ≡ shows (pos (2 ^ 52 + 1)) ∷ shows (pos (2 ^ 53 - 1)) ∷ shows (pos (2 ^ 53)) ∷ shows (neg_ℤ (pos (2 ^ 53))) ∷ not_shown 17 ∷ not_shown 17 ∷ not_shown 17 ∷ []
unfolding Figures-defs
limit = refl

-- infinite values, which only somebody else can have written: 17 for the panel; service tools get them
pub infinite :
    let p = poked 208 infinity (at10 0) in
    let n = poked 208 0xfff0_0000_0000_0000 (at10 0) in
    (panel p 0 0 0 ≡ not_shown 17) × (panel n 0 0 0 ≡ not_shown 17) × (service p 0 0 0 ≡ serves 10 infinity (Some 10) (Some 10))
    × (service n 0 0 0 ≡ serves 10 0xfff0_0000_0000_0000 (Some 10) (Some 10))
unfolding Figures-defs
infinite = (refl, refl, refl, refl)

-- ---- the last point, and both ends

-- the value in full: 1.5
pub full_value : service (at10 0x3ff8_0000_0000_0000) 0 0 0 ≡ serves 10 0x3ff8_0000_0000_0000 (Some 10) (Some 10)
unfolding Figures-defs
full_value = refl

-- the last in ring order, not the greatest stamp: 15 takes slot 1 of a wrapped ring
pub last_in_ring-order :
    let l = with4 (rec 10 1 ∷ rec 20 2 ∷ rec 30 3 ∷ rec 40 4 ∷ rec 15 5 ∷ []) in
    (panel l 0 0 0 ≡ shows (pos 5)) × (service l 0 0 0 ≡ serves 15 (num 5) (Some 20) (Some 15))
unfolding Figures-defs
last_in_ring-order = (refl, refl)

-- from slot 0 back to the ring's last slot, where the ring has wrapped; with the flag false that slot is not read
pub back_round :
    let l = with4 (rec 20 2 ∷ rec 30 3 ∷ record_call 0 0 fresh_value 40 ∷ []) in
    (panel l 0 0 0 ≡ shows (pos 3)) × (service l 0 0 0 ≡ serves 30 (num 3) (Some 20) (Some 40))
    × (panel (unwrapped l) 0 0 0 ≡ shows_nothing) × (service (unwrapped l) 0 0 0 ≡ serves_nothing)
unfolding Figures-defs
back_round = (refl, refl, refl, refl)

-- the ends are the ring's, not those of the column's own points: column 1 has 10 and 30
pub ends_of_the_ring : service (with4 (record_call 0 1 (num 1) 10 ∷ rec 20 2 ∷ record_call 0 1 (num 3) 30 ∷ [])) 0 0 0 ≡ serves 20 (num 2) (Some 10) (Some 30)
unfolding Figures-defs
ends_of_the_ring = refl

-- nothing was recorded
pub none_recorded : (panel (fresh (ring10 4)) 0 0 0 ≡ shows_nothing) × (service (fresh (ring10 4)) 0 0 0 ≡ serves_nothing)
unfolding Figures-defs
none_recorded = (refl, refl)

-- all time: a slot of stamp 0 with a value counts, which only somebody else can have written; so does one of 2^64 - 2; one of 2^64 - 1 does not
pub all_time :
    let first = poked 200 (num 5) (at10 fresh_value) in
    let later = poked 176 (2 ^ 64 - 2) (at10 (num 1)) in
    let latest = poked 176 (2 ^ 64 - 1) (at10 (num 1)) in
    (panel first 0 0 0 ≡ shows (pos 5)) × (service first 0 0 0 ≡ serves 0 (num 5) (Some 10) (Some 10))
    × (panel later 0 0 0 ≡ shows (pos 1)) × (service later 0 0 0 ≡ serves (2 ^ 64 - 2) (num 1) (Some (2 ^ 64 - 2)) (Some (2 ^ 64 - 2)))
    × (panel latest 0 0 0 ≡ shows_nothing) × (service latest 0 0 0 ≡ serves_nothing)
unfolding Figures-defs
all_time = (refl, refl, refl, refl, refl, refl)

-- a value under another column's stamp is a point: column 1's 9 of stamp 40, once column 0 took the slot at 80
pub borrowed_stamp : service (with4 (record_call 0 1 (num 9) 40 ∷ rec 80 4 ∷ [])) 0 1 0 ≡ serves 80 (num 9) (Some 80) (Some 80)
unfolding Figures-defs
borrowed_stamp = refl

-- tier 1, where the mean of 1 and 2 is a tie, and tier 0; before the run tier 1 has nothing. The second of two schemas
pub tiers-and-schemas :
    let l = after (fresh two) (rec 30 1 ∷ rec 40 2 ∷ consolidate_call ∷ []) in
    (panel l 0 0 1 ≡ shows (pos 2)) × (service l 0 0 1 ≡ serves 30 0x3ff8_0000_0000_0000 (Some 30) (Some 30)) × (service l 0 0 0 ≡ serves 40 (num 2) (Some 30) (Some 40))
    × (panel (after (fresh two) (rec 30 1 ∷ rec 40 2 ∷ [])) 0 0 1 ≡ shows_nothing) × (panel both 0 0 0 ≡ shows (pos 3)) × (panel both 1 0 0 ≡ shows (pos 4))
unfolding Figures-defs
tiers-and-schemas = (refl, refl, refl, refl, refl, refl)

-- ---- refusals

-- opening's 1 and 10 before 11, 14 and 17; 11 by the schema and by the column, before 14
pub refusals_in_order :
    let far = at10 beyond in
    (panel (short far) 0 0 0 ≡ not_shown 1) × (panel (short far) 0 2 1 ≡ not_shown 1) × (service (short far) 0 0 0 ≡ not_served 1) × (panel (damaged far) 0 0 0 ≡ not_shown 10)
    × (panel (damaged far) 0 2 1 ≡ not_shown 10) × (service (damaged far) 0 0 1 ≡ not_served 10) × (panel far 1 0 1 ≡ not_shown 11) × (service far 1 0 1 ≡ not_served 11) × (panel far 0 2 1 ≡ not_shown 11)
unfolding Figures-defs
refusals_in_order = (refl, refl, refl, refl, refl, refl, refl, refl, refl)

-- the code's answers
pub answers_are :
    (panel_reply (Ok (Some (neg_ℤ (pos 2)))) ≡ shows (neg_ℤ (pos 2))) × (panel_reply (Ok None) ≡ shows_nothing) × (panel_reply (Err OffPanel) ≡ not_shown 17)
    × (service_reply (Ok (Some (record { stamp = 40; value = 4; oldest = Some 20; newest = Some 15 }))) ≡ serves 40 4 (Some 20) (Some 15))
    × (service_reply (Ok None) ≡ serves_nothing) × (service_reply (Err InvalidTier) ≡ not_served 14)
unfolding Figures-defs
answers_are = (refl, refl, refl, refl, refl, refl)

-- ---- what agrees: numbers, whatever their stamps; 0.0 and -0.0; or neither. Not two numbers, nor a number and none, nor equal stamps alone

unfoldable pub point : ℕ → ℕ → Option Point
point t v = Some (record { stamp = t; value = v })

pub agreeing :
    agree (point 10 (num 3)) (point 20 (num 3)) ∷ agree (point 10 0) (point 20 0x8000_0000_0000_0000) ∷ agree None None
    ∷ agree (point 10 (num 3)) (point 10 (num 4)) ∷ agree (point 10 0) None ∷ agree None (point 10 0) ∷ []
    ≡ true ∷ true ∷ true ∷ false ∷ false ∷ false ∷ []
unfolding Figures-defs point eq
agreeing = refl

unfoldable pub is_shown : PanelReply → Bool
is_shown (shows z) = true
is_shown shows_nothing = true
is_shown (not_shown n) = false

-- two schemas; -0.0 in schema 1, column 1, and its mean in tier 1
unfoldable pub second : Lent
second =
    after (creation (plan_of 2 (tier_of 0 0 10 10 0 1 ∷ tier_of 1 0 10 90 0 2 ∷ tier_of 1 1 30 90 1 2 ∷ [])) (record { image = replicate 1000 0; flags = replicate 32 false }))
    (record_call 1 1 0x8000_0000_0000_0000 30 ∷ consolidate_call ∷ [])

-- the claim speaks of other stores, schemas, columns and tiers: 0.0 in one, -0.0 in another
pub claimed : SameOnPanel → panel (at10 0) 0 0 0 ≡ panel second 1 1 1
unfolding SameOnPanel Figures-defs second is_shown eq
claimed same =
    same (at10 0) second 0 0 0 1 1 1
    (λ n e. false≢true (sym (ap is_shown e))) (λ n e. false≢true (sym (ap is_shown e))) refl

-- ---- the bound on the panel's figure (demand, PanelBound)

-- 14 / 4 is as far from 3 as from 4, half a nanosecond; 5 is too far. 3,069 / 2,048 is 1,027 / 2,048 from 2: half a nanosecond and 6 / 4,096. -5 / 2 is near -2 and not
-- near 2. Neither no number nor a refusal is near anything
pub bounds_are :
    shown_within 0 (shows (pos 4)) (pos 14) 4 ∷ shown_within 0 (shows (pos 3)) (pos 14) 4 ∷ shown_within 0 (shows (pos 5)) (pos 14) 4
    ∷ shown_within 6 (shows (pos 2)) (pos 3069) 2048 ∷ shown_within 5 (shows (pos 2)) (pos 3069) 2048
    ∷ shown_within 1 (shows (negsuc 1)) (negsuc 4) 2 ∷ shown_within 1 (shows (pos 2)) (negsuc 4) 2
    ∷ shown_within 3 shows_nothing (pos 0) 1 ∷ shown_within 3 (not_shown 17) (pos 0) 1 ∷ []
    ≡ true ∷ true ∷ false ∷ true ∷ false ∷ true ∷ false ∷ false ∷ false ∷ []
unfolding Bound-defs
bounds_are = refl

-- 1 and 2 at 30 and 40, a run, 5 at 60: the last window that is due at tier 1 starts at 30, and the panel is asked after the last sample
unfoldable pub asked : ℕ → ℕ → Situation
asked c k = record {
  plan = plan two;
  buf = replicate 1000 0;
  flags = replicate 32 false;
  before = rec 30 1 ∷ rec 40 2 ∷ record_call 0 1 (num 8) 40 ∷ [];
  between = rec 60 5 ∷ [];
  column = c;
  tier = k;
}

pub panels_after :
    (last_start 7 [] ∷ last_start 7 (10 ∷ 20 ∷ []) ∷ last_due (asked 0 0) ∷ last_due (asked 0 1) ∷ [] ≡ 7 ∷ 20 ∷ 40 ∷ 30 ∷ [])
    × (panel_after (asked 0 0) ∷ panel_after (asked 0 1) ∷ panel_after (asked 1 0) ∷ [] ≡ shows (pos 5) ∷ shows (pos 2) ∷ shows (pos 8) ∷ [])
unfolding Demand-defs Bound-defs Figures-defs asked
panels_after = (refl, refl)
