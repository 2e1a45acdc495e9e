-- Runs beyond the rows of More: what a run answers, its marks and flags, and what stands at some places of the image after it. By computation. Assumes nothing.
use Rattle.std.specs.Prelude.{ℕ, ◌-◌, ◌^◌, ◌≡◌, refl, Bool, true, false, ◌&&◌, cond, List, [], ◌∷◌, map, take, replicate, T, eqb, Ok, Err}
use Rattle.model.specs.declared.Refusal.TheVariants.{BadImage, CorruptedSlab, InvalidTier, NoConsolidationFunction}
use Rattle.model.specs.Bytes.{put, get}
use Rattle.model.specs.Layout.{fresh_value}
use Rattle.model.specs.Image.{rows, row_count}
use Rattle.model.specs.Lent.{Lent, creation}
use Rattle.model.specs.Consolidate.{Run, run}
use Rattle.model.specs.Store.{Call, after, replies, record_call, batch_call, query_call, consolidate_call, refused, done, wrote, outcome_reply, consolidated_reply, queried_reply}
use Rattle.demand.specs.Instance.{same_numbers}
use Rattle.model.specs.Cases.{Cases-defs, tier_of, tier, plan_of, num, infinity, fresh, rec}

-- a run's refusal or 0, its writes, the marks and flags of the rows, and the words at some places of the image
pub record Left : Type 0 where
  pub refusal : ℕ
  pub count : ℕ
  pub marks : List ℕ
  pub flags : List Bool
  pub words : List ℕ

unfoldable pub left : Run → List ℕ → Left
left u places = record {
  refusal = u.refusal;
  count = u.count;
  marks = map (λ r. r.mark) (rows u.lent.image);
  flags = take (row_count u.lent.image) u.lent.flags;
  words = map (get 8 u.lent.image) places;
}

unfoldable pub bits : List Bool → List ℕ
bits bs = map (λ b. cond b 1 0) bs

-- the same left, as a test, so that a claim that fails is not computed again for its message
unfoldable pub alike : Left → Left → Bool
alike x y =
    eqb x.refusal y.refusal && eqb x.count y.count && same_numbers x.marks y.marks && same_numbers (bits x.flags) (bits y.flags)
    && same_numbers x.words y.words

-- w in the eight bytes at o of what is lent
unfoldable pub with : Lent → ℕ → ℕ → Lent
with l o w = record { image = put 8 l.image o w; flags = l.flags }

unfoldable pub both : ℕ → ℕ → ℕ → Call
both t a b = batch_call (record { schema = 0; column = 0; value = a } ∷ record { schema = 0; column = 1; value = b } ∷ []) t

-- the greatest finite number: twice it overflows
unfoldable pub greatest : ℕ
greatest = 0x7fef_ffff_ffff_ffff

-- 10 for 20 into 20 for 40, by function f. Row 0's mark stands at 80, the source's stamps at 232 and 240, its column 0 at 248; the destination's stamps at 352
-- and 360, its columns at 368 and 384
unfoldable pub store : ℕ → Lent
store f = fresh (tier 0 10 20 0 ∷ tier 1 20 40 f ∷ [])

unfoldable Runs-defs : Unit {0}
unfolding Cases-defs left same_numbers bits alike with both greatest store
Runs-defs = tt

-- ---- windows

-- an infinite cell, put there by hand, is a value that is not finite: the window is written as 0x7ff8000000000000, over the 5 that stood there, and counted
pub infinite_cell :
    T (alike (left (run (with (with (after (store 1) (rec 20 1 ∷ [])) 248 infinity) 376 (num 5))) (360 ∷ 376 ∷ 392 ∷ []))
    (record { refusal = 0; count = 1; marks = 20 ∷ 0 ∷ []; flags = false ∷ false ∷ []; words = 20 ∷ 0x7ff8_0000_0000_0000 ∷ fresh_value ∷ [] }))
unfolding Runs-defs
infinite_cell = tt

-- a NaN alone has no window to write: the mark stays 0
pub nan_alone :
    T (alike (left (run (after (store 1) (record_call 0 0 fresh_value 20 ∷ []))) (360 ∷ []))
    (record { refusal = 0; count = 0; marks = 0 ∷ 0 ∷ []; flags = false ∷ false ∷ []; words = 0 ∷ [] }))
unfolding Runs-defs
nan_alone = tt

-- three slots and three windows, 22, 33 and 44: all are written in one run. The second falls back to slot 0, so the destination's flag becomes true
pub three-windows :
    T (alike (left (run (after (fresh (tier 0 10 30 0 ∷ tier 1 11 33 1 ∷ [])) (rec 30 1 ∷ rec 40 2 ∷ rec 50 3 ∷ []))) (376 ∷ 384 ∷ 392 ∷ 400 ∷ 408 ∷ 416 ∷ []))
    (record { refusal = 0; count = 3; marks = 50 ∷ 0 ∷ []; flags = false ∷ true ∷ []; words = 33 ∷ 44 ∷ 22 ∷ num 2 ∷ num 3 ∷ num 1 ∷ [] }))
unfolding Runs-defs
three-windows = tt

-- stamps that fall in ring order, 40, 90, 60, 110: no window is passed over, and they are written in rising order, so that the destination's flag stays false
pub falling_stamps_lem :
    T (alike (left (run (after (fresh (tier 0 10 40 0 ∷ tier 1 20 160 1 ∷ [])) (rec 40 1 ∷ rec 90 1 ∷ rec 60 1 ∷ rec 110 1 ∷ []))) (416 ∷ 424 ∷ 432 ∷ 440 ∷ []))
    (record { refusal = 0; count = 4; marks = 110 ∷ 0 ∷ []; flags = false ∷ false ∷ []; words = 40 ∷ 60 ∷ 80 ∷ 100 ∷ [] }))
unfolding Runs-defs
falling_stamps_lem = tt

-- without a mark the oldest stamp is the start, also within a window: of 1, 5 and 3 at 120, 90 and 150, in this order in the ring, the 5 at 90 is not read, and
-- the window at 80 holds 2
pub below_the_oldest :
    T (alike (left (run (after (fresh (tier 0 10 40 0 ∷ tier 1 80 160 1 ∷ [])) (rec 120 1 ∷ rec 90 5 ∷ rec 150 3 ∷ []))) (400 ∷ 408 ∷ 416 ∷ 424 ∷ []))
    (record { refusal = 0; count = 1; marks = 150 ∷ 0 ∷ []; flags = false ∷ false ∷ []; words = 0 ∷ 80 ∷ fresh_value ∷ num 2 ∷ [] }))
unfolding Runs-defs
below_the_oldest = tt

-- samples at 40, then at 39: the oldest is 40, the newest 39, so the range from 40 up to 40 is empty
pub forty_then_less :
    T (alike (left (run (after (store 1) (rec 40 1 ∷ rec 39 2 ∷ []))) (352 ∷ 360 ∷ []))
    (record { refusal = 0; count = 0; marks = 0 ∷ 0 ∷ []; flags = false ∷ false ∷ []; words = 0 ∷ 0 ∷ [] }))
unfolding Runs-defs
forty_then_less = tt

-- the same with a mark of 20, put there by hand, and windows of 30: the sample at 39 is read, the one at 40 of the same window is past the newest
pub forty_past_the_newest :
    T (alike (left (run (with (after (fresh (tier 0 10 20 0 ∷ tier 1 30 60 5 ∷ [])) (rec 40 1 ∷ rec 39 2 ∷ [])) 80 20)) (360 ∷ 376 ∷ []))
    (record { refusal = 0; count = 1; marks = 39 ∷ 0 ∷ []; flags = false ∷ false ∷ []; words = 30 ∷ num 2 ∷ [] }))
unfolding Runs-defs
forty_past_the_newest = tt

-- values enter a window in ring order, neither by stamp nor by slot: of the zeros at 110, 130 and 150, in slots 2, 1 and 0, the one at 130 is the first, and
-- Min keeps it. The mark of 90 is put there by hand
pub ring-order :
    T (alike (left (run (with (after (fresh (tier 0 10 30 0 ∷ tier 1 100 100 2 ∷ [])) (rec 110 0 ∷ record_call 0 0 0x8000_0000_0000_0000 130 ∷ rec 150 0 ∷ [])) 80 90)) (376 ∷ 384 ∷ []))
    (record { refusal = 0; count = 1; marks = 150 ∷ 0 ∷ []; flags = true ∷ false ∷ []; words = 100 ∷ 0x8000_0000_0000_0000 ∷ [] }))
unfolding Runs-defs
ring-order = tt

-- ---- refusals

-- column 0's sum overflows: column 1 is not written, nothing is counted, the mark stays
pub first_column_refused :
    T (alike (left (run (after (store 5) (both 20 greatest (num 1) ∷ both 30 greatest (num 1) ∷ []))) (360 ∷ 376 ∷ 392 ∷ []))
    (record { refusal = 12; count = 0; marks = 0 ∷ 0 ∷ []; flags = false ∷ false ∷ []; words = 0 ∷ fresh_value ∷ fresh_value ∷ [] }))
unfolding Runs-defs
first_column_refused = tt

-- the window at 0 is refused: the window at 20 is not written
pub first_window_refused :
    T (alike (left (run (after (store 1) (rec 10 1 ∷ rec 20 2 ∷ []))) (360 ∷ 376 ∷ []))
    (record { refusal = 13; count = 0; marks = 0 ∷ 0 ∷ []; flags = true ∷ false ∷ []; words = 0 ∷ fresh_value ∷ [] }))
unfolding Runs-defs
first_window_refused = tt

-- the second window's column 1 overflows: the three writes before it stay, with the flag that one of them made true; the mark does not move
pub earlier_writes_stay :
    T (alike (left (run (after (fresh (tier 0 10 30 0 ∷ tier 1 20 40 5 ∷ [])) (both 30 (num 1) (num 4) ∷ both 40 (num 2) greatest ∷ both 50 (num 3) greatest ∷ [])))
    (376 ∷ 384 ∷ 392 ∷ 400 ∷ 408 ∷ 416 ∷ []))
    (record { refusal = 12; count = 3; marks = 0 ∷ 0 ∷ []; flags = false ∷ true ∷ []; words = 40 ∷ 20 ∷ num 5 ∷ num 1 ∷ fresh_value ∷ num 4 ∷ [] }))
unfolding Runs-defs
earlier_writes_stay = tt

-- a refusal in the first of two pairs ends the run: the second pair would find a sample at 40, but is not reached
pub first-pair_refused :
    T (alike (left (run (after (fresh (tier 0 10 20 0 ∷ tier 1 20 40 5 ∷ tier 2 40 40 1 ∷ [])) (both 40 (num 1) greatest ∷ both 50 (num 1) greatest ∷ []))) (416 ∷ 432 ∷ 448 ∷ 536 ∷ []))
    (record { refusal = 12; count = 1; marks = 0 ∷ 0 ∷ 0 ∷ []; flags = false ∷ false ∷ false ∷ []; words = 40 ∷ num 2 ∷ fresh_value ∷ 0 ∷ [] }))
unfolding Runs-defs
first-pair_refused = tt

-- a source stamp of 2^63 in slot 0 is refused as well
pub stamp_in_slot_0 :
    T (alike (left (run (with (after (store 1) (rec 30 1 ∷ [])) 232 (2 ^ 63))) (360 ∷ []))
    (record { refusal = 10; count = 0; marks = 0 ∷ 0 ∷ []; flags = false ∷ false ∷ []; words = 0 ∷ [] }))
unfolding Runs-defs
stamp_in_slot_0 = tt

-- a source stamp of 2^63 - 1 is good, and a destination's stamp of 2^63 is not looked at
pub good_stamps :
    T (alike (left (run (with (after (store 1) (rec (2 ^ 63 - 1) 1 ∷ [])) 360 (2 ^ 63))) (352 ∷ 360 ∷ []))
    (record { refusal = 0; count = 1; marks = (2 ^ 63 - 1) ∷ 0 ∷ []; flags = false ∷ false ∷ []; words = 9_223_372_036_854_775_800 ∷ (2 ^ 63) ∷ [] }))
unfolding Runs-defs
good_stamps = tt

-- ---- several pairs

-- three tiers: two windows of 20 and one of 40 are three writes
pub three-tiers :
    T (alike (left (run (after (fresh (tier 0 10 40 0 ∷ tier 1 20 40 1 ∷ tier 2 40 40 1 ∷ [])) (rec 40 1 ∷ rec 60 3 ∷ []))) (464 ∷ 472 ∷ 584 ∷ 592 ∷ []))
    (record { refusal = 0; count = 3; marks = 60 ∷ 60 ∷ 0 ∷ []; flags = false ∷ false ∷ false ∷ []; words = 40 ∷ 60 ∷ 40 ∷ num 2 ∷ [] }))
unfolding Runs-defs
three-tiers = tt

-- two schemas, each a pair with its own function and series: Min of schema 0's column 0, Count of schema 1's column 3
pub two-schemas :
    T (alike (left (run (after
    (creation (plan_of 2 (tier_of 0 0 10 10 0 2 ∷ tier_of 0 1 20 20 2 2 ∷ tier_of 1 0 10 10 0 4 ∷ tier_of 1 1 30 30 6 4 ∷ []))
    (record { image = replicate 720 0; flags = replicate 32 true }))
    (batch_call (record { schema = 0; column = 0; value = num 3 } ∷ record { schema = 1; column = 3; value = num 4 } ∷ []) 60 ∷ []))) (456 ∷ 464 ∷ 680 ∷ 712 ∷ []))
    (record { refusal = 0; count = 2; marks = 60 ∷ 0 ∷ 60 ∷ 0 ∷ []; flags = replicate 4 false; words = 60 ∷ num 3 ∷ 60 ∷ num 1 ∷ [] }))
unfolding Runs-defs
two-schemas = tt

-- schemas ascend: schema 0's coarser tier has no function, so schema 1's pair is not reached
pub first_schema_refused :
    T (alike (left (run (after
    (creation (plan_of 2 (tier_of 0 0 10 10 0 2 ∷ tier_of 0 1 20 20 0 2 ∷ tier_of 1 0 10 10 0 4 ∷ tier_of 1 1 30 30 6 4 ∷ []))
    (record { image = replicate 720 0; flags = replicate 32 true }))
    (batch_call (record { schema = 0; column = 0; value = num 3 } ∷ record { schema = 1; column = 3; value = num 4 } ∷ []) 60 ∷ []))) (456 ∷ 680 ∷ 712 ∷ []))
    (record { refusal = 16; count = 0; marks = replicate 4 0; flags = replicate 4 false; words = 0 ∷ 0 ∷ fresh_value ∷ [] }))
unfolding Runs-defs
first_schema_refused = tt

-- ---- two runs: with a nonzero mark the reading starts at the start of the destination's window that holds the mark (the request 2026-01). In document 01
-- alone it started at mark + source interval; where a row had another outcome there, its comment says so

-- after a run that left the mark 20, a sample at 25 takes the slot of the one at 20, and is read: the window at 20 holds 8, the mean of 7 and 9. In document
-- 01 alone the reading started at 30, and the window held 9
pub between_mark_and_start :
    T (alike (left (run (after (store 1) (rec 20 1 ∷ consolidate_call ∷ rec 25 7 ∷ rec 30 9 ∷ []))) (360 ∷ 376 ∷ []))
    (record { refusal = 0; count = 1; marks = 30 ∷ 0 ∷ []; flags = false ∷ false ∷ []; words = 20 ∷ num 8 ∷ [] }))
unfolding Runs-defs
between_mark_and_start = tt

-- a NaN alone in a new window, after a run that left the mark 20. The sample at 20 still stands: its window is written again, over the 5 put there by hand,
-- and counted, so the mark becomes 40. In document 01 alone nothing was written, and the mark stayed 20
pub nan_in_a_new_window :
    T (alike (left (run (with (after (fresh (tier 0 10 40 0 ∷ tier 1 20 40 1 ∷ [])) (rec 20 1 ∷ consolidate_call ∷ record_call 0 0 fresh_value 40 ∷ [])) 424 (num 5)))
    (400 ∷ 408 ∷ 416 ∷ 424 ∷ []))
    (record { refusal = 0; count = 1; marks = 40 ∷ 0 ∷ []; flags = true ∷ false ∷ []; words = 0 ∷ 20 ∷ fresh_value ∷ num 1 ∷ [] }))
unfolding Runs-defs
nan_in_a_new_window = tt

-- the same where the NaN has taken the slot of the sample at 20: nothing is written, the mark stays 20, and the 5 stays. So it was in document 01 alone
pub nan_alone_is-left :
    T (alike (left (run (with (after (store 1) (rec 20 1 ∷ consolidate_call ∷ record_call 0 0 fresh_value 40 ∷ [])) 376 (num 5))) (352 ∷ 360 ∷ 376 ∷ []))
    (record { refusal = 0; count = 0; marks = 20 ∷ 0 ∷ []; flags = false ∷ false ∷ []; words = 0 ∷ 20 ∷ num 5 ∷ [] }))
unfolding Runs-defs
nan_alone_is-left = tt

-- a window whose first samples have left the ring is averaged over those still there: 1 for 3 into 4 for 8, samples 1, 2, 4, 9 at 4 to 7, a run after the
-- second. The sample at 4 is gone: the window at 4 holds 5, the mean of 2, 4 and 9. In document 01 alone it held 6.5, the mean of 4 and 9
pub first-samples_gone :
    T (alike (left (run (after (fresh (tier 0 1 3 0 ∷ tier 1 4 8 1 ∷ [])) (rec 4 1 ∷ rec 5 2 ∷ consolidate_call ∷ rec 6 4 ∷ rec 7 9 ∷ []))) (376 ∷ 384 ∷ 392 ∷ 400 ∷ []))
    (record { refusal = 0; count = 1; marks = 7 ∷ 0 ∷ []; flags = true ∷ false ∷ []; words = 0 ∷ 4 ∷ fresh_value ∷ num 5 ∷ [] }))
unfolding Runs-defs
first-samples_gone = tt

-- a window of which no sample is left stays as it is: the 5 put there by hand, while the window at 40 is written with 3
pub all-samples_gone :
    T (alike (left (run (with (after (store 1) (rec 20 1 ∷ rec 30 1 ∷ consolidate_call ∷ rec 40 2 ∷ rec 50 4 ∷ [])) 376 (num 5))) (352 ∷ 360 ∷ 368 ∷ 376 ∷ []))
    (record { refusal = 0; count = 1; marks = 50 ∷ 0 ∷ []; flags = true ∷ true ∷ []; words = 40 ∷ 20 ∷ num 3 ∷ num 5 ∷ [] }))
unfolding Runs-defs
all-samples_gone = tt

-- a sample at 25 after a run that left the mark 30 is the newest: what stands behind it, 3 at 30, is not read, the window at 20 holds 7, and the mark goes back
-- to 25. In document 01 alone the range from 40 up to 26 was empty: the window held 2, and the mark stayed 30
pub mark_goes_back :
    T (alike (left (run (after (store 1) (rec 20 1 ∷ rec 30 3 ∷ consolidate_call ∷ rec 25 7 ∷ []))) (360 ∷ 376 ∷ []))
    (record { refusal = 0; count = 1; marks = 25 ∷ 0 ∷ []; flags = true ∷ false ∷ []; words = 20 ∷ num 7 ∷ [] }))
unfolding Runs-defs
mark_goes_back = tt

-- a nonzero mark below the destination's interval, 15 put there by hand: the reading starts at 0. The sample at 1 came after the one at 20, so it is the newest
-- and not the oldest: from 0 on it alone is read, and its window is refused with 13. From any start above 1 the range is empty, and nothing is refused; so it
-- was in document 01 alone, where the reading started at 25
pub mark_below_the_interval :
    T (alike (left (run (with (after (fresh (tier 0 10 30 0 ∷ tier 1 20 40 1 ∷ [])) (rec 20 2 ∷ rec 1 1 ∷ [])) 80 15)) (376 ∷ 384 ∷ []))
    (record { refusal = 13; count = 0; marks = 15 ∷ 0 ∷ []; flags = true ∷ false ∷ []; words = 0 ∷ 0 ∷ [] }))
unfolding Runs-defs
mark_below_the_interval = tt

-- a run with nothing new writes the window that holds the mark again, over the 5 put there by hand, and counts it: a closed window, then one still open. The
-- window at 20, before the mark's, is not written again. In document 01 alone nothing was written, and 5 stayed
pub nothing_new_closed :
    T (alike (left (run (with (with (after (fresh (tier 0 10 40 0 ∷ tier 1 20 40 1 ∷ [])) (rec 30 7 ∷ rec 40 1 ∷ rec 50 3 ∷ consolidate_call ∷ [])) 416 (num 5)) 424 (num 6)))
    (400 ∷ 408 ∷ 416 ∷ 424 ∷ []))
    (record { refusal = 0; count = 1; marks = 50 ∷ 0 ∷ []; flags = true ∷ true ∷ []; words = 40 ∷ 20 ∷ num 2 ∷ num 6 ∷ [] }))
unfolding Runs-defs
nothing_new_closed = tt

pub nothing_new_open :
    T (alike (left (run (with (with (after (fresh (tier 0 10 40 0 ∷ tier 1 20 40 1 ∷ [])) (rec 20 7 ∷ rec 30 7 ∷ rec 40 3 ∷ consolidate_call ∷ [])) 416 (num 5)) 424 (num 6)))
    (400 ∷ 408 ∷ 416 ∷ 424 ∷ []))
    (record { refusal = 0; count = 1; marks = 40 ∷ 0 ∷ []; flags = true ∷ true ∷ []; words = 40 ∷ 20 ∷ num 3 ∷ num 6 ∷ [] }))
unfolding Runs-defs
nothing_new_open = tt

-- three tiers and a run in the middle of a window of each: after 1, 3 and 8 at 40 to 60 the window of 40 holds 5, the mean of 2 and of the open 8; after 10 at
-- 70 the window at 60 holds 9, and the window of 40 holds 5.5: its 2 is read again. In document 01 alone they then held 10 and, not written again, 5
pub open_mean_for_now :
    T (alike (left (run (after (fresh (tier 0 10 40 0 ∷ tier 1 20 40 1 ∷ tier 2 40 40 1 ∷ [])) (rec 40 1 ∷ rec 50 3 ∷ rec 60 8 ∷ []))) (480 ∷ 488 ∷ 592 ∷ []))
    (record { refusal = 0; count = 3; marks = 60 ∷ 60 ∷ 0 ∷ []; flags = false ∷ false ∷ false ∷ []; words = num 2 ∷ num 8 ∷ num 5 ∷ [] }))
unfolding Runs-defs
open_mean_for_now = tt

pub open_mean_made-good :
    T (alike (left (run (after (fresh (tier 0 10 40 0 ∷ tier 1 20 40 1 ∷ tier 2 40 40 1 ∷ [])) (rec 40 1 ∷ rec 50 3 ∷ rec 60 8 ∷ consolidate_call ∷ rec 70 10 ∷ []))) (480 ∷ 488 ∷ 592 ∷ []))
    (record { refusal = 0; count = 2; marks = 70 ∷ 60 ∷ 0 ∷ []; flags = false ∷ false ∷ false ∷ []; words = num 2 ∷ num 9 ∷ 0x4016_0000_0000_0000 ∷ [] }))
unfolding Runs-defs
open_mean_made-good = tt

-- each pair goes by its own mark: after a run that left 40 for both, and 8 and 9 at 60 and 80, the second pair reads from 40 on, though the first pair's mark is
-- 80 by then. The window of 40 at 40 held 1, and holds 4.5. In document 01 alone it held 8: the reading of the second pair started at 60
pub own_mark :
    T (alike (left (run (after (fresh (tier 0 10 50 0 ∷ tier 1 20 60 1 ∷ tier 2 40 80 1 ∷ [])) (rec 40 1 ∷ consolidate_call ∷ rec 60 8 ∷ rec 80 9 ∷ [])))
    (512 ∷ 520 ∷ 528 ∷ 648 ∷ 656 ∷ []))
    (record { refusal = 0; count = 5; marks = 80 ∷ 80 ∷ 0 ∷ []; flags = true ∷ true ∷ true ∷ []; words = num 8 ∷ num 9 ∷ num 1 ∷ num 9 ∷ 0x4012_0000_0000_0000 ∷ [] }))
unfolding Runs-defs
own_mark = tt

-- ---- replies

-- each call replies to what the call before left
pub replies_are :
    replies (store 1) (record_call 0 0 0 0 ∷ rec 20 1 ∷ consolidate_call ∷ query_call 0 0 1 5 5 ∷ []) ≡ refused 13 ∷ done ∷ wrote 1 ∷ refused 15 ∷ []
unfolding Runs-defs
replies_are = refl

-- the code's answers as replies
pub answers_as_replies :
    outcome_reply (Ok tt) ∷ outcome_reply (Err BadImage) ∷ outcome_reply (Err NoConsolidationFunction)
    ∷ consolidated_reply (Ok 7) ∷ consolidated_reply (Err CorruptedSlab) ∷ queried_reply [] (Err InvalidTier) ∷ []
    ≡ done ∷ refused 1 ∷ refused 16 ∷ wrote 7 ∷ refused 10 ∷ refused 14 ∷ []
unfolding Runs-defs
answers_as_replies = refl
