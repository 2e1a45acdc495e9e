-- The third demand is not empty: a list of calls on three tiers that meets the supposition, with the promised answers, by computation. It stands beside the
-- statement, so that an edit of it meets it. Assumes nothing.
use Rattle.std.specs.Prelude.{ℕ, ◌-◌, ◌^◌, ◌≡◌, refl, Bool, true, false, ◌&&◌, List, [], ◌∷◌, replicate, T, eqb, negsuc}
use Rattle.std.specs.Float.{binary64}
use Rattle.std.specs.Float.Ieee.{to_bits, of_int}
use Rattle.model.specs.declared.Row.{Row}
use Rattle.model.specs.declared.Point.{Point}
use Rattle.model.specs.Image.{rows, create_check}
use Rattle.model.specs.Lent.{Lent}
use Rattle.model.specs.Store.{Call, call, after, record_call, batch_call, query_call, auto_call, consolidate_call, open_call}
use Rattle.demand.specs.Demand.{Demand-defs, Situation, Event, took, ran, samples_in, suited, scheduled, supposed, history, newest_windows, each, answers, used, events, created, up_to_run, after_run, handed_out}
use Rattle.model.specs.Cases.{Cases-defs, tier, plan, num, infinity, at}

-- ---- the list

-- 10, 20 and 40 ns; 8, 4 and 3 slots
unfoldable pub tiers : List Row
tiers = tier 0 10 80 0 ∷ tier 1 20 80 1 ∷ tier 2 40 120 1 ∷ []

-- -n - 1
unfoldable pub minus : ℕ → ℕ
minus n = to_bits binary64 (of_int binary64 (negsuc n))

unfoldable pub minus_zero : ℕ
minus_zero = 0x8000_0000_0000_0000

-- one batch for both columns at t: a for column 1, b for column 0
unfoldable pub both : ℕ → ℕ → ℕ → Call
both t a b = batch_call (record { schema = 0; column = 1; value = a } ∷ record { schema = 0; column = 0; value = b } ∷ []) t

-- two runs after the first tick of the first coarsest interval, one after the last of the second, as far behind them as it may be; the run after the third
-- tick of the third, in the middle of a window of 20 and of one of 40, is left to Situation. Refused records, a query and an empty batch stand between; one of those
-- records is old (request 2026-05): 40, whose slot holds 120. Taken as a sample it would break stamp order.
-- Openings, handed flags that are all true, all false or none: before the first sample; after the first run and before the second; within the tick 80; after the
-- third run. At the tick 80 the finest ring has just gone round, and its slot 1 has no stamp yet: by document 01's own rule the opening would set no flag, the third
-- run would not see 50 to 70, and the coarsest tier's first point of column 1 would be 1
unfoldable pub calls : List Call
calls =
    open_call (replicate 32 true) ∷ both 40 (num 1) minus_zero ∷ consolidate_call ∷ open_call (replicate 32 true) ∷ consolidate_call
    ∷ record_call 0 0 (num 3) 50 ∷ record_call 0 1 (num 3) 0 ∷ record_call 0 1 (minus 3) 50
    ∷ both 60 (num 7) (num 7) ∷ both 70 (num 2) (minus 0) ∷ query_call 0 0 0 0 9 ∷ batch_call [] 0
    ∷ record_call 0 0 (num 2) 80 ∷ open_call (replicate 32 false) ∷ record_call 0 1 (num 1) 80 ∷ both 90 (num 2) (num 5) ∷ both 100 (num 1) (num 2) ∷ record_call 0 1 infinity 110 ∷ both 110 (num 4) (num 2)
    ∷ consolidate_call ∷ open_call [] ∷ both 120 (num 3) (num 1) ∷ record_call 0 0 (num 9) 40 ∷ both 130 (num 6) (num 2) ∷ both 140 (num 5) (num 9) ∷ []

-- column c at tier k; a refused record, an old batch, an opening and a query stand between the run and the query. The opening finds tier 1's cursor in the last
-- slot, so it turns that flag from true to false; no point is lost
unfoldable pub story : ℕ → ℕ → Situation
story c k = record {
  plan = plan tiers;
  buf = replicate 804 9;
  flags = replicate 32 true;
  before = calls;
  between = record_call 0 9 0 0 ∷ both 60 (num 9) (num 9) ∷ open_call (replicate 32 false) ∷ auto_call 0 1 0 9 ∷ [];
  column = c;
  tier = k;
}

unfoldable pub Instance-defs : Unit {0}
unfolding Cases-defs Demand-defs tiers minus minus_zero both calls story
Instance-defs = tt

-- the supposition is met
pub accepted_plan : create_check (plan tiers) (replicate 804 9) ≡ 0
unfolding Instance-defs
accepted_plan = refl

pub suited-plan : T (suited (rows (plan tiers)))
unfolding Instance-defs
suited-plan = tt

-- its finer rings span exactly two coarsest intervals: with a slot less in one of them, or a coarsest ring of one slot, it is not suited
pub slot_less :
    suited (tier 0 10 70 0 ∷ tier 1 20 80 1 ∷ tier 2 40 80 1 ∷ []) ∷ suited (tier 0 10 80 0 ∷ tier 1 20 60 1 ∷ tier 2 40 80 1 ∷ [])
    ∷ suited (tier 0 10 80 0 ∷ tier 1 20 80 1 ∷ tier 2 40 40 1 ∷ []) ∷ []
    ≡ false ∷ false ∷ false ∷ []
unfolding Instance-defs
slot_less = refl

-- what the calls did: the samples of both columns, and four runs
unfoldable pub sample : ℕ → ℕ → ℕ → Event
sample t c v = took (record { column = c; stamp = t; value = v })

unfoldable pub did : List Event
did =
    sample 40 1 (num 1) ∷ sample 40 0 minus_zero ∷ ran ∷ ran ∷ sample 50 0 (num 3) ∷ sample 50 1 (minus 3) ∷ sample 60 1 (num 7) ∷ sample 60 0 (num 7)
    ∷ sample 70 1 (num 2) ∷ sample 70 0 (minus 0)
    ∷ sample 80 0 (num 2) ∷ sample 80 1 (num 1) ∷ sample 90 1 (num 2) ∷ sample 90 0 (num 5) ∷ sample 100 1 (num 1) ∷ sample 100 0 (num 2)
    ∷ sample 110 1 (num 4) ∷ sample 110 0 (num 2) ∷ ran ∷ sample 120 1 (num 3) ∷ sample 120 0 (num 1) ∷ sample 130 1 (num 6) ∷ sample 130 0 (num 2)
    ∷ sample 140 1 (num 5) ∷ sample 140 0 (num 9) ∷ ran ∷ []

pub history-is : (c k : ℕ) → history (story c k) ≡ did
unfolding Instance-defs sample did
history-is c k = refl

-- the supposition is met by it, and column 1 is used
pub met : T (supposed 10 40 did) × T (used 1 (samples_in did))
unfolding Instance-defs sample did
met = (tt, tt)

pub quiet : events (after_run (story 1 0)) (story 1 0).between ≡ []
unfolding Instance-defs
quiet = refl

-- the windows that are due at the three tiers: of these, 140 at tier 1 and 120 at tier 2 are still open. Two slots at tier 2 would not hold its first, and five
-- would hold no more
pub dues :
    newest_windows 10 8 (samples_in did) ∷ newest_windows 20 4 (samples_in did) ∷ newest_windows 40 3 (samples_in did)
    ∷ newest_windows 40 2 (samples_in did) ∷ newest_windows 40 5 (samples_in did) ∷ []
    ≡ (70 ∷ 80 ∷ 90 ∷ 100 ∷ 110 ∷ 120 ∷ 130 ∷ 140 ∷ []) ∷ (80 ∷ 100 ∷ 120 ∷ 140 ∷ []) ∷ (40 ∷ 80 ∷ 120 ∷ []) ∷ (80 ∷ 120 ∷ []) ∷ (40 ∷ 80 ∷ 120 ∷ []) ∷ []
unfolding Instance-defs sample did
dues = refl

-- the same numbers, and the same points, list by list. As tests, so that a claim that fails is not computed again for its message
unfoldable pub same_numbers : List ℕ → List ℕ → Bool
same_numbers [] [] = true
same_numbers [] (y ∷ ys) = false
same_numbers (x ∷ xs) [] = false
same_numbers (x ∷ xs) (y ∷ ys) = eqb x y && same_numbers xs ys

unfoldable pub same : List Point → List Point → Bool
same [] [] = true
same [] (q ∷ qs) = false
same (p ∷ ps) [] = false
same (p ∷ ps) (q ∷ qs) = eqb p.stamp q.stamp && eqb p.value q.value && same ps qs

unfoldable pub alike : List (List Point) → List (List Point) → Bool
alike [] [] = true
alike [] (q ∷ qs) = false
alike (p ∷ ps) [] = false
alike (p ∷ ps) (q ∷ qs) = same p q && alike ps qs

-- the points of column c at tier k over all time
unfoldable pub points : Lent → ℕ → ℕ → List Point
points l c k = handed_out (call l (query_call 0 c k 0 (2 ^ 64 - 1))).reply

-- the points of column 1 at the three tiers and of column 0 at tier 1
unfoldable pub read : Lent → List (List Point)
read l = points l 1 0 ∷ points l 1 1 ∷ points l 1 2 ∷ points l 0 1 ∷ []

-- a point by its value's pattern
unfoldable pub point : ℕ → ℕ → Point
point t v = record { stamp = t; value = v }

-- their values: those of the closed windows, and behind a semicolon that of the window still open; tier 0 has none
unfoldable pub finest_points : List Point
finest_points = at 70 2 ∷ at 80 1 ∷ at 90 2 ∷ at 100 1 ∷ at 110 4 ∷ at 120 3 ∷ at 130 6 ∷ at 140 5 ∷ []

-- 1.5, 2.5, 4.5; 5
unfoldable pub middle_points : List Point
middle_points = point 80 0x3ff8_0000_0000_0000 ∷ point 100 0x4004_0000_0000_0000 ∷ point 120 0x4012_0000_0000_0000 ∷ at 140 5 ∷ []

-- 1.5, 2; 4.75, the mean of 4.5 and 5, though the samples so far, 3, 6 and 5, have the mean 14 / 3
unfoldable pub coarsest_points : List Point
coarsest_points = point 40 0x3ff8_0000_0000_0000 ∷ at 80 2 ∷ point 120 0x4013_0000_0000_0000 ∷ []

-- 3.5, 2, 1.5; 9
unfoldable pub other_column : List Point
other_column = point 80 0x400c_0000_0000_0000 ∷ at 100 2 ∷ point 120 0x3ff8_0000_0000_0000 ∷ at 140 9 ∷ []

unfoldable pub numbers : List (List Point)
numbers = finest_points ∷ middle_points ∷ coarsest_points ∷ other_column ∷ []

-- read before the calls between, with the flags as left, and after them
unfoldable pub read_twice : Lent → List Call → Bool
read_twice l cs = alike (read l) numbers && alike (read (after l cs)) numbers

second : (a b : Bool) → T (a && b) → T b
second true b h = h
second false b h = absurd h

-- the calls are computed once for all eight queries
pub read_is : T (read_twice (after_run (story 0 0)) (story 0 0).between)
unfolding Instance-defs same alike points read point finest_points middle_points coarsest_points other_column numbers read_twice
read_is = tt

pub points_are : T (alike (answers (story 1 0) ∷ answers (story 1 1) ∷ answers (story 1 2) ∷ answers (story 0 1) ∷ []) numbers)
unfolding story created up_to_run after_run answers points read read_twice
points_are = second (alike (read (after_run (story 0 0))) numbers) (alike (read (after (after_run (story 0 0)) (story 0 0).between)) numbers) read_is

-- they are as promised
pub promised :
    each 10 1 10 0 (samples_in did) (70 ∷ 80 ∷ 90 ∷ 100 ∷ 110 ∷ 120 ∷ 130 ∷ 140 ∷ []) finest_points
    && each 10 1 20 1 (samples_in did) (80 ∷ 100 ∷ 120 ∷ 140 ∷ []) middle_points
    && each 10 1 40 2 (samples_in did) (40 ∷ 80 ∷ 120 ∷ []) coarsest_points
    ≡ true
unfolding Instance-defs sample did point finest_points middle_points coarsest_points
promised = refl

-- and not: a point dropped, one more, two exchanged, a wrong stamp, 1 / 1,024 off at tier 2; a wrong value in the window that closed last; the open window's
-- point missing, stamped otherwise, or there twice; a wrong value before it. 1 / 2,048 off is within the bound, and for the open window's point there is none
pub not_promised :
    each 10 1 10 0 (samples_in did) (80 ∷ 90 ∷ []) (at 80 1 ∷ []) ∷ each 10 1 10 0 (samples_in did) (80 ∷ []) (at 80 1 ∷ at 90 2 ∷ [])
    ∷ each 10 1 10 0 (samples_in did) (80 ∷ 90 ∷ []) (at 90 2 ∷ at 80 1 ∷ []) ∷ each 10 1 10 0 (samples_in did) (80 ∷ []) (at 90 1 ∷ [])
    ∷ each 10 1 40 2 (samples_in did) (80 ∷ []) (point 80 0x4000_0200_0000_0000 ∷ []) ∷ each 10 1 10 0 (samples_in did) (140 ∷ []) (at 140 6 ∷ [])
    ∷ each 10 1 40 2 (samples_in did) (80 ∷ 120 ∷ []) (at 80 2 ∷ []) ∷ each 10 1 40 2 (samples_in did) (80 ∷ 120 ∷ []) (at 80 2 ∷ at 130 2 ∷ [])
    ∷ each 10 1 40 2 (samples_in did) (80 ∷ 120 ∷ []) (at 80 2 ∷ at 120 2 ∷ at 120 2 ∷ []) ∷ each 10 1 40 2 (samples_in did) (80 ∷ 120 ∷ []) (at 80 3 ∷ at 120 2 ∷ [])
    ∷ each 10 1 40 2 (samples_in did) (80 ∷ []) (point 80 0x4000_0100_0000_0000 ∷ [])
    ∷ each 10 1 40 2 (samples_in did) (80 ∷ 120 ∷ []) (at 80 2 ∷ at 120 9 ∷ []) ∷ []
    ≡ false ∷ false ∷ false ∷ false ∷ false ∷ false ∷ false ∷ false ∷ false ∷ false ∷ true ∷ true ∷ []
unfolding Instance-defs sample did point
not_promised = refl

-- the schedule. Good: a run after the first tick of an interval and the next after the last of the following one; the old schedule, a run after each coarsest
-- interval's last tick; two runs after one tick, and none yet in the interval of the greatest stamp, which the run in question serves.
-- Not good: an interval without a run, where the last run before it follows the first tick of the interval before it, or the last one: that run counts for
-- its own interval alone; a first interval without a run; a sample of a tick behind a run that follows the tick; a run before the first sample
unfoldable pub ticked : ℕ → Event
ticked t = sample t 0 0

pub schedules :
    scheduled 40 0 0 (ticked 40 ∷ ran ∷ ticked 50 ∷ ticked 60 ∷ ticked 70 ∷ ticked 80 ∷ ticked 90 ∷ ticked 100 ∷ ticked 110 ∷ ran ∷ ticked 120 ∷ [])
    ∷ scheduled 40 0 0 (ticked 40 ∷ ticked 50 ∷ ticked 60 ∷ ticked 70 ∷ ran ∷ ticked 80 ∷ ticked 90 ∷ ticked 100 ∷ ticked 110 ∷ ran ∷ [])
    ∷ scheduled 40 0 0 (ticked 40 ∷ ticked 50 ∷ ran ∷ ran ∷ ticked 60 ∷ ticked 70 ∷ ticked 80 ∷ ticked 90 ∷ [])
    ∷ scheduled 40 0 0 (ticked 40 ∷ ran ∷ ticked 50 ∷ ticked 60 ∷ ticked 70 ∷ ticked 80 ∷ ticked 90 ∷ ticked 100 ∷ ticked 110 ∷ ticked 120 ∷ ran ∷ [])
    ∷ scheduled 40 0 0 (ticked 40 ∷ ticked 50 ∷ ticked 60 ∷ ticked 70 ∷ ran ∷ ticked 80 ∷ ticked 90 ∷ ticked 100 ∷ ticked 110 ∷ ticked 120 ∷ ran ∷ [])
    ∷ scheduled 40 0 0 (ticked 40 ∷ ticked 50 ∷ ticked 60 ∷ ticked 70 ∷ ticked 80 ∷ ran ∷ [])
    ∷ scheduled 40 0 0 (ticked 40 ∷ ran ∷ ticked 40 ∷ []) ∷ scheduled 40 0 0 (ticked 40 ∷ ticked 50 ∷ ran ∷ ran ∷ ticked 50 ∷ []) ∷ scheduled 40 0 0 (ran ∷ ticked 40 ∷ []) ∷ []
    ≡ true ∷ true ∷ true ∷ false ∷ false ∷ false ∷ false ∷ false ∷ false ∷ []
unfolding Instance-defs sample ticked
schedules = refl
