-- The theorem's supposition is not stronger than it must be: for each clause of `supposed` a list of calls that breaks that clause alone, and where the
-- promise fails; plans that break one clause of `suited`, likewise; and a query that breaks the clause on the calls between, on the column, on the tier. (A
-- first stamp of 0 is no case: no sample has it. How many tiers there may be and how great a ratio is are not shown to be needed.) What of the schedule and of
-- the rings is asked and not needed stands in NotNeeded. By computation. Assumes nothing.
use Rattle.std.specs.Prelude.{ℕ, zero, suc, ◌*◌, ◌%◌, ◌≡◌, refl, Bool, true, false, ◌&&◌, List, [], ◌∷◌, ◌++◌, map, T, ltb, eqb, replicate, take}
use Rattle.model.specs.declared.Row.{Row}
use Rattle.model.specs.Image.{rows, row_count}
use Rattle.model.specs.Store.{Call, record_call, consolidate_call}
use Rattle.demand.specs.Demand.{Demand-defs, Event, events, samples_in, first_of, ascending, all, is_offset, gapless, ticks, scheduled, each, suited, used, Situation, finest, coarsest, after_run, history, samples, answers, tier_interval, due}
use Rattle.model.specs.Cases.{Cases-defs, tier, plan, num}
use Rattle.demand.specs.Instance.{both}

-- the clauses of `supposed` behind the first
unfoldable pub clauses : Situation → List Bool
clauses s =
    let es = history s in
    let xs = samples_in es in
    let d = finest s in
    eqb (first_of xs % coarsest s) 0 ∷ ascending 0 xs ∷ all (λ x. is_offset x.value) xs ∷ all (λ x. eqb (x.stamp % d) 0) xs
    ∷ all (λ x. gapless x.column d (first_of xs) (ticks d xs) xs) xs ∷ scheduled (coarsest s) 0 0 es ∷ []

unfoldable pub conj : List Bool → Bool
conj [] = true
conj (b ∷ bs) = b && conj bs

-- ---- lists and plans that break one of them

-- the promise
unfoldable pub kept : Situation → Bool
kept s = each (finest s) s.column (tier_interval s) s.tier (samples s) (due s) (answers s)

-- column 1 at tier k, on these tiers
unfoldable pub on : List Row → List Call → ℕ → Situation
on rs cs k = record { plan = plan rs; buf = replicate 780 9; flags = replicate 32 true; before = cs; between = []; column = 1; tier = k }

-- the offset v of column 1 at t
unfoldable pub off : ℕ → ℕ → Call
off t v = record_call 0 1 (num v) t

-- 1 and 2 ns, with so many slots
unfoldable pub small : ℕ → ℕ → List Row
small n m = tier 0 1 n 0 ∷ tier 1 2 (2 * m) 1 ∷ []

-- 1, 2 and 4 ns, with 8, n and 2 slots
unfoldable pub third : ℕ → List Row
third n = tier 0 1 8 0 ∷ tier 1 2 (2 * n) 1 ∷ tier 2 4 8 1 ∷ []

-- 10 and 20 ns, four slots each
unfoldable pub two : List Row
two = tier 0 10 40 0 ∷ tier 1 20 80 1 ∷ []

-- all clauses but the n-th
unfoldable pub all_but : ℕ → List Bool
all_but zero = false ∷ replicate 5 true
all_but (suc n) = true ∷ take 5 (all_but n)

-- ---- the lists

-- the first stamp is not a multiple of the coarsest interval; stamps fall; NaN; a stamp between ticks; a tick without a sample; an interval without a run: the
-- window at 2 is filled again when the sample at 2 has left the ring. So it is where a run stands after the last tick of the interval before: it counts for that
-- one, not for the next
unfoldable pub broken : List Situation
broken =
    on two (both 30 (num 1) (num 2) ∷ []) 1
    ∷ on two (record_call 0 0 (num 2) 20 ∷ record_call 0 0 (num 2) 30 ∷ record_call 0 1 (num 1) 30 ∷ record_call 0 1 (num 1) 20 ∷ []) 0
    ∷ on two (both 20 (num 1) (num 2) ∷ both 30 0x7ff8_0000_0000_0000 (num 2) ∷ []) 0
    ∷ on two (both 20 (num 1) (num 2) ∷ record_call 0 1 (num 1) 25 ∷ both 30 (num 1) (num 2) ∷ []) 0
    ∷ on two (record_call 0 0 (num 2) 20 ∷ both 30 (num 1) (num 2) ∷ []) 0
    ∷ on (small 4 3) (off 2 1 ∷ consolidate_call ∷ off 3 3 ∷ off 4 9 ∷ off 5 27 ∷ off 6 81 ∷ []) 1
    ∷ on (small 4 3) (off 2 1 ∷ off 3 3 ∷ consolidate_call ∷ off 4 9 ∷ off 5 27 ∷ off 6 81 ∷ []) 1 ∷ []

-- ---- the plans: a ratio that is not whole; a tier that takes the least; rings that span one coarsest interval, but not two, so that a closed window is filled
-- again from its last samples alone: the finest, by a run in the middle of an interval and by one after its last tick; the finer of two coarser tiers
unfoldable pub midway : List Call
midway = off 2 1 ∷ consolidate_call ∷ off 3 3 ∷ off 4 9 ∷ off 5 27 ∷ []

unfoldable pub at_ends : List Call
at_ends = off 2 1 ∷ off 3 3 ∷ consolidate_call ∷ off 4 9 ∷ off 5 27 ∷ []

unfoldable pub longer : List Call
longer = off 4 1 ∷ consolidate_call ∷ off 5 3 ∷ off 6 9 ∷ off 7 27 ∷ off 8 81 ∷ off 9 1 ∷ off 10 1 ∷ []

unfoldable pub unsuited : List Situation
unsuited =
    on (tier 0 10 60 0 ∷ tier 1 15 60 1 ∷ tier 2 30 60 1 ∷ []) (both 30 (num 0) (num 2) ∷ both 40 (num 0) (num 2) ∷ both 50 (num 3) (num 2) ∷ []) 2
    ∷ on (tier 0 10 40 0 ∷ tier 1 20 40 2 ∷ []) (both 20 (num 1) (num 2) ∷ both 30 (num 3) (num 2) ∷ []) 1
    ∷ on (small 3 2) midway 1 ∷ on (small 3 2) at_ends 1 ∷ on (third 3) longer 2 ∷ []

-- with one slot more these three are suited, and the promise is kept
unfoldable pub slot_more : List Situation
slot_more = on (small 4 2) midway 1 ∷ on (small 4 2) at_ends 1 ∷ on (third 4) longer 2 ∷ []

-- ---- the clauses beside them: the calls between do nothing; the column is used; the tier is one of the plan's

unfoldable pub is_nothing : List Event → Bool
is_nothing [] = true
is_nothing (e ∷ es) = false

unfoldable pub others : Situation → List Bool
others s = is_nothing (events (after_run s) s.between) ∷ used s.column (samples s) ∷ ltb s.tier (row_count s.plan) ∷ []

-- a sample between the run and the query; a column without a sample; a tier that is none, where the bytes behind the plan look like a row
unfoldable pub beside : List Situation
beside =
    record { plan = plan two; buf = replicate 900 9; flags = replicate 32 true; before = both 20 (num 1) (num 2) ∷ both 30 (num 1) (num 2) ∷ []; between = record_call 0 1 (num 1) 40 ∷ []; column = 1; tier = 0 }
    ∷ on two (record_call 0 0 (num 1) 20 ∷ record_call 0 0 (num 1) 30 ∷ []) 0
    ∷ record { plan = plan two ++ replicate 8 0 ++ 10 ∷ replicate 7 0 ++ 40 ∷ replicate 7 0; buf = replicate 900 9; flags = replicate 32 true; before = both 20 (num 1) (num 2) ∷ both 30 (num 1) (num 2) ∷ []; between = []; column = 1; tier = 2 } ∷ []

unfoldable pub Needed-defs : Unit {0}
unfolding Cases-defs Demand-defs both clauses kept on off small third two all_but broken midway at_ends longer unsuited slot_more is_nothing others beside
Needed-defs = tt

-- ---- the rows

-- each list breaks its own clause alone
pub one_clause : map clauses broken ≡ map all_but (0 ∷ 1 ∷ 2 ∷ 3 ∷ 4 ∷ 5 ∷ 5 ∷ [])
unfolding Needed-defs
one_clause = refl

pub plans-suited : T (conj (map (λ (s : Situation). suited (rows s.plan)) broken))
unfolding Needed-defs conj
plans-suited = tt

pub promise_fails : map kept broken ≡ replicate 7 false
unfolding Needed-defs
promise_fails = refl

-- these plans are not suited, and their lists break no clause
pub no_clause : map clauses unsuited ≡ replicate 5 (replicate 6 true)
unfolding Needed-defs
no_clause = refl

pub not-suited : map (λ (s : Situation). suited (rows s.plan)) unsuited ≡ replicate 5 false
unfolding Needed-defs
not-suited = refl

pub promise_fails_too : map kept unsuited ≡ replicate 5 false
unfolding Needed-defs
promise_fails_too = refl

pub slot_more_lem : T (conj (map (λ (s : Situation). suited (rows s.plan) && kept s) slot_more))
unfolding Needed-defs conj
slot_more_lem = tt

-- of the other clauses each breaks its own alone
pub others_hold : map (λ (s : Situation). suited (rows s.plan) ∷ clauses s) beside ≡ replicate 3 (replicate 7 true)
unfolding Needed-defs
others_hold = refl

pub one_of_them : map others beside ≡ (false ∷ true ∷ true ∷ []) ∷ (true ∷ false ∷ true ∷ []) ∷ (true ∷ true ∷ false ∷ []) ∷ []
unfolding Needed-defs
one_of_them = refl

pub promise_fails_there : map kept beside ≡ replicate 3 false
unfolding Needed-defs
promise_fails_there = refl

-- ---- slots hold the open window too: after samples at 2 to 6 and a run after each coarsest interval's last tick and after 6, two slots give the windows at 4
-- and 6, of which 6 is open. The newest two that are closed, 2 and 4, are not what is given, nor are these with the open one behind them

unfoldable pub opened : Situation
opened = on (small 4 2) (off 2 1 ∷ off 3 3 ∷ consolidate_call ∷ off 4 9 ∷ off 5 27 ∷ consolidate_call ∷ off 6 81 ∷ []) 1

-- the promise, with these windows for those that are due
unfoldable pub kept_for : Situation → List ℕ → Bool
kept_for s ws = each (finest s) s.column (tier_interval s) s.tier (samples s) ws (answers s)

pub open_takes-a_slot : T (conj (clauses opened) && suited (rows opened.plan) && kept opened)
unfolding Needed-defs conj opened
open_takes-a_slot = tt

pub which_windows : kept_for opened (4 ∷ 6 ∷ []) ∷ kept_for opened (2 ∷ 4 ∷ []) ∷ kept_for opened (2 ∷ 4 ∷ 6 ∷ []) ∷ [] ≡ true ∷ false ∷ false ∷ []
unfolding Needed-defs opened kept_for
which_windows = refl
