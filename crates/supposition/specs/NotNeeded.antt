-- What the request 2026-01 asks and the promise does not need here: for each a list of calls, or a plan, that breaks that alone, with the promise kept. The
-- theorem supposes it, since the request does. By computation. Assumes nothing.
use Rattle.std.specs.Prelude.{ℕ, ◌≡◌, refl, Bool, true, false, not, ◌&&◌, List, [], ◌∷◌, map, replicate, T}
use Rattle.model.specs.declared.Row.{Row}
use Rattle.model.specs.Image.{rows}
use Rattle.model.specs.Store.{record_call, consolidate_call}
use Rattle.demand.specs.Demand.{each, suited, Situation, samples, answers, tier_interval, due}
use Rattle.model.specs.Cases.{tier, num}
use Rattle.supposition.specs.Needed.{Needed-defs, clauses, conj, kept, on, off, small, third, all_but}

-- ---- the schedule

-- supposed by change 2026-01, not needed here: a run in the first coarsest interval; no run before the first sample; no run in the middle of a tick, after column 0's
-- sample and before column 1's
unfoldable pub spared : List (ℕ → Situation)
spared =
    on (small 4 2) (off 2 1 ∷ off 3 3 ∷ off 4 9 ∷ off 5 27 ∷ []) ∷ on (small 4 2) (consolidate_call ∷ off 2 1 ∷ off 3 3 ∷ consolidate_call ∷ off 4 9 ∷ [])
    ∷ on (small 4 2) (off 2 1 ∷ record_call 0 0 (num 5) 2 ∷ record_call 0 0 (num 5) 3 ∷ consolidate_call ∷ off 3 3 ∷ []) ∷ []

-- each breaks the schedule alone
pub schedule_broken : map (λ (f : ℕ → Situation). clauses (f 1)) spared ≡ replicate 3 (all_but 5)
unfolding Needed-defs spared
schedule_broken = refl

-- the promise is kept at both tiers
pub kept-all_the_same : T (conj (map (λ (f : ℕ → Situation). suited (rows (f 1).plan) && kept (f 0) && kept (f 1)) spared))
unfolding Needed-defs conj spared
kept-all_the_same = tt

-- ---- the rings

-- supposed by change 2026-01, not needed here: a coarsest ring that spans two coarsest intervals. One slot holds the window at 4 alone
unfoldable pub one_slot : ℕ → Situation
one_slot = on (small 4 1) (off 2 1 ∷ consolidate_call ∷ off 3 3 ∷ off 4 9 ∷ off 5 27 ∷ [])

pub not-suited : clauses (one_slot 1) ∷ (suited (rows (one_slot 1).plan) ∷ []) ∷ [] ≡ replicate 6 true ∷ (false ∷ []) ∷ []
unfolding Needed-defs one_slot
not-suited = refl

pub kept-with-one_slot : T (kept (one_slot 0) && kept (one_slot 1))
unfolding Needed-defs one_slot
kept-with-one_slot = tt

-- ---- the open window: the promise with the bound for it as well, against the mean of its samples so far. Not asked, and true here at tier 1; at tier 2 it
-- fails: the window at 4 holds (2 + 9) / 2 after the offsets 1, 3 and 9, whose mean is 13 / 3

unfoldable pub bounded_too : Situation → Bool
bounded_too s = each (tier_interval s) s.column (tier_interval s) s.tier (samples s) (due s) (answers s)

unfoldable pub three_ticks : List Row → ℕ → Situation
three_ticks rs = on rs (off 4 1 ∷ off 5 3 ∷ off 6 9 ∷ [])

pub bound_so_far :
    T (conj (map (λ s. kept s && bounded_too s) (three_ticks (tier 0 1 8 0 ∷ tier 1 4 8 1 ∷ []) 1 ∷ three_ticks (third 4) 1 ∷ []))
    && kept (three_ticks (third 4) 2) && not (bounded_too (three_ticks (third 4) 2)))
unfolding Needed-defs conj bounded_too three_ticks
bound_so_far = tt
