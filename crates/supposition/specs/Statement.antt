-- The third demand's statement, computed on a story: what is due and promised there, and what the statement says of it. Assumes nothing.
use Rattle.std.specs.Prelude.{ℕ, ◌<◌, ◌≡◌, refl, true, false, ◌&&◌, List, [], ◌∷◌, map, replicate, T}
use Rattle.std.proofs.Common.{lit<}
use Rattle.model.specs.declared.Point.{Point}
use Rattle.model.specs.Image.{rows, row_count, schemas, create_check}
use Rattle.model.specs.Store.{Call, record_call, consolidate_call, open_call}
use Rattle.demand.specs.Demand.{Demand-defs, suited, supposed, used, Situation, finest, coarsest, events, after_run, history, samples, answers, tier_interval, due, ThirdDemand}
use Rattle.model.specs.Cases.{Cases-defs, tier, plan, num}
use Rattle.demand.specs.Instance.{minus, same_numbers}
use Rattle.supposition.specs.Needed.{Needed-defs, clauses, conj, kept, on, off, small}

-- ---- a story: 10, 20 and 40 ns with 8, 6 and 2 slots; nine ticks of column 1, most offsets below zero; runs in the middle of the first coarsest interval,
-- after the second's last tick and, left to Situation, after the third's first, where windows of 20 and of 40 are open

unfoldable pub calls : List Call
calls =
    record_call 0 1 (minus 0) 40 ∷ record_call 0 1 (minus 1) 50 ∷ record_call 0 1 (minus 2) 60 ∷ consolidate_call ∷ record_call 0 1 (minus 3) 70
    ∷ record_call 0 1 (minus 4) 80 ∷ record_call 0 1 (num 2) 90 ∷ record_call 0 1 (num 1) 100 ∷ record_call 0 1 (minus 7) 110 ∷ consolidate_call
    ∷ record_call 0 1 (minus 2) 120 ∷ []

-- queried at tier k
unfoldable pub story : ℕ → Situation
story k = record {
  plan = plan (tier 0 10 80 0 ∷ tier 1 20 120 1 ∷ tier 2 40 80 1 ∷ []);
  buf = replicate 824 9;
  flags = replicate 32 true;
  before = calls;
  between = [];
  column = 1;
  tier = k;
}

unfoldable pub intervals : Situation → List ℕ
intervals s = finest s ∷ coarsest s ∷ tier_interval s ∷ []

pub intervals_are : map intervals (map story (0 ∷ 1 ∷ 2 ∷ [])) ≡ (10 ∷ 40 ∷ 10 ∷ []) ∷ (10 ∷ 40 ∷ 20 ∷ []) ∷ (10 ∷ 40 ∷ 40 ∷ []) ∷ []
unfolding Cases-defs Demand-defs calls story intervals
intervals_are = refl

-- the newest eight of nine windows; all five, the open one at 120 among them, though there are six slots; the newest two of three, of which 120 is open
pub due_are :
    T (same_numbers (due (story 0)) (50 ∷ 60 ∷ 70 ∷ 80 ∷ 90 ∷ 100 ∷ 110 ∷ 120 ∷ []) && same_numbers (due (story 1)) (40 ∷ 60 ∷ 80 ∷ 100 ∷ 120 ∷ []) && same_numbers (due (story 2)) (80 ∷ 120 ∷ []))
unfolding Cases-defs Demand-defs minus same_numbers calls story
due_are = tt

-- after samples at 20, 30 and 40 the window of 20 ns at 40 is still open, and is due
pub open_due :
    T (same_numbers (due (record {
      plan = plan (tier 0 10 40 0 ∷ tier 1 20 40 1 ∷ []);
      buf = replicate 448 9;
      flags = replicate 32 true;
      before = record_call 0 1 (num 1) 20 ∷ record_call 0 1 (num 1) 30 ∷ record_call 0 1 (num 1) 40 ∷ [];
      between = [];
      column = 1;
      tier = 1;
    })) (20 ∷ 40 ∷ []))
unfolding Cases-defs Demand-defs same_numbers
open_due = tt

-- the supposition is met, and the promise is kept at each tier
pub met : T (supposed (finest (story 2)) (coarsest (story 2)) (history (story 2)))
unfolding Cases-defs Demand-defs minus calls story
met = tt

pub kept_are : T (kept (story 0) && kept (story 1) && kept (story 2))
unfolding Cases-defs Demand-defs minus calls story kept
kept_are = tt

-- ---- the statement reaches the story at its coarsest tier: its suppositions, and no others, are met there, and what it promises is `kept`

accepted : create_check (story 2).plan (story 2).buf ≡ 0
unfolding Cases-defs story
accepted = refl

one_schema : schemas (story 2).plan ≡ 1
unfolding Cases-defs story
one_schema = refl

suited-plan : T (suited (rows (story 2).plan))
unfolding Cases-defs Demand-defs story
suited-plan = tt

quiet : events (after_run (story 2)) (story 2).between ≡ []
unfolding events story
quiet = refl

column_used : T (used (story 2).column (samples (story 2)))
unfolding Cases-defs Demand-defs minus calls story
column_used = tt

tier_in_lem : (story 2).tier < row_count (story 2).plan
unfolding Cases-defs story
tier_in_lem = lit< tt

pub reaches : ThirdDemand → T (kept (story 2))
unfolding ThirdDemand kept
reaches d = d (story 2) accepted one_schema suited-plan met quiet column_used tier_in_lem

-- ---- openings: 1 and 2 ns with four and two slots; samples at 2 and 3, a run, a sample at 4, an opening, and the run left to Situation. At the opening the finest
-- ring has its cursor in slot 0, no stamp in slot 1, and 2 and 3 above it: by document 01's own rule there would be no flag, and 4 alone would be read

unfoldable pub cycled : ℕ → Situation
cycled = on (small 4 2) (off 2 1 ∷ off 3 3 ∷ consolidate_call ∷ off 4 9 ∷ open_call (replicate 32 false) ∷ [])

-- the same with an opening before and after every call, and before the query
unfoldable pub always : ℕ → Situation
always k =
    let o = open_call [] in
    let s = on (small 4 2) (o ∷ off 2 1 ∷ o ∷ off 3 3 ∷ o ∷ consolidate_call ∷ o ∷ off 4 9 ∷ o ∷ []) k in
    record { plan = s.plan; buf = s.buf; flags = s.flags; before = s.before; between = o ∷ []; column = s.column; tier = s.tier }

pub every-point : T (same_numbers (map (λ (p : Point). p.stamp) (answers (cycled 0))) (2 ∷ 3 ∷ 4 ∷ []))
unfolding Needed-defs same_numbers cycled
every-point = tt

pub opened-kept :
    T (conj (clauses (cycled 0)) && suited (rows (cycled 0).plan) && kept (cycled 0) && kept (cycled 1))
    × T (conj (clauses (always 0)) && kept (always 0) && kept (always 1))
unfolding Needed-defs conj cycled always
opened-kept = (tt, tt)
