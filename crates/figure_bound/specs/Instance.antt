-- The bound is not empty: the list of calls of demand/specs/Instance.antt with one tick more, which closes the last window of every tier. What the panel then shows is
-- computed; proofs/Instance.antt has it within the bound at the coarsest tier, from the theorem. Assumes nothing.
use Rattle.std.specs.Prelude.{ℕ, ◌≡◌, refl, Bool, true, List, [], ◌∷◌, ◌++◌, T, ℤ, pos, negsuc}
use Rattle.model.specs.Lent.{Lent}
use Rattle.model.specs.Store.{Call, after}
use Rattle.model.specs.Figure.{PanelReply, shows, panel}
use Rattle.model.specs.Cases.{num}
use Rattle.demand.specs.Demand.{Situation, Event, Sample, samples_in, supposed, used, newest_windows, is_closed, in_window, sum_of, count, history, events, after_run}
use Rattle.demand.specs.Instance.{Instance-defs, minus, both, calls, story, sample, did}
use Rattle.demand.specs.PanelBound.{Bound-defs, last_start}

-- the tick 150 comes before the run: 0 for column 1, -14 for column 0
unfoldable pub closing : ℕ → ℕ → Situation
closing c k = record {
  plan = (story c k).plan;
  buf = (story c k).buf;
  flags = (story c k).flags;
  before = calls ++ both 150 (num 0) (minus 13) ∷ [];
  between = (story c k).between;
  column = c;
  tier = k;
}

-- what the calls did: as in the instance, and two samples before the last run
unfoldable pub before_last : List Event → List Event → List Event
before_last new [] = new
before_last new (e ∷ []) = new ++ e ∷ []
before_last new (e ∷ f ∷ es) = e ∷ before_last new (f ∷ es)

unfoldable pub closed : List Event
closed = before_last (sample 150 1 (num 0) ∷ sample 150 0 (minus 13) ∷ []) did

pub history-is : (c k : ℕ) → history (closing c k) ≡ closed
unfolding Instance-defs sample did closing before_last closed
history-is c k = refl

-- the supposition is met, and both columns are used
pub met : T (supposed 10 40 closed) × T (used 0 (samples_in closed)) × T (used 1 (samples_in closed))
unfolding Instance-defs sample did before_last closed
met = (tt, tt, tt)

-- the last windows that are due at the three tiers start at 150, 140 and 120
pub lasts_are :
    last_start 0 (newest_windows 10 8 (samples_in closed)) ∷ last_start 0 (newest_windows 20 4 (samples_in closed)) ∷ last_start 0 (newest_windows 40 3 (samples_in closed)) ∷ []
    ≡ 150 ∷ 140 ∷ 120 ∷ []
unfolding Instance-defs Bound-defs sample did before_last closed
lasts_are = refl

-- they are closed; column 1 has in them 1, 2 and 4 samples, 0, 5 and 14 in sum, column 0 as many, -14, -5 and -2 in sum
unfoldable pub exact : List Sample → (c i w : ℕ) → Bool × ℕ × ℤ
exact xs c i w = (is_closed 10 i xs w, count (in_window c i w) xs, sum_of (in_window c i w) xs)

pub exact_are :
    exact (samples_in closed) 1 10 150 ∷ exact (samples_in closed) 1 20 140 ∷ exact (samples_in closed) 1 40 120
    ∷ exact (samples_in closed) 0 10 150 ∷ exact (samples_in closed) 0 20 140 ∷ exact (samples_in closed) 0 40 120 ∷ []
    ≡ (true, 1, pos 0) ∷ (true, 2, pos 5) ∷ (true, 4, pos 14) ∷ (true, 1, negsuc 13) ∷ (true, 2, negsuc 4) ∷ (true, 4, negsuc 1) ∷ []
unfolding Instance-defs sample did before_last closed exact
exact_are = refl

-- the means 0, 2.5 and 3.5 show 0, 2 and 4; -14, -2.5 and -0.5 show -14, -2 and 0. The calls between neither record nor run
unfoldable pub shown_of : Lent → List PanelReply
shown_of l = panel l 0 1 0 ∷ panel l 0 1 1 ∷ panel l 0 1 2 ∷ panel l 0 0 0 ∷ panel l 0 0 1 ∷ panel l 0 0 2 ∷ []

unfoldable pub afterwards : Lent → List Call → List Event × List PanelReply
afterwards l cs = (events l cs, shown_of (after l cs))

pub shown_are :
    afterwards (after_run (closing 0 0)) (closing 0 0).between
    ≡ ([], shows (pos 0) ∷ shows (pos 2) ∷ shows (pos 4) ∷ shows (negsuc 13) ∷ shows (negsuc 1) ∷ shows (pos 0) ∷ [])
unfolding Instance-defs closing shown_of afterwards
shown_are = refl
