-- The third demand with no more supposed than its proof uses. The clauses are those of demand/specs/Demand.antt, each under a name of its own, but for six that it
-- does not need: one schema (all rows but the first average, so no second schema has a finest tier), at least two tiers, at most four, a ratio of at least 2, a
-- coarsest ring that spans two of its intervals, a first stamp that is not 0. `ThirdDemand` follows from it (Theorem). Each clause that is left has a must-fail edit that weakens it. Assumes nothing.
use Rattle.std.specs.Prelude.{ℕ, suc, ◌-◌, ◌*◌, ◌/◌, ◌%◌, ◌≤◌, ◌<◌, ◌≡◌, true, List, [], T, eqb}
use Rattle.model.specs.Image.{row_count, row_at, row_slots, create_check}
use Rattle.demand.specs.Demand.{events, first_of, ascending, all, is_offset, gapless, ticks, scheduled, used, each, Situation, finest, coarsest, after_run, history, samples, answers, tier_interval, due}

-- of the plan and the slice that is lent to creation: creation accepts them; each interval is a whole number of the finer one's, at most 4,096; coarser tiers
-- average; each ring's slots but the coarsest's span two coarsest intervals
pub record Planned (p buf : List ℕ) : Type 0 where
  pub accepted : create_check p buf ≡ 0
  pub whole : (k : ℕ) → suc k < row_count p → (row_at p (suc k)).interval % (row_at p k).interval ≡ 0
  pub most : (k : ℕ) → suc k < row_count p → (row_at p (suc k)).interval / (row_at p k).interval ≤ 4096
  pub average : (k : ℕ) → suc k < row_count p → (row_at p (suc k)).function ≡ 1
  pub spans : (k : ℕ) → suc k < row_count p → 2 * (row_at p (row_count p - 1)).interval ≤ row_slots (row_at p k) * (row_at p k).interval

-- of the calls: the first stamp is a multiple of the coarsest interval; stamps never fall; each sample is a whole offset, at a multiple of the finest
-- interval, and its column has one at every tick; the runs are on schedule; the calls between neither record nor run; the queried column is used, the tier
-- one of the plan's
pub record Supposition (s : Situation) : Type 0 where
  pub plan-is : Planned s.plan s.buf
  pub first-whole : first_of (samples s) % coarsest s ≡ 0
  pub ordered : ascending 0 (samples s) ≡ true
  pub offsets : all (λ x. is_offset x.value) (samples s) ≡ true
  pub on-ticks : all (λ x. eqb (x.stamp % finest s) 0) (samples s) ≡ true
  pub no_gap : all (λ x. gapless x.column (finest s) (first_of (samples s)) (ticks (finest s) (samples s)) (samples s)) (samples s) ≡ true
  pub on_schedule : scheduled (coarsest s) 0 0 (history s) ≡ true
  pub quiet : events (after_run s) s.between ≡ []
  pub column_used : used s.column (samples s) ≡ true
  pub tier_in_lem : s.tier < row_count s.plan

unfoldable pub StrongerDemand : Type 0
StrongerDemand = (s : Situation) → Supposition s → T (each (finest s) s.column (tier_interval s) s.tier (samples s) (due s) (answers s))
