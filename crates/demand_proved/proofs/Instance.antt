-- The concrete store of three tiers in demand/specs/Instance.antt, where the promise is computed: here it follows from the theorem, for each of its tiers and
-- used columns. So the theorem's supposition can be met. Assumes nothing.
use Rattle.std.specs.Prelude.{ℕ, ◌<◌, ◌≡◌, refl, List, T}
use Rattle.std.proofs.Common.{sym, subst, lit<}
use Rattle.model.specs.Image.{row_count, schemas}
use Rattle.demand.specs.Demand.{Event, samples_in, used, supposed, finest, coarsest, created, up_to_run, after_run, samples, tier_interval, due, each, answers, ThirdDemand}
use Rattle.model.specs.Cases.{plan}
use Rattle.demand.specs.Instance.{Instance-defs, tiers, story, did, accepted_plan, suited-plan, history-is, met, quiet}
use Rattle.demand_proved.proofs.Theorem.{proof}

pub one_schema : schemas (plan tiers) ≡ 1
unfolding Instance-defs
one_schema = refl

pub three-rows : row_count (plan tiers) ≡ 3
unfolding Instance-defs
three-rows = refl

supposition : (c k : ℕ) → T (supposed (finest (story c k)) (coarsest (story c k)) did)
unfolding Instance-defs
supposition c k = met.0

pub promised : (c k : ℕ) → T (used c (samples_in did)) → k < 3 → T (each (finest (story c k)) c (tier_interval (story c k)) k (samples (story c k)) (due (story c k)) (answers (story c k)))
unfolding ThirdDemand story samples after_run created up_to_run
promised c k u h =
    proof (story c k) accepted_plan one_schema suited-plan
    (subst (λ (es : List Event). T (supposed (finest (story c k)) (coarsest (story c k)) es)) (sym (history-is c k)) (supposition c k)) quiet
    (subst (λ (es : List Event). T (used c (samples_in es))) (sym (history-is c k)) u) (subst (λ (n : ℕ). k < n) (sym three-rows) h)

-- so column 1 at the coarsest tier
pub promised_coarsest : T (each (finest (story 1 2)) 1 (tier_interval (story 1 2)) 2 (samples (story 1 2)) (due (story 1 2)) (answers (story 1 2)))
promised_coarsest = promised 1 2 met.1 (lit< tt)
