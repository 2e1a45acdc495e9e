-- The third demand, proved: `proof : ThirdDemand` for the statement in demand/specs/Demand.antt, of every plan, buffer, flags and list of calls, with nothing
-- added to its supposition and nothing taken from its conclusion. It follows from `stronger`, which supposes less (Stronger). Assumes nothing.
use Rattle.demand.specs.Demand.{finest, answers, tier_interval, due, ThirdDemand}
use Rattle.demand_proved.specs.Stronger.{StrongerDemand}
use Rattle.demand_proved.proofs.Story.{samples_are, as_promised}
use Rattle.demand_proved.proofs.Tests.{clauses}

pub stronger : StrongerDemand
unfolding StrongerDemand finest answers tier_interval due
stronger s h = rw (samples_are s) (as_promised s h)

pub proof : ThirdDemand
unfolding ThirdDemand StrongerDemand
proof s accepted one plan supposition quiet column tier = stronger s (clauses s accepted plan supposition quiet column tier)
