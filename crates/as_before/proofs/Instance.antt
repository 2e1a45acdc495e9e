-- The claim reaches the instance. Assumes nothing.
use Rattle.std.specs.Prelude.{◌≡◌, true, replicate}
use Rattle.model.specs.Store.{after, replies}
use Rattle.as_before.specs.Before as Before
use Rattle.as_before.specs.Before.{Before-defs}
use Rattle.as_before.specs.AsBefore.{AsBefore}
use Rattle.as_before.specs.Instance.{mixed_plan, mixed, made, calls, plan_accepted, mixed_in_order, mixed_none_refused}

-- the claim reaches it: its suppositions, and no others, are met there
pub reaches : AsBefore → (after mixed calls ≡ Before.after mixed calls) × (replies mixed calls ≡ Before.replies mixed calls)
unfolding AsBefore mixed made
reaches claim = claim mixed_plan (replicate 540 9) (replicate 32 true) plan_accepted calls mixed_in_order mixed_none_refused
