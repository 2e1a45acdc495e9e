-- After an opening every tier holds what it held. Assumes nothing.
use Rattle.std.specs.Prelude.{ℕ, ◌<◌, Bool}
use mathlib.Core.List.{List}
use Rattle.model.specs.Lent.{Lent, ring}
use Rattle.ring_theory.specs.Hold.{State}
use Rattle.ring_theory.proofs.Hold.{state_opened}
use Rattle.sample_theory.specs.Schedule.{touched}
use Rattle.run_theory.specs.Setup.{Setup, tier_count, interval_of, slots_of, first_no, Tier, Base, again, ring-again}

module _ {S : Setup} {l : Lent} (b : Base S l) (fs : List Bool) where
  -- what a tier's ring took it took still
  pub state_again : (k e : ℕ) → k < tier_count S → State (ring l k) (slots_of S k) S.columns (interval_of S k) (first_no S k) e
      → State (ring (again l fs) k) (slots_of S k) S.columns (interval_of S k) (first_no S k) e
  state_again k e h st = rw (ring-again b fs k h) (state_opened st)

  pub tier-again : (k e : ℕ) → k < tier_count S → Tier S l k e → Tier S (again l fs) k e
  tier-again k e h t = record { state = state_again k (touched (S.long k) e) h t.state; cols = rw (ring-again b fs k h) t.cols }
