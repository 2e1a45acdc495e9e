-- The store between two calls: an opening keeps what the set-up has of it. Assumes nothing.
use Rattle.std.specs.Prelude.{ℕ, Bool, List}
use Rattle.std.proofs.Common.{◌∙◌}
use Rattle.model.specs.Lent.{Lent}
use Rattle.demand.specs.Demand.{Sample}
use Rattle.run_theory.specs.Setup.{Setup, again, base_again, ring-again, mark_again}
use Rattle.run_theory.proofs.Setup.{state_again, tier-again}
use Rattle.run_theory.specs.Between.{Between}

pub between_again : {S : Setup} {l : Lent} {ys : List Sample} {e f : ℕ} → Between S l ys e f → (fs : List Bool) → Between S (again l fs) ys e f
between_again {S} {l} {ys} {e} {f} h fs = record {
  base = base_again h.base fs;
  state = state_again h.base fs 0 e S.some h.state;
  cols = rw (ring-again h.base fs 0 S.some) h.cols;
  tiers = λ j x y. tier-again h.base fs j f y (h.tiers j x y);
  marks = λ j x. mark_again h.base fs j ∙ h.marks j x;
  regular = h.regular;
  reached = h.reached;
  low = h.low;
  high = h.high;
  known = h.known;
}
