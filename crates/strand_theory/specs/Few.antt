-- How often a source whose stamps stand in their own slots is cut, by the laps that the range has: the claim, proved in proofs/Few.antt. Assumes nothing.
use Rattle.std.specs.Prelude.{ℕ, suc, ◌-◌, ◌*◌, ◌≤◌, ◌<◌, ◌≡◌, List, length}
use Rattle.model.specs.Ring.{slots, cursor, newest}
use Rattle.model.specs.Window.{Job}
use Rattle.model.specs.Consolidate.{end_after}
use Rattle.strand_theory.specs.Cuts.{Cuts, Homed, Laps}

-- at most two cuts for each lap, where the range does not start at 0; one more where it does, at a slot without a stamp
pub record FewCuts (q : Job) (ls : List ℕ) : Type 0 where
  pub few_cuts_from : 0 < q.start → {k b : ℕ} → Cuts q k b → k ≤ 2 * length ls
  pub few_cuts : {k b : ℕ} → Cuts q k b → k ≤ suc (2 * length ls)

-- where the range ends behind the newest stamp
pub record FewerCuts (q : Job) (ls : List ℕ) : Type 0 where
  pub fewer_cuts_from : 0 < q.start → {k b : ℕ} → Cuts q k b → k ≤ 2 * (length ls - 1)
  pub fewer_cuts : {k b : ℕ} → Cuts q k b → k ≤ suc (2 * (length ls - 1))

unfoldable pub FewRanges : Type 0
FewRanges =
    (q : Job) (ls : List ℕ) → cursor q.source.slab < slots q.source.slab → Homed q.source.slab → Laps q ls
    → FewCuts q ls × (q.end ≡ end_after (newest q.source) → FewerCuts q ls)
