-- How often a range up to the newest stamp that is at most m rings long, m times interval × slots, is cut: the claim, proved in proofs/Short.antt. Assumes nothing.
use Rattle.std.specs.Prelude.{ℕ, suc, ◌+◌, ◌-◌, ◌*◌, ◌≤◌, ◌<◌, ◌≡◌}
use Rattle.model.specs.Ring.{slots, interval, cursor, newest}
use Rattle.model.specs.Window.{Job}
use Rattle.model.specs.Consolidate.{end_after}
use Rattle.strand_theory.specs.Cuts.{Cuts, Homed}

-- at most 2 (m - 1) cuts; one more from 0 on, at a slot without a stamp
pub record ShortCuts (q : Job) (m : ℕ) : Type 0 where
  pub short_cuts_from : 0 < q.start → {k b : ℕ} → Cuts q k b → k ≤ 2 * (m - 1)
  pub short_cuts_any : {k b : ℕ} → Cuts q k b → k ≤ suc (2 * (m - 1))

unfoldable pub ShortRanges : Type 0
ShortRanges =
    (q : Job) (cur : cursor q.source.slab < slots q.source.slab) (home : Homed q.source.slab) (ended : q.end ≡ end_after (newest q.source))
    (m : ℕ) (short : q.end ≤ q.start + m * (interval q.source.slab * slots q.source.slab)) → ShortCuts q m
