-- `window_runs::next_strand` meets its contract: all slots up to the last in the range were met, and behind it there is none. Assumes nothing.
use Rattle.window.specs.Parts.{job_in}
use Rattle.window_theory.specs.Cut.{onward}
use Rattle.window_runs.specs.Strand.{all_met}
use Rattle.window_runs.proofs.next_strand.Goals as goal

pub returns : goal.returns
returns c =
    let a = c.args in
    all_met (onward (job_in a.slab.now a.q) a.start) c.requires.readable.some_long a.q.slots a.first c.up_to_last-slots.ensures c.edge_of-e.ensures
