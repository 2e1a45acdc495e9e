use Rattle.window.specs.Parts.{job_in}
use Rattle.window_theory.specs.Cut.{onward}
use Rattle.window_runs.specs.Strand.{Trimmed}
use Rattle.window_runs.proofs.up_to_last.Given as goal

abbrev pub invariant-loop-left : goal.invariant-loop-left
invariant-loop-left l = Trimmed (onward (job_in l.slab l.q) l.start) l.q.slots l.place (record { slot = l.place.slot; left = l.left })
