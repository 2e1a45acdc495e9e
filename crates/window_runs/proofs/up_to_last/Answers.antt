-- `window_runs::up_to_last` meets its contract: the slots gone are not in the range. Assumes nothing.
use native.Mathlib.Omega.{arith}
use mathlib.Core.Path.{sym, ◌∙◌}
use Rattle.window.specs.Parts.{job_in}
use Rattle.model.specs.Window.{Job}
use Rattle.window_theory.specs.Cut.{onward}
use Rattle.window_runs.proofs.Laws.{trim_more}
use Rattle.window_runs.proofs.up_to_last.Goals as goal

pub loop-left-preserved : goal.loop-left-preserved
loop-left-preserved c =
    let job : Job = let a = c.args in onward (job_in a.slab.now a.q) a.start in
    let a = c.args in
    trim_more job a.q.slots a.place c.loop-left.left c.requires.slot_lt_slots.0 (omega arith) c.slot_at-slot.ensures.0 (rw c.source_of-source.ensures.0 at c.stamp-t.ensures)
    (sym c.in_range-inside.ensures ∙ c.if-inside.false) c.loop-left.invariant
