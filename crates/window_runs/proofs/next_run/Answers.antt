-- `window_runs::next_run` meets its contract: the first slot, and those that are passed over behind it up to the last in the range, are the run. Assumes nothing.
use Prim.Native.Nat.{◌+◌, ◌-◌}
use native.Mathlib.Omega.{arith}
use mathlib.Core.Path.{ap, ◌∙◌}
use Rattle.model.specs.Ring.{walk}
use Rattle.model.specs.Window.{window_of}
use Rattle.window.specs.Parts.{job_in}
use Rattle.window_runs.specs.Parts.{from}
use Rattle.window_runs.proofs.Laws.{run-first}
use Rattle.window_runs.proofs.next_run.Goals as goal

pub returns : goal.returns
returns c =
    let a = c.args in
    let k = c.skip-over.ensures in
    let job = job_in a.slab.now a.q in
    record {
      window_is = c.window_of-w.ensures.0 ∙ ap (window_of a.q.long) (rw c.source_of-source.ensures.0 at c.stamp-t.ensures);
      run_in = c.requires.slot_lt_slots.0;
      run_few = omega arith;
      rest_in = k.slot_in;
      fewer = omega (arith, k.fewer);
      rest-is = k.rest-is ∙ ap (λ x. from job (c.window_of-w.result + a.q.long) (walk a.q.slots x (a.place.left - 1))) c.next_slot-next.ensures.0;
      parted = run-first job a.q.slots a.place.slot a.place.left c.requires.slot_lt_slots.1 c.next_slot-next.ensures.0 k.last_few k.parted;
    }
