-- `pair_runs::fill_runs` meets its contract: the runs written, gone on with the slots that are left, are all windows. Assumes nothing.
use Prim.Native.Nat.{ℕ, ◌<◌}
use native.Mathlib.Nat.{mul-le-mul_left}
use native.Mathlib.Omega.{arith}
use mathlib.Core.Path.{◌≡◌, ap, ◌∙◌, subst}
use mathlib.Core.List.{List}
use Rattle.model.specs.Bytes.{part}
use Rattle.model.specs.Window.{Job}
use Rattle.model.specs.Consolidate.{fill_window}
use Rattle.rows.specs.First.{not_accepted}
use Rattle.window.specs.Parts.{job_in}
use Rattle.window_runs.specs.Parts.{Ran}
use Rattle.pair_fill.specs.Parts.{Keeps, source_in, pair_job, filled_in}
use Rattle.pair_fill.proofs.Kept.{keeps_same, keeps_then, job-kept, covers_kept}
use Rattle.pair_runs.proofs.Laws.{run-covers, run_turn, run-last, runs_done, fewer_left}
use Rattle.pair_runs.proofs.fill_runs.Goals as goal

pub loop-here-init : goal.loop-here-init
loop-here-init c =
    let a = c.args in
    record {
      slot_in = c.requires.lies.1;
      few_left = c.requires.lies.2;
      keeps = keeps_same a.image.now a.p c.requires.lies.0;
      fine = c.requires.outcome_value.0;
      few = omega (arith, mul-le-mul_left a.p.reading.series c.requires.lies.2);
      rest = c.requires.rest;
    }

pub next_run-r-requires : goal.next_run-r-requires
unfolding part
next_run-r-requires c =
    let i = c.loop-here.invariant in record { readable = i.keeps.lies.readable; slot_lt_slots = (i.slot_in, c.loop-here-test.true) }

pub fill_window-done-requires : goal.fill_window-done-requires
unfolding part
fill_window-done-requires c =
    let some_left : 0 < c.loop-here.here.left = c.loop-here-test.true in
    let source : List ℕ =
    let a = c.args in
    source_in a.image.now a.p in
    let ran : let q = c.args.p.reading in Ran (job_in source q) q.slots c.loop-here.here c.next_run-r.result =
    let q = c.args.p.reading in
    subst (λ (s : List ℕ). Ran (job_in s q) q.slots c.loop-here.here c.next_run-r.result) c.loop-here.invariant.keeps.source_is c.next_run-r.ensures in
    let a = c.args in
    let i = c.loop-here.invariant in
    let covers = run-covers source a.p.reading c.requires.lies.0.readable some_left i.rest ran i.few_left in record {
      lies = (i.keeps.lies, covers_kept a.image.now c.loop-here.image a.p i.keeps covers);
      outcome_value =
          (i.fine, omega (arith, i.few, c.requires.outcome_value.1, fewer_left a.p.reading.series 0 c.loop-here.here.left some_left));
    }

pub returns-in_default : goal.returns-in_default
unfolding part
returns-in_default c =
    let fills : filled_in c.fill_window-done.new.image c.args.p c.fill_window-done.result ≡ fill_window (pair_job c.args.image.now c.args.p)
    (filled_in c.loop-here.image c.args.p c.loop-here.done) c.next_run-r.result.window 0 c.args.p.reading.series =
    let f = filled_in c.loop-here.image c.args.p c.loop-here.done in
    c.fill_window-done.ensures.result_after ∙ ap (λ (q : Job). fill_window q f c.next_run-r.result.window 0 c.args.p.reading.series) (job-kept c.args.image.now c.loop-here.image c.args.p c.loop-here.invariant.keeps) in
    let kept : Keeps c.args.image.now c.fill_window-done.new.image c.args.p =
    keeps_then c.args.image.now c.loop-here.image c.fill_window-done.new.image c.args.p c.requires.lies.0 c.loop-here.invariant.keeps c.fill_window-done.ensures.keeps.0 in
    let some_left : 0 < c.loop-here.here.left = c.loop-here-test.true in
    let source : List ℕ =
    let a = c.args in
    source_in a.image.now a.p in
    let ran : let q = c.args.p.reading in Ran (job_in source q) q.slots c.loop-here.here c.next_run-r.result =
    let q = c.args.p.reading in
    subst (λ (s : List ℕ). Ran (job_in s q) q.slots c.loop-here.here c.next_run-r.result) c.loop-here.invariant.keeps.source_is c.next_run-r.ensures in
    let a = c.args in
    let i = c.loop-here.invariant in
    let last = run-last source a.p.reading c.requires.lies.0.readable some_left i.rest ran fills
    (not_accepted c.in_default.is) in
    record { result_after = last; keeps = (kept, omega (arith, c.fill_window-done.ensures.keeps.1, i.few, fewer_left a.p.reading.series 0 c.loop-here.here.left some_left)) }

pub loop-here-preserved : goal.loop-here-preserved
unfolding part
loop-here-preserved c =
    let fills : filled_in c.fill_window-done.new.image c.args.p c.fill_window-done.result ≡ fill_window (pair_job c.args.image.now c.args.p)
    (filled_in c.loop-here.image c.args.p c.loop-here.done) c.next_run-r.result.window 0 c.args.p.reading.series =
    let f = filled_in c.loop-here.image c.args.p c.loop-here.done in
    c.fill_window-done.ensures.result_after ∙ ap (λ (q : Job). fill_window q f c.next_run-r.result.window 0 c.args.p.reading.series) (job-kept c.args.image.now c.loop-here.image c.args.p c.loop-here.invariant.keeps) in
    let kept : Keeps c.args.image.now c.fill_window-done.new.image c.args.p =
    keeps_then c.args.image.now c.loop-here.image c.fill_window-done.new.image c.args.p c.requires.lies.0 c.loop-here.invariant.keeps c.fill_window-done.ensures.keeps.0 in
    let some_left : 0 < c.loop-here.here.left = c.loop-here-test.true in
    let source : List ℕ =
    let a = c.args in
    source_in a.image.now a.p in
    let ran : let q = c.args.p.reading in Ran (job_in source q) q.slots c.loop-here.here c.next_run-r.result =
    let q = c.args.p.reading in
    subst (λ (s : List ℕ). Ran (job_in s q) q.slots c.loop-here.here c.next_run-r.result) c.loop-here.invariant.keeps.source_is c.next_run-r.ensures in
    let a = c.args in
    let i = c.loop-here.invariant in
    let k = ran in
    record {
      slot_in = k.rest_in;
      few_left = omega (arith, k.fewer, i.few_left);
      keeps = kept;
      fine = c.in-Ok.is;
      few = omega (arith, c.fill_window-done.ensures.keeps.1, i.few, fewer_left a.p.reading.series c.next_run-r.result.rest.left c.loop-here.here.left k.fewer);
      rest = run_turn source a.p.reading c.requires.lies.0.readable some_left i.rest k fills;
    }

pub returns : goal.returns
returns c =
    let source : List ℕ =
    let a = c.args in
    source_in a.image.now a.p in
    let i = c.loop-here.invariant in record { result_after = runs_done source c.args.p.reading c.requires.lies.0.readable c.loop-here.here.slot c.loop-here.here.left (omega arith) i.rest; keeps = (i.keeps, omega (arith, i.few)) }
