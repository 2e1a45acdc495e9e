-- `pair_fill::fill_window` meets its contract: the columns written, gone on with those that remain, are the window. Assumes nothing.
use Prim.Native.Nat.{◌-◌}
use native.Mathlib.Nat.{sub-zero}
use native.Mathlib.Omega.{arith}
use mathlib.Core.Path.{◌≡◌, ap, ◌∙◌}
use Rattle.model.specs.Words.{outcome_no}
use Rattle.model.specs.Window.{Job, window_answer}
use Rattle.model.specs.Consolidate.{write_answer}
use Rattle.rows.specs.First.{not_accepted}
use Rattle.pair_fill.specs.Parts.{Keeps, pair_job, filled_in}
use Rattle.pair_fill.proofs.Kept.{keeps_same, keeps_then, job-kept}
use Rattle.pair_fill.proofs.Laws.{column_turn, column_last, columns_done}
use Rattle.pair_fill.proofs.fill_window.Goals as goal

pub loop-column-init : goal.loop-column-init
loop-column-init c =
    let a = c.args in
    record {
      column_in = omega arith;
      keeps = keeps_same a.image.now a.p c.requires.lies.0;
      fine = c.requires.outcome_value.0;
      few = omega arith;
      left = rw (sub-zero a.p.reading.series);
    }

pub returns-in_default : goal.returns-in_default
returns-in_default c =
    let fills : let a = c.args in filled_in c.fill_column-done.new.image c.args.p c.fill_column-done.result ≡ write_answer
    (window_answer (pair_job c.args.image.now c.args.p) a.window c.loop-column.column) (filled_in c.loop-column.image c.args.p c.loop-column.done) a.window c.loop-column.column =
    let a = c.args in
    c.fill_column-done.ensures.result_after ∙ ap (λ (q : Job). write_answer (window_answer q a.window c.loop-column.column) (filled_in c.loop-column.image c.args.p c.loop-column.done)
    a.window c.loop-column.column) (job-kept c.args.image.now c.loop-column.image c.args.p c.loop-column.invariant.keeps) in
    let kept : Keeps c.args.image.now c.fill_column-done.new.image c.args.p =
    keeps_then c.args.image.now c.loop-column.image c.fill_column-done.new.image c.args.p c.requires.lies.0 c.loop-column.invariant.keeps c.fill_column-done.ensures.keeps.0 in
    let a = c.args in
    let last = column_last (pair_job a.image.now a.p) a.window (filled_in c.loop-column.image c.args.p c.loop-column.done) a.p.reading.series c.loop-column.column c.loop-column-test.true
    (ap outcome_no c.loop-column.invariant.fine) fills c.loop-column.invariant.left
    (not_accepted c.in_default.is) in
    record { result_after = last; keeps = (kept, omega (arith, c.fill_column-done.ensures.keeps.1, c.loop-column.invariant.few)) }

pub loop-column-preserved : goal.loop-column-preserved
loop-column-preserved c =
    let fills : let a = c.args in filled_in c.fill_column-done.new.image c.args.p c.fill_column-done.result ≡ write_answer
    (window_answer (pair_job c.args.image.now c.args.p) a.window c.loop-column.column) (filled_in c.loop-column.image c.args.p c.loop-column.done) a.window c.loop-column.column =
    let a = c.args in
    c.fill_column-done.ensures.result_after ∙ ap (λ (q : Job). write_answer (window_answer q a.window c.loop-column.column) (filled_in c.loop-column.image c.args.p c.loop-column.done)
    a.window c.loop-column.column) (job-kept c.args.image.now c.loop-column.image c.args.p c.loop-column.invariant.keeps) in
    let kept : Keeps c.args.image.now c.fill_column-done.new.image c.args.p =
    keeps_then c.args.image.now c.loop-column.image c.fill_column-done.new.image c.args.p c.requires.lies.0 c.loop-column.invariant.keeps c.fill_column-done.ensures.keeps.0 in
    let a = c.args in
    record {
      column_in = omega arith;
      keeps = kept;
      fine = c.in-Ok.is;
      few = omega (arith, c.fill_column-done.ensures.keeps.1, c.loop-column.invariant.few);
      left = column_turn (pair_job a.image.now a.p) a.window (filled_in c.loop-column.image c.args.p c.loop-column.done) a.p.reading.series c.loop-column.column c.loop-column-test.true
          (ap outcome_no c.loop-column.invariant.fine) fills c.loop-column.invariant.left;
    }

pub returns : goal.returns
returns c =
    let a = c.args in
    let i = c.loop-column.invariant in record {
      result_after = columns_done (pair_job a.image.now a.p) a.window (filled_in c.loop-column.image a.p c.loop-column.done) c.loop-column.column
          (a.p.reading.series - c.loop-column.column) (omega arith) i.left;
      keeps = (i.keeps, omega (arith, i.few));
    }
