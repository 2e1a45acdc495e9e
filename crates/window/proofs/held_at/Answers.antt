-- `window::held_at` meets its contract, one case a return. Assumes nothing.
use native.Mathlib.Omega.{arith}
use Rattle.model.specs.Ring.{cell}
use Rattle.window.specs.Parts.{job_in}
use Rattle.laws.specs.Windows.{before_start, past_end, other_window, in_window, below_window, past_window, of_window}
use Rattle.window.proofs.held_at.Goals as goal

pub returns-then-t-q : goal.returns-then-t-q
returns-then-t-q c = cc (before_start (let a = c.args in job_in a.slab.now a.q) c.args.window c.stamp-t.result (let a = c.args in cell a.slab.now a.column a.slot) c.if-t-q.true)

pub returns-then-t-q-2 : goal.returns-then-t-q-2
returns-then-t-q-2 c = cc (past_end (let a = c.args in job_in a.slab.now a.q) c.args.window c.stamp-t.result (let a = c.args in cell a.slab.now a.column a.slot) (omega arith) (omega arith))

pub returns-then-t-window : goal.returns-then-t-window
returns-then-t-window c =
    let p = c.requires in
    let o = below_window (let a = c.args in job_in a.slab.now a.q).long p.readable.some_long p.slot_lt_slots.2 c.if-t-window.true in
    cc (other_window (let a = c.args in job_in a.slab.now a.q) c.args.window c.stamp-t.result (let a = c.args in cell a.slab.now a.column a.slot) (omega arith) (omega arith) o)

pub returns-then-t-window-2 : goal.returns-then-t-window-2
returns-then-t-window-2 c =
    let p = c.requires in
    let o = past_window (let a = c.args in job_in a.slab.now a.q).long p.readable.some_long {t = c.stamp-t.result} p.slot_lt_slots.2 (omega arith) (omega arith) in
    cc (other_window (let a = c.args in job_in a.slab.now a.q) c.args.window c.stamp-t.result (let a = c.args in cell a.slab.now a.column a.slot) (omega arith) (omega arith) o)

pub returns : goal.returns
returns c =
    let p = c.requires in
    let i = of_window (let a = c.args in job_in a.slab.now a.q).long p.readable.some_long {t = c.stamp-t.result} p.slot_lt_slots.2 (omega arith) (omega arith) in
    cc (in_window (let a = c.args in job_in a.slab.now a.q) c.args.window c.stamp-t.result (let a = c.args in cell a.slab.now a.column a.slot) (omega arith) (omega arith) i)
