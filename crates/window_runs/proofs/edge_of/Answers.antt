-- `window_runs::edge_of` meets its contract: what was met is the part of the slots behind; at the end these are all. Assumes nothing.
use Prim.Native.Nat.{ℕ, ◌+◌, ◌-◌, ◌%◌}
use native.Mathlib.Omega.{arith}
use mathlib.Core.Path.{sym, subst}
use Rattle.model.specs.Ring.{walk}
use Rattle.model.specs.Window.{Job}
use Rattle.window.specs.Parts.{job_in}
use Rattle.window_theory.specs.Cut.{onward}
use Rattle.window_runs.specs.Strand.{Edged}
use Rattle.window_runs.proofs.Laws.{early_met, late_met, lower_met, above_met, same_met, none_walk, met_more, met_all}
use Rattle.window_runs.proofs.edge_of.Goals as goal

pub loop-v-init : goal.loop-v-init
loop-v-init c =
    let a = c.args in
    record {
      from_first = omega arith;
      v_in = omega arith;
      head_in = omega arith;
      edged = none_walk (onward (job_in a.slab.now a.q) a.start) a.q.slots (a.place.slot + a.place.left) (omega arith);
    }

pub loop-v-preserved-then-t-start : goal.loop-v-preserved-then-t-start
loop-v-preserved-then-t-start c =
    let job : Job =
    let a = c.args in
    onward (job_in a.slab.now a.q) a.start in
    let behind : ℕ =
    let a = c.args in
    a.place.slot + a.place.left in
    let l = c.loop-v in (let l = c.loop-v in let a = c.args in let k = c.slot_at-slot in record {
      from_first = omega (arith, c.loop-v-test.true);
      v_in = omega (arith, l.invariant.v_in);
      head_in = l.invariant.head_in;
      edged = met_more job c.requires.readable.some_long a.q.slots
          behind l.v (omega (arith, c.loop-v-test.true)) l.invariant.v_in k.ensures.0 k.ensures.1 (rw c.source_of-source.ensures.0 at c.stamp-t.ensures) l.invariant.edged (early_met _ _ _ _ _ _ _ c.if-t-start.true);
    })

pub loop-v-preserved-then-t-end : goal.loop-v-preserved-then-t-end
loop-v-preserved-then-t-end c =
    let job : Job =
    let a = c.args in
    onward (job_in a.slab.now a.q) a.start in
    let behind : ℕ =
    let a = c.args in
    a.place.slot + a.place.left in
    let l = c.loop-v in (let l = c.loop-v in let a = c.args in let k = c.slot_at-slot in record {
      from_first = omega (arith, c.loop-v-test.true);
      v_in = omega (arith, l.invariant.v_in);
      head_in = l.invariant.head_in;
      edged = met_more job c.requires.readable.some_long a.q.slots
          behind l.v (omega (arith, c.loop-v-test.true)) l.invariant.v_in k.ensures.0 k.ensures.1 (rw c.source_of-source.ensures.0 at c.stamp-t.ensures) l.invariant.edged (late_met _ _ _ _ _ _ _ c.if-t-end.true);
    })

pub loop-v-preserved-then-t-low : goal.loop-v-preserved-then-t-low
loop-v-preserved-then-t-low c =
    let job : Job =
    let a = c.args in
    onward (job_in a.slab.now a.q) a.start in
    let behind : ℕ =
    let a = c.args in
    a.place.slot + a.place.left in
    let l = c.loop-v in
    (let l = c.loop-v in let a = c.args in let k = c.slot_at-slot in record {
      from_first = omega (arith, c.loop-v-test.true);
      v_in = omega (arith, l.invariant.v_in);
      head_in =
          (omega (arith, l.invariant.v_in));
      edged = met_more job c.requires.readable.some_long a.q.slots behind l.v (omega (arith, c.loop-v-test.true)) l.invariant.v_in k.ensures.0 k.ensures.1
          (rw c.source_of-source.ensures.0 at c.stamp-t.ensures) l.invariant.edged (lower_met _ _ _ _ _ _ _ (omega arith) (omega arith) c.if-t-low.true c.window_of-low.ensures.0);
    })

pub loop-v-preserved-then-q-t : goal.loop-v-preserved-then-q-t
loop-v-preserved-then-q-t c =
    let job : Job =
    let a = c.args in
    onward (job_in a.slab.now a.q) a.start in
    let behind : ℕ =
    let a = c.args in
    a.place.slot + a.place.left in
    let l = c.loop-v in
    (let l = c.loop-v in let a = c.args in let k = c.slot_at-slot in record {
      from_first = omega (arith, c.loop-v-test.true);
      v_in = omega (arith, l.invariant.v_in);
      head_in =
          l.invariant.head_in;
      edged = met_more job c.requires.readable.some_long a.q.slots behind l.v (omega (arith, c.loop-v-test.true)) l.invariant.v_in k.ensures.0 k.ensures.1
          (rw c.source_of-source.ensures.0 at c.stamp-t.ensures) l.invariant.edged (above_met _ _ _ _ _ _ _ (omega arith) (omega arith) (omega arith) c.if-q-t.true c.window_of-end.ensures.0);
    })

pub loop-v-preserved : goal.loop-v-preserved
loop-v-preserved c =
    let job : Job =
    let a = c.args in
    onward (job_in a.slab.now a.q) a.start in
    let behind : ℕ =
    let a = c.args in
    a.place.slot + a.place.left in
    let l = c.loop-v in
    (let l = c.loop-v in let a = c.args in let k = c.slot_at-slot in record {
      from_first = omega (arith, c.loop-v-test.true);
      v_in = omega (arith, l.invariant.v_in);
      head_in =
          (omega (arith, l.invariant.v_in));
      edged = met_more job c.requires.readable.some_long a.q.slots behind l.v (omega (arith, c.loop-v-test.true)) l.invariant.v_in k.ensures.0 k.ensures.1
          (rw c.source_of-source.ensures.0 at c.stamp-t.ensures) l.invariant.edged (same_met _ _ _ _ _ _ _ (omega arith) (omega arith) (omega arith) c.if-q-t.false);
    })

pub returns : goal.returns
returns c =
    let job : Job =
    let a = c.args in
    onward (job_in a.slab.now a.q) a.start in
    let behind : ℕ =
    let a = c.args in
    a.place.slot + a.place.left in
    let a = c.args in
    let i = c.loop-v.invariant in
    let there = subst (λ (x : ℕ). Edged job a.q.slots (walk a.q.slots (c.loop-v.v % a.q.slots) (behind - c.loop-v.v)) c.loop-v.end c.loop-v.low (record { slot = x; left = behind - c.loop-v.head }))
    (sym c.slot_at-slot-2.ensures.0) i.edged in
    met_all job a.q.slots a.place c.requires.slot_lt_slots.0 (omega (arith, i.from_first, c.loop-v-test.false)) there
