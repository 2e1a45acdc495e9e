-- `pair_source::stamps_below` meets its contract: what remains of the test is the test. Assumes nothing.
use Prim.Native.Nat.{◌<◌}
use native.Mathlib.Omega.{arith}
use Rattle.pair_source.proofs.Laws.{stamp_high, stamp-low, stamps_done}
use Rattle.pair_source.proofs.stamps_below.Goals as goal

pub returns-then-t-ge-TOP : goal.returns-then-t-ge-TOP
returns-then-t-ge-TOP c =
    let in_turn : c.loop-i.i < c.args.slab.now.slots = c.loop-i-test.true in
    let a = c.args in
    let l = c.loop-i in
    stamp_high a.slab.now.bytes.now l.i a.slab.now.slots l.invariant.same in_turn (omega (arith, c.stamp-t.ensures, c.if-t-ge-TOP.true))

pub loop-i-preserved : goal.loop-i-preserved
loop-i-preserved c =
    let in_turn : c.loop-i.i < c.args.slab.now.slots = c.loop-i-test.true in
    let a = c.args in
    let l = c.loop-i in
    let low = stamp-low a.slab.now.bytes.now l.i a.slab.now.slots l.invariant.same in_turn (omega (arith, c.stamp-t.ensures, c.if-t-ge-TOP.false)) in
    record { in_slots = omega (arith, in_turn); same = low }

pub returns : goal.returns
returns c =
    let a = c.args in
    stamps_done a.slab.now.bytes.now c.loop-i.i a.slab.now.slots c.loop-i.invariant.same (omega arith)
