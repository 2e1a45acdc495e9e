-- `fetch::fetch_from` meets its contract: a turn is a step. Assumes nothing.
use native.Mathlib.Omega.{arith}
use mathlib.Core.Path.{◌≡◌, sym}
use Rattle.reader.proofs.Laws.{held}
use Rattle.model.specs.Bytes.{get}
use Rattle.model.specs.Ring.{slots, series}
use Rattle.fetch.proofs.Turn.{turn, last, filled}
use Rattle.fetch.proofs.fetch_from.Goals as goal

pub step_from-stepped-requires : goal.step_from-stepped-requires
step_from-stepped-requires c =
    let l = c.loop-count in
    let a = c.args in
    let h = c.requires.held in
    let n_is : a.n ≡ get 4 a.slab.now 16 = unfold slots in (sym h.slots-is) in
    let m-is : a.m ≡ get 4 a.slab.now 20 = unfold series in (sym h.series-is) in
    let r = held a.slab.now a.column l.here l.invariant.goes.reads n_is m-is in
    record { held = h; column_lt_m = (r.1, r.2) }

pub returns-in_default : goal.returns-in_default
returns-in_default c =
    let a = c.args in
    let e = last a.slab.now a.column a.start a.end c.step_from-stepped.ensures c.loop-count-test.true c.loop-count.invariant.goes c.in_default.is in
    record { count = e.counted; place = e.placed; stored = e.stored }

pub loop-count-preserved : goal.loop-count-preserved
loop-count-preserved c =
    let a = c.args in
    let more = c.loop-count-test.true in
    let on = turn a.slab.now a.column a.start a.end c.step_from-stepped.ensures more c.loop-count.invariant.goes c.in-Some.is in
    record { in_room = omega (arith, more); goes = on }

pub returns : goal.returns
returns c =
    let a = c.args in
    let e = filled a.slab.now a.column a.start a.end (omega arith) c.loop-count.invariant.goes in
    record { count = omega (arith, e.counted); place = e.placed; stored = e.stored }
