-- `reader::step_from` meets its contract. The loop's invariant: a step from here on is the step from the place on. Assumes nothing.
use Prim.Native.Nat.{◌≤◌, ◌<◌}
use native.Mathlib.Omega.{arith}
use mathlib.Core.Path.{◌≡◌, ap, ◌∙◌}
use Rattle.model.specs.declared.Stepped.{Stepped}
use Rattle.model.specs.Bytes.{get}
use Rattle.model.specs.Ring.{stamp, cell}
use Rattle.model.specs.Read.{step_from, stepped}
use Rattle.laws.specs.Slab.{stamp-is, cell-is}
use Rattle.reader.proofs.Laws.{Turn, skip_early, skip_late, skip_nan, hand_out, finished}
use Rattle.reader.proofs.step_from.Goals as goal

pub loop-left-preserved-then-stamp-start : goal.loop-left-preserved-then-stamp-start
loop-left-preserved-then-stamp-start c =
    let whole : Stepped =
    let a = c.args in
    step_from c.args.slab.now a.column a.start a.end a.place.slot a.place.left in
    let TurnAt : Type 0 =
    let a = c.args in
    Turn c.args.slab.now a.column a.start a.end a.n a.m c.loop-left.slot c.loop-left.left whole c.get_u64-stamp.result c.next_slot-slot.result in
    let stamp-read : c.get_u64-stamp.result ≡ stamp c.args.slab.now c.loop-left.slot =
    c.get_u64-stamp.ensures ∙ ap (get 8 c.args.slab.now) c.stamp_place-at.ensures.0 ∙ stamp-is c.args.slab.now c.requires.held.series-is c.loop-left.slot in
    let turn : TurnAt =
    record { held = c.requires.held; some = c.loop-left-test.true; same = c.loop-left.invariant.same; stamp-is = stamp-read; next-is = c.next_slot-slot.ensures.0 } in
    record { in_slots = c.next_slot-slot.ensures.1; same = skip_early turn c.if-stamp-start.true }

pub loop-left-preserved-then-end-stamp : goal.loop-left-preserved-then-end-stamp
loop-left-preserved-then-end-stamp c =
    let whole : Stepped =
    let a = c.args in
    step_from c.args.slab.now a.column a.start a.end a.place.slot a.place.left in
    let TurnAt : Type 0 =
    let a = c.args in
    Turn c.args.slab.now a.column a.start a.end a.n a.m c.loop-left.slot c.loop-left.left whole c.get_u64-stamp.result c.next_slot-slot.result in
    let stamp-read : c.get_u64-stamp.result ≡ stamp c.args.slab.now c.loop-left.slot =
    c.get_u64-stamp.ensures ∙ ap (get 8 c.args.slab.now) c.stamp_place-at.ensures.0 ∙ stamp-is c.args.slab.now c.requires.held.series-is c.loop-left.slot in
    let turn : TurnAt =
    record { held = c.requires.held; some = c.loop-left-test.true; same = c.loop-left.invariant.same; stamp-is = stamp-read; next-is = c.next_slot-slot.ensures.0 } in
    record { in_slots = c.next_slot-slot.ensures.1; same = skip_late turn c.if-end-stamp.true }

pub loop-left-preserved : goal.loop-left-preserved
loop-left-preserved c =
    let cell-read : c.get_u64-value.result ≡ cell c.args.slab.now c.args.column c.loop-left.slot =
    c.get_u64-value.ensures ∙ ap (get 8 c.args.slab.now) c.cell_place-cell.ensures.0 ∙ cell-is c.args.slab.now c.requires.held.slots-is c.requires.held.series-is c.args.column c.loop-left.slot in
    let from : c.args.start ≤ c.get_u64-stamp.result = c.if-stamp-start.false in
    let to : c.get_u64-stamp.result < c.args.end = c.if-end-stamp.false in
    let whole : Stepped =
    let a = c.args in
    step_from c.args.slab.now a.column a.start a.end a.place.slot a.place.left in
    let TurnAt : Type 0 =
    let a = c.args in
    Turn c.args.slab.now a.column a.start a.end a.n a.m c.loop-left.slot c.loop-left.left whole c.get_u64-stamp.result c.next_slot-slot.result in
    let stamp-read : c.get_u64-stamp.result ≡ stamp c.args.slab.now c.loop-left.slot =
    c.get_u64-stamp.ensures ∙ ap (get 8 c.args.slab.now) c.stamp_place-at.ensures.0 ∙ stamp-is c.args.slab.now c.requires.held.series-is c.loop-left.slot in
    let turn : TurnAt =
    record { held = c.requires.held; some = c.loop-left-test.true; same = c.loop-left.invariant.same; stamp-is = stamp-read; next-is = c.next_slot-slot.ensures.0 } in
    record { in_slots = c.next_slot-slot.ensures.1; same = skip_nan turn from to cell-read c.is_nan-nan.ensures c.if-nan.true }

pub returns-in-loop-left : goal.returns-in-loop-left
unfolding stepped
returns-in-loop-left c =
    let whole : Stepped =
    let a = c.args in
    step_from c.args.slab.now a.column a.start a.end a.place.slot a.place.left in
    let TurnAt : Type 0 =
    let a = c.args in
    Turn c.args.slab.now a.column a.start a.end a.n a.m c.loop-left.slot c.loop-left.left whole c.get_u64-stamp.result c.next_slot-slot.result in
    let stamp-read : c.get_u64-stamp.result ≡ stamp c.args.slab.now c.loop-left.slot =
    c.get_u64-stamp.ensures ∙ ap (get 8 c.args.slab.now) c.stamp_place-at.ensures.0 ∙ stamp-is c.args.slab.now c.requires.held.series-is c.loop-left.slot in
    let turn : TurnAt =
    record { held = c.requires.held; some = c.loop-left-test.true; same = c.loop-left.invariant.same; stamp-is = stamp-read; next-is = c.next_slot-slot.ensures.0 } in
    let cell-read : c.get_u64-value.result ≡ cell c.args.slab.now c.args.column c.loop-left.slot =
    c.get_u64-value.ensures ∙ ap (get 8 c.args.slab.now) c.cell_place-cell.ensures.0 ∙ cell-is c.args.slab.now c.requires.held.slots-is c.requires.held.series-is c.args.column c.loop-left.slot in
    let from : c.args.start ≤ c.get_u64-stamp.result = c.if-stamp-start.false in
    let to : c.get_u64-stamp.result < c.args.end = c.if-end-stamp.false in
    hand_out turn from to cell-read c.is_nan-nan.ensures c.if-nan.false

pub returns : goal.returns
unfolding stepped
returns c =
    let a = c.args in
    let l = c.loop-left in
    finished a.slab.now a.column a.start a.end l.slot l.invariant.same (omega arith)
