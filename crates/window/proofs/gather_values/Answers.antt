-- `window::gather_values` meets its contract: the loop's invariant is request 2026-03's sentence (`SoFar`) of the slots read so far. Assumes nothing.
use Prim.Native.Nat.{suc, ◌+◌}
use mathlib.Core.Path.{◌≡◌}
use native.Mathlib.Omega.{arith}
use Rattle.window.specs.Gather.{begun, none_yet, one_more}
use Rattle.window.proofs.Laws.{few_held}
use borrow.Author.Rules.{rules}
use Rattle.window.proofs.gather_values.Goals as goal

pub loop-init : goal.loop-init
unfolding begun
loop-init c =
    let a = c.args in
    record { in_slots = search rules; few = search rules; so_far = none_yet a.slab.now a.q a.window a.column a.place.slot (cc) }

pub enter-g-requires : goal.enter-g-requires
enter-g-requires c =
    let n = few_held c.loop.invariant.so_far in
    (omega (arith, c.requires.readable.sized.few_slots), omega (arith, c.requires.readable.sized.few_slots))

pub loop-preserved : goal.loop-preserved
loop-preserved c =
    let l = c.loop in
    let a = c.args in
    let one : suc l.counter ≡ l.counter + 1 = omega arith in
    let more = one_more a.slab.now a.q a.window a.column a.place.slot l.counter l.slot
    c.requires.asked.slot_in (omega arith) l.invariant.so_far c.held_at-h.ensures c.enter-g.ensures c.next_slot-slot.ensures.0 in
    record { in_slots = c.next_slot-slot.ensures.1; few = search rules; so_far = rw one at more }

pub returns : goal.returns
returns c =
    let l = c.loop in
    let a = c.args in
    let all : l.counter ≡ a.place.left = omega arith in
    record { value = rw all at l.invariant.so_far.holds; finite_bound = omega (arith, few_held l.invariant.so_far, c.requires.readable.sized.few_slots) }
