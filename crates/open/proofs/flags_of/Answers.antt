-- `open::flags_of` meets its contract: the flags stored so far and the rows left are all flags. Assumes nothing.
use borrow.Author.Rules.{rules}
use Prim.Native.Nat.{◌<◌}
use mathlib.Core.Path.{sym, ◌∙◌}
use native.Mathlib.Omega.{arith}
use lib.ListN.{length-set}
use Rattle.open.specs.Left as left
use Rattle.open.proofs.flags_of.Goals as goal

pub overflow_add-end : goal.overflow_add-end
overflow_add-end c =
    let slab : left.Handed c.args.table.now.bytes.now c.row-r.result =
    let pre = c.requires in
    left.handed _ pre.0 pre.1 c.loop-i-test.true c.row-r.ensures in
    omega (arith, slab.inside)

pub slice_bounds-slab-end : goal.slice_bounds-slab-end
slice_bounds-slab-end c =
    let slab : left.Handed c.args.table.now.bytes.now c.row-r.result =
    let pre = c.requires in
    left.handed _ pre.0 pre.1 c.loop-i-test.true c.row-r.ensures in
    omega (arith, slab.inside)

pub invariant_of-slab : goal.invariant_of-slab
invariant_of-slab c =
    let slab : left.Handed c.args.table.now.bytes.now c.row-r.result =
    let pre = c.requires in
    left.handed _ pre.0 pre.1 c.loop-i-test.true c.row-r.ensures in
    record { sized = rw c.row_slots.ensures slab.slab-sized }

pub bounds-next-i : goal.bounds-next-i
bounds-next-i c =
    let few : c.loop-i.i < 32 = omega (arith, left.few_rows c.args.table.now.bytes.now c.requires.0, c.requires.1, c.loop-i-test.true) in
    omega (arith, few)

pub loop-i-preserved : goal.loop-i-preserved
loop-i-preserved c =
    let l = c.loop-i in
    let more = left.flags_on _ _ l.i c.loop-i-test.true l.next c.row-r.result c.row-r.ensures c.wrap_flag-flag.ensures in
    record { long = simp length-set l.invariant.long; in_bounds = omega (arith, c.loop-i-test.true); leads = more ∙ l.invariant.leads }

pub returns : goal.returns
returns c =
    let l = c.loop-i in
    let f = left.few_rows c.args.table.now.bytes.now c.requires.0 in
    let p = c.requires.1 in
    sym (left.flags_end _ _ l.i c.loop-i-test.false l.next) ∙ l.invariant.leads ∙ left.flags_all _ _ c.args.wrapped (search rules)
