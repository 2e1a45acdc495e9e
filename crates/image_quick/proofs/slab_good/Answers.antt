-- `image_quick::slab_good` meets its contract: the tests that were passed are the facts. Assumes nothing.
use mathlib.Core.Bool.{false≢true}
use Rattle.std.proofs.Common.{◌+◌, ◌*◌, ◌≤◌, mul-le-mul_right, arith}
use Rattle.model.specs.Layout.{stamps_at, stamps_behind, directory}
use Rattle.image_quick.proofs.Laws.{slab-is}
use Rattle.image_quick.proofs.slab_good.Goals as goal

pub returns-then-named-ne-RNDO : goal.returns-then-named-ne-RNDO
returns-then-named-ne-RNDO c = λ e. absurd (false≢true e)

pub returns-then-get_u64-p : goal.returns-then-get_u64-p
returns-then-get_u64-p c = λ e. absurd (false≢true e)

pub returns-then-n-ge134217728 : goal.returns-then-n-ge134217728
returns-then-n-ge134217728 c = λ e. absurd (false≢true e)

pub returns-then-get_u32-n : goal.returns-then-get_u32-n
returns-then-get_u32-n c = λ e. absurd (false≢true e)

pub stamps_at-stamps-requires : goal.stamps_at-stamps-requires
unfolding stamps_at stamps_behind directory
stamps_at-stamps-requires c = omega (arith, c.requires.1)

pub overflow_mul-n : goal.overflow_mul-n
overflow_mul-n c =
    let cells_fit : c.wrapping_sub_u64-n.result * (8 * c.args.p.series + 8) ≤ 134_217_728 * (8 * c.args.p.series + 8) =
    mul-le-mul_right (8 * c.args.p.series + 8) (omega (arith, c.if-n-ge134217728.false)) in
    omega (arith, cells_fit, c.requires.1)

pub overflow_add-n : goal.overflow_add-n
unfolding stamps_at stamps_behind directory
overflow_add-n c =
    let cells_fit : c.wrapping_sub_u64-n.result * (8 * c.args.p.series + 8) ≤ 134_217_728 * (8 * c.args.p.series + 8) =
    mul-le-mul_right (8 * c.args.p.series + 8) (omega (arith, c.if-n-ge134217728.false)) in
    omega (arith, cells_fit, c.stamps_at-stamps.ensures, c.requires.1)

pub returns-then-r-n : goal.returns-then-r-n
returns-then-r-n c = λ e. absurd (false≢true e)

pub timed_good-requires : goal.timed_good-requires
timed_good-requires c = (c.requires.0, omega (arith, c.if-get_u32-n.false), c.if-n-ge134217728.false)

pub returns : goal.returns
returns c =
    let a = c.args in
    let p = c.requires in
    λ f. slab-is a.s.now a.at a.r a.p.series a.p.hash p.1 p.2 c.two_u32-named.ensures c.if-named-ne-RNDO.false
    c.get_u64.ensures c.if-get_u64-p.false c.two_u32-y.ensures c.wrapping_sub_u64-n.ensures.value
    (omega (arith, c.if-n-ge134217728.false)) c.get_u32.ensures.0 c.if-get_u32-n.false c.stamps_at-stamps.ensures c.if-r-n.false (c.timed_good.ensures f)
