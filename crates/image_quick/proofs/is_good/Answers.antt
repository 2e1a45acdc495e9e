-- `image_quick::is_good` meets its contract: header, rows and slabs are good. Assumes nothing.
use Rattle.std.proofs.Common.{◌+◌, ◌*◌, sym, ◌∙◌, subst, arith}
use mathlib.Core.Bool.{false≢true}
use Rattle.model.specs.Image.{schemas, row_count, total_length}
use Rattle.image_quick.specs.Seen.{Head, good-is, Begins, All, all-good}
use Rattle.image_quick.proofs.is_good.Goals as goal

pub returns-then-not-headed : goal.returns-then-not-headed
returns-then-not-headed c = λ e. absurd (false≢true e)

pub get_u32-n-requires : goal.get_u32-n-requires
get_u32-n-requires c =
    let head : Head c.args.s.now = c.head_good-headed.ensures c.if-not-headed.false in
    omega (arith, head.long)

pub get_u64-total-requires : goal.get_u64-total-requires
get_u64-total-requires c =
    let head : Head c.args.s.now = c.head_good-headed.ensures c.if-not-headed.false in
    omega (arith, head.long)

pub invariant_of-span : goal.invariant_of-span
unfolding row_count total_length
invariant_of-span c =
    let h : Head c.args.s.now = c.head_good-headed.ensures c.if-not-headed.false in
    let n = c.get_u32-n.ensures.0 in
    let t = c.get_u64-total.ensures in
    record { counted = n; room = omega (arith, h.head-low, n, t); inside = omega (arith, h.fits, t); low = omega (arith, h.total_low, t) }

pub returns-in_default : goal.returns-in_default
returns-in_default c = λ e. absurd (false≢true e)

pub get_u32-schemas-requires : goal.get_u32-schemas-requires
get_u32-schemas-requires c =
    let head : Head c.args.s.now = c.head_good-headed.ensures c.if-not-headed.false in
    omega (arith, head.long)

pub few_good-requires : goal.few_good-requires
unfolding schemas
few_good-requires c =
    let first = good-is (Begins c.args.s.now (32 + 64 * c.get_u32-n.result)) c.in-Some.is c.begins-begun.ensures in
    record { few = (c.if-n-gt0.true, c.if-n-le4.true); begins = (first, sym c.get_u32-schemas.ensures.0 ∙ c.if-schemas-eq1.true) }

pub returns-then-schemas-eq1 : goal.returns-then-schemas-eq1
unfolding row_count total_length
returns-then-schemas-eq1 c =
    let head : Head c.args.s.now = c.head_good-headed.ensures c.if-not-headed.false in
    λ e. (all-good c.args.s.now c.get_u32-n.result head (c.if-n-gt0.true, omega (arith, c.if-n-le4.true)) c.get_u32-n.ensures.0 (subst (All c.args.s.now c.get_u32-n.result) c.get_u64-total.ensures (c.few_good.ensures e)))

pub many_good-requires : goal.many_good-requires
many_good-requires c = good-is (Begins c.args.s.now (32 + 64 * c.get_u32-n.result)) c.in-Some.is c.begins-begun.ensures

pub returns : goal.returns
unfolding row_count total_length
returns c =
    let head : Head c.args.s.now = c.head_good-headed.ensures c.if-not-headed.false in
    λ e. let a = c.many_good.ensures e in (all-good c.args.s.now c.get_u32-n.result head a.0 c.get_u32-n.ensures.0 (subst (All c.args.s.now c.get_u32-n.result) c.get_u64-total.ensures a.1))
