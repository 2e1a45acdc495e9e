-- `image_quick::rows_good` meets its contract. The loop's invariant: each row up to row i joins the row before it, the slabs before row i's end at `at`, and row i is
use Rattle.std.proofs.Common.{◌≡◌, ℕ, ◌+◌, ◌-◌, sym, subst, arith}
use mathlib.Core.Bool.{false≢true}
use Rattle.laws.specs.Tests.{and_left, and_right, eq_is}
use Rattle.image_quick.specs.Seen.{good-is, Joined, joins_none, joins_more, early-first, early_more, Placed, placed_none, placed_more, All, all_are}
use Rattle.image_quick.proofs.Laws.{len_is}
use Rattle.image_quick.proofs.rows_good.Goals as goal

pub loop-i-init : goal.loop-i-init
loop-i-init c =
    let s = c.args.span.now.bytes.now in
    let first = c.requires.begins in
    record {
      in_rows = omega arith;
      in_image = omega arith;
      joins = joins_none s;
      early = early-first s first.begun.start;
      known = first.begun.known;
      placed = rw c.args.span.now.counted (placed_none s);
      here = first.here;
    }

pub overflow_mul-i : goal.overflow_mul-i
overflow_mul-i c = omega (arith, c.loop-i.invariant.in_rows)

pub overflow_add-i : goal.overflow_add-i
overflow_add-i c = omega (arith, c.loop-i.invariant.in_rows)

pub get_u64-requires : goal.get_u64-requires
get_u64-requires c = omega (arith, c.loop-i.invariant.in_rows)

pub overflow_add-at-in-loop-i : goal.overflow_add-at-in-loop-i
overflow_add-at-in-loop-i c =
    let l = c.loop-i in
    omega (arith, len_is c.args.span.now.bytes.now l.i c.get_u64.ensures, (l.invariant.here).slab.small, l.invariant.in_image)

pub overflow_add-i-in-loop-i : goal.overflow_add-i-in-loop-i
overflow_add-i-in-loop-i c = omega (arith, c.loop-i.invariant.in_rows)

pub returns-then-at-last : goal.returns-then-at-last
returns-then-at-last c = λ e. absurd (false≢true e)

pub joins-next-requires : goal.joins-next-requires
joins-next-requires c =
    let l = c.loop-i in (omega arith, omega (arith, l.invariant.in_rows), l.invariant.early, l.invariant.known)

pub returns-in_default : goal.returns-in_default
returns-in_default c = λ e. absurd (false≢true e)

pub place_good-here-requires : goal.place_good-here-requires
place_good-here-requires c =
    let l = c.loop-i in
    (omega (arith, l.invariant.in_rows), omega arith, (good-is (Joined c.args.span.now.bytes.now l.i) c.in-Some.is c.joins-next.ensures).known)

pub loop-i-preserved : goal.loop-i-preserved
loop-i-preserved c =
    let behind : Placed c.args.span.now.bytes.now (c.loop-i.i + 1) (c.loop-i.at + c.get_u64.result) =
    let l = c.loop-i in
    let here = l.invariant.here in
    subst (λ (x : ℕ). Placed c.args.span.now.bytes.now (l.i + 1) (l.at + x)) (sym (len_is c.args.span.now.bytes.now l.i c.get_u64.ensures)) (placed_more c.args.span.now.bytes.now l.i l.at l.invariant.placed here) in
    let l = c.loop-i in
    let next = good-is (Joined c.args.span.now.bytes.now l.i) c.in-Some.is c.joins-next.ensures in
    record {
      in_rows = omega (arith, l.invariant.in_rows);
      in_image = omega arith;
      joins = joins_more c.args.span.now.bytes.now l.i l.invariant.joins next.joins;
      early = early_more c.args.span.now.bytes.now l.i l.invariant.early next.joins;
      known = next.known;
      placed = behind;
      here = c.place_good-here.ensures c.if-not-here.false;
    }

pub overflow_add-at-2 : goal.overflow_add-at-2
overflow_add-at-2 c =
    let l = c.loop-i in
    let last : c.args.span.now.count - 1 ≡ l.i = omega (arith, l.invariant.in_rows, c.loop-i-test.false) in
    let len = rw last at (len_is c.args.span.now.bytes.now (c.args.span.now.count - 1) c.get_u64-2.ensures) in
    omega (arith, len, l.invariant.here.slab.small, l.invariant.in_image)

pub returns : goal.returns
returns c =
    let s = c.args.span.now.bytes.now in
    let l = c.loop-i in
    let last : c.args.span.now.count - 1 ≡ l.i = omega (arith, l.invariant.in_rows, c.loop-i-test.false) in
    let len = rw last at (len_is s (c.args.span.now.count - 1) c.get_u64-2.ensures) in
    let behind : Placed s (l.i + 1) (l.at + c.get_u64-2.result) =
    subst (λ (x : ℕ). Placed s (l.i + 1) (l.at + x)) (sym len) (placed_more s l.i l.at l.invariant.placed l.invariant.here) in
    λ e. subst (All s c.args.span.now.count) (eq_is (l.at + c.get_u64-2.result) c.args.span.now.total (and_right c.ends-ended.result _ e))
    (all_are s c.args.span.now.count l.i (l.at + c.get_u64-2.result) c.requires.begins.begun.start l.invariant.joins (omega arith) (rw last at (c.ends-ended.ensures (and_left c.ends-ended.result _ e))) behind)
