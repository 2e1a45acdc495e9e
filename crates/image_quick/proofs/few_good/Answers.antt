-- `image_quick::few_good` meets its contract. The loop's invariant: row i is tier i of schema 0, each row up to it joins the row before, and the slabs up to row i's
use mathlib.Core.Bool.{false≢true}
use Rattle.std.proofs.Common.{◌≡◌, ℕ, ◌+◌, List, sym, subst, arith}
use Rattle.model.specs.Image.{row_at}
use Rattle.laws.specs.Tests.{eq_is}
use Rattle.image_quick.specs.Seen.{good-is, NextTier, only_first, only_ends, Here, joins_none, joins_more, Placed, placed_none, placed_more, All, all_are}
use Rattle.image_quick.proofs.Laws.{len_is}
use Rattle.image_quick.proofs.few_good.Goals as goal

-- the slabs up to a row's, where its slab stands behind those before
behind : (s : List ℕ) (i at x : ℕ) → Placed s i at → Here s i at → x ≡ (row_at s i).len → Placed s (i + 1) (at + x)
behind s i at x p h e = subst (λ (y : ℕ). Placed s (i + 1) (at + y)) (sym e) (placed_more s i at p h)

pub overflow_add-at-2 : goal.overflow_add-at-2
overflow_add-at-2 c = omega (arith, len_is c.args.span.now.bytes.now 0 c.get_u64.ensures, c.requires.begins.0.here.slab.small)

pub loop-i-init : goal.loop-i-init
loop-i-init c =
    let s = c.args.span.now.bytes.now in
    let first = c.requires.begins.0 in
    let len = len_is s 0 c.get_u64.ensures in
    record {
      in_rows = omega arith;
      low = omega (arith, len, first.here.slab.small);
      joins = joins_none s;
      only = only_first s first.begun.start;
      known = first.begun.known;
      placed = behind s 0 _ _ (rw c.args.span.now.counted (placed_none s)) first.here len;
    }

pub overflow_add-i : goal.overflow_add-i
overflow_add-i c = omega (arith, c.loop-i.invariant.in_rows)

pub returns-then-i-n : goal.returns-then-i-n
returns-then-i-n c = λ e. (subst (All c.args.span.now.bytes.now c.args.span.now.count) (eq_is c.loop-i.at c.args.span.now.total e)
    (all_are c.args.span.now.bytes.now c.args.span.now.count c.loop-i.i c.loop-i.at c.requires.begins.0.begun.start c.loop-i.invariant.joins (omega (arith, c.if-i-n.true))
    (only_ends c.args.span.now.bytes.now c.loop-i.i c.loop-i.invariant.only c.requires.begins.1) c.loop-i.invariant.placed))

pub returns-then-at-top : goal.returns-then-at-top
returns-then-at-top c = λ e. absurd (false≢true e)

pub next_tier-next-requires : goal.next_tier-next-requires
next_tier-next-requires c =
    let l = c.loop-i in (omega (arith, l.invariant.in_rows), omega arith, l.invariant.only, l.invariant.known)

pub returns-in_default : goal.returns-in_default
returns-in_default c = λ e. absurd (false≢true e)

pub overflow_add-i-in-loop-i : goal.overflow_add-i-in-loop-i
overflow_add-i-in-loop-i c = omega (arith, c.loop-i.invariant.in_rows)

pub place_good-here-requires : goal.place_good-here-requires
place_good-here-requires c = (omega (arith, c.loop-i.invariant.in_rows), omega arith, (good-is (NextTier c.args.span.now.bytes.now c.loop-i.i) c.in-Some.is c.next_tier-next.ensures).joined.known)

pub returns-then-not-here : goal.returns-then-not-here
returns-then-not-here c = λ e. absurd (false≢true e)

pub overflow_add-i-in-loop-i-2 : goal.overflow_add-i-in-loop-i-2
overflow_add-i-in-loop-i-2 c = omega (arith, c.loop-i.invariant.in_rows)

pub overflow_mul-i : goal.overflow_mul-i
overflow_mul-i c = omega (arith, c.loop-i.invariant.in_rows)

pub overflow_add-i-in-loop-i-3 : goal.overflow_add-i-in-loop-i-3
overflow_add-i-in-loop-i-3 c = omega (arith, c.loop-i.invariant.in_rows)

pub get_u64-requires-in-loop-i : goal.get_u64-requires-in-loop-i
get_u64-requires-in-loop-i c = omega (arith, c.loop-i.invariant.in_rows)

pub overflow_add-at-in-loop-i : goal.overflow_add-at-in-loop-i
overflow_add-at-in-loop-i c =
    let here = c.place_good-here.ensures c.if-not-here.false in
    omega (arith, len_is c.args.span.now.bytes.now (c.loop-i.i + 1) c.get_u64-in-loop-i.ensures, here.slab.small)

pub loop-i-preserved : goal.loop-i-preserved
loop-i-preserved c =
    let next = good-is (NextTier c.args.span.now.bytes.now c.loop-i.i) c.in-Some.is c.next_tier-next.ensures in
    let here = c.place_good-here.ensures c.if-not-here.false in
    let len = len_is c.args.span.now.bytes.now (c.loop-i.i + 1) c.get_u64-in-loop-i.ensures in
    record {
      in_rows = omega (arith, c.loop-i.invariant.in_rows);
      low = omega (arith, len, here.slab.small);
      joins = joins_more c.args.span.now.bytes.now c.loop-i.i c.loop-i.invariant.joins next.joined.joins;
      only = next.only;
      known = next.joined.known;
      placed = behind c.args.span.now.bytes.now (c.loop-i.i + 1) c.loop-i.at _ c.loop-i.invariant.placed here len;
    }

pub returns : goal.returns
returns c = λ e. (subst (All c.args.span.now.bytes.now c.args.span.now.count) (eq_is c.loop-i.at c.args.span.now.total e) (all_are c.args.span.now.bytes.now c.args.span.now.count c.loop-i.i c.loop-i.at c.requires.begins.0.begun.start
    c.loop-i.invariant.joins (omega (arith, c.loop-i.invariant.in_rows)) (only_ends c.args.span.now.bytes.now c.loop-i.i c.loop-i.invariant.only c.requires.begins.1) c.loop-i.invariant.placed))
