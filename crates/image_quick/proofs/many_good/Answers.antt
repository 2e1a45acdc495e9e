-- `image_quick::many_good` meets its contract: the rows' number, then the rows. Assumes nothing.
use Rattle.std.proofs.Common.{arith}
use mathlib.Core.Bool.{false≢true}
use Rattle.image_quick.specs.Seen.{Counted}
use Rattle.image_quick.proofs.many_good.Goals as goal

pub returns-then-span-eq0 : goal.returns-then-span-eq0
returns-then-span-eq0 c = λ e. absurd (false≢true e)

pub returns-then-span : goal.returns-then-span
returns-then-span c = λ e. absurd (false≢true e)

pub rows_good-requires : goal.rows_good-requires
rows_good-requires c =
    let counted : Counted c.args.span.now.count = (omega (arith, c.if-span-eq0.false), omega (arith, c.if-span.false)) in
    record { counted = counted; begins = c.requires }

pub returns : goal.returns
returns c =
    let counted : Counted c.args.span.now.count = (omega (arith, c.if-span-eq0.false), omega (arith, c.if-span.false)) in
    λ e. (counted, c.rows_good.ensures e)
