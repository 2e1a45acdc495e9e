-- `image_quick::place_good` meets its contract: the tests that were passed are the facts. Assumes nothing.
use mathlib.Core.Bool.{false≢true}
use Rattle.image_quick.proofs.Laws.{here-is}
use Rattle.image_quick.proofs.place_good.Goals as goal

pub returns-then-r-at : goal.returns-then-r-at
returns-then-r-at c = λ e. absurd (false≢true e)

pub returns-then-r-ge-TOP : goal.returns-then-r-ge-TOP
returns-then-r-ge-TOP c = λ e. absurd (false≢true e)

pub slab_good-requires : goal.slab_good-requires
slab_good-requires c =
    let k = c.requires in (k.1, k.2.series-low, k.2.high_is)

pub returns : goal.returns
returns c =
    let a = c.args in
    λ e. here-is a.s.now a.i a.at a.p c.requires.2 c.row_at-r.ensures c.if-r-at.false c.if-r-ge-TOP.false (c.slab_good.ensures e)
