-- `pair::pair_at` meets its contract: both slabs are the rows', and the reading is of the source's. Assumes nothing.
use native.Mathlib.Omega.{arith}
use native.Mathlib.Numerals.{add-one}
use mathlib.Core.Path.{◌∙◌}
use Rattle.model.specs.Bytes.{part}
use Rattle.model.specs.Image.{row_place}
use Rattle.ring.specs.Parts.{sized}
use Rattle.pair.proofs.Rows.{row_inside, slab-part, stamps_part, pair-at}
use borrow.Author.Rules.{rules}
use Rattle.pair.proofs.pair_at.Goals as goal

pub row_at-r-requires : goal.row_at-r-requires
unfolding row_place
row_at-r-requires c =
    let a = c.args in row_inside a.image.now a.row c.requires.adjacent a.row (omega arith)

pub invariant_of-source : goal.invariant_of-source
unfolding part
invariant_of-source c = let d = c.slab_at-d.ensures in record { sized = rw (slab-part d) (sized d.sound) }

pub reading_of-reading-requires : goal.reading_of-reading-requires
unfolding part
reading_of-reading-requires c =
    let d = c.slab_at-d.ensures in
    (c.slab_at-next.ensures.some_interval, stamps_part d ∙ c.requires.row_value)

pub returns : goal.returns
unfolding part
returns c =
    let a = c.args in
    let next = c.slab_at-next.ensures in
    let r = c.row_at-r.ensures in
    pair-at a.image.now a.row c.requires.adjacent a.flags a.f c.slab_at-d.ensures (rw (add-one a.row) at next) c.flag-wrapped.ensures
    (rw r at c.reading_of-reading.ensures.0) c.reading_of-reading.ensures.1
