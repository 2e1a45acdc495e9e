-- `image::length_of` meets its contract: the rows are counted as the definition counts them. Assumes nothing.
use native.Mathlib.Omega.{arith}
use Rattle.model.specs.Image.{row_count}
use Rattle.rows.specs.Rows.{sizes}
use Rattle.image.specs.Ways.{length-is}
use Rattle.image.proofs.length_of.Goals as goal

pub of-table-requires : goal.of-table-requires
of-table-requires c =
    let z = sizes c.args.s.now c.requires in z.there

pub image_length-requires : goal.image_length-requires
image_length-requires c =
    let z = sizes c.args.s.now c.requires in omega (arith, z.count, c.of-table.ensures.1)

pub returns : goal.returns
unfolding row_count
returns c =
    let e = length-is c.args.s.now in cc
