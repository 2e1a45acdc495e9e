-- `consolidate::same_schema` meets its contract: both rows lie in the image. Assumes nothing.
use Prim.Native.Nat.{◌+◌}
use native.Mathlib.Omega.{arith}
use native.Mathlib.Numerals.{add-one}
use Rattle.model.specs.Image.{row_place}
use Rattle.consolidate.proofs.Laws.{row_inside, few_rows}
use Rattle.consolidate.proofs.same_schema.Goals as goal

pub row_at-here-requires : goal.row_at-here-requires
unfolding row_place
row_at-here-requires c = row_inside c.args.image.now.bytes.now c.args.image.now.good c.args.row (omega (arith, c.requires))

pub overflow_add-row : goal.overflow_add-row
overflow_add-row c = omega (arith, few_rows c.args.image.now.bytes.now c.args.image.now.good, c.requires)

pub row_at-next-requires : goal.row_at-next-requires
unfolding row_place
row_at-next-requires c = row_inside c.args.image.now.bytes.now c.args.image.now.good (c.args.row + 1) (omega (arith, c.requires))

pub returns : goal.returns
returns c = rw (c.row_at-here.ensures, c.row_at-next.ensures, add-one c.args.row)
