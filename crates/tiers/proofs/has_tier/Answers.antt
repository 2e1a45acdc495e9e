-- `tiers::has_tier` meets its contract: past the rows, or by the row's schema. Assumes nothing.
use Prim.Native.Nat.{◌+◌}
use native.Mathlib.Omega.{arith}
use mathlib.Core.Path.{ap, ◌∙◌}
use lib.Dec.{eqb}
use Rattle.model.specs.Image.{row_count, row_place}
use Rattle.lookup.proofs.Laws.{header_in_slice, few_rows, row_in_slice}
use Rattle.tiers.proofs.Laws.{no_tier, tier_told}
use Rattle.tiers.proofs.has_tier.Goals as goal

pub get_u32-n-requires : goal.get_u32-n-requires
get_u32-n-requires c = omega (arith, header_in_slice c.args.image.now.bytes.now c.args.image.now.good)

pub overflow_add-row : goal.overflow_add-row
overflow_add-row c = omega (arith, few_rows c.args.image.now.bytes.now c.args.image.now.good, c.requires.1)

pub returns-then-row-n : goal.returns-then-row-n
unfolding row_count
returns-then-row-n c = no_tier c.args.image.now.bytes.now c.args.image.now.good c.args.schema c.args.tier c.requires.0 (omega (arith, c.get_u32-n.ensures.0))

pub get_u32-s-requires : goal.get_u32-s-requires
unfolding row_count
get_u32-s-requires c = omega (arith, row_in_slice c.args.image.now.bytes.now c.args.image.now.good (c.args.first + c.args.tier) (omega (arith, c.get_u32-n.ensures.0)))

pub returns : goal.returns
unfolding row_count row_place
returns c =
    let s = c.args.image.now.bytes.now in
    ap (λ x. eqb x c.args.schema) c.get_u32-s.ensures.0 ∙ tier_told s c.args.image.now.good c.args.schema c.args.tier c.requires.0 (omega (arith, c.get_u32-n.ensures.0))
