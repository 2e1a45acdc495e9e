-- `create::create` meets its contract: each way out is one test of the definition's list; the effect goes by the same number. Assumes nothing.
use mathlib.Core.Path.{◌≡◌, sym, ◌∙◌}
use mathlib.Core.Bool.{true}
use Prim.Native.Nat.{◌≤◌}
use native.Mathlib.Omega.{arith}
use lib.ListN.{length}
use Rattle.model.specs.Image.{shape, image_length, plan_check}
use Rattle.rows.specs.Rows.{sizes}
use Rattle.rows.specs.First.{accepted, not_accepted}
use Rattle.image.specs.Ways.{plan-parts}
use Rattle.image.specs.Lent.{lent}
use Rattle.create.specs.Left as left
use Rattle.create.proofs.create.Goals as goal

pub returns-in_default : goal.returns-in_default
returns-in_default c =
    let no = not_accepted c.in_default.is in
    let e = left.create_plan c.args.plan.now (lent c.args.image.now c.args.flags).image c.check_plan-checked.ensures no in
    (e, left.refused_is c.args.plan.now (lent c.args.image.now c.args.flags) _ e no)

pub length_of-len-requires : goal.length_of-len-requires
length_of-len-requires c =
    let passed : plan_check c.args.plan.now ≡ 0 = sym c.check_plan-checked.ensures ∙ accepted c.in-Ok.is in
    let parts : (shape c.args.plan.now ≡ true) × (image_length c.args.plan.now ≤ 1099511627776) = plan-parts c.args.plan.now passed in
    parts.0

pub returns-then-image-len : goal.returns-then-image-len
returns-then-image-len c =
    let passed : plan_check c.args.plan.now ≡ 0 = sym c.check_plan-checked.ensures ∙ accepted c.in-Ok.is in
    let parts : (shape c.args.plan.now ≡ true) × (image_length c.args.plan.now ≤ 1099511627776) = plan-parts c.args.plan.now passed in
    let e = left.create_9 c.args.plan.now (lent c.args.image.now c.args.flags).image passed (omega (arith, parts.1)) in
    (e, left.refused_is c.args.plan.now (lent c.args.image.now c.args.flags) _ e (λ x. omega arith))

pub get_u32-n-requires : goal.get_u32-n-requires
get_u32-n-requires c =
    let passed : plan_check c.args.plan.now ≡ 0 = sym c.check_plan-checked.ensures ∙ accepted c.in-Ok.is in
    let parts : (shape c.args.plan.now ≡ true) × (image_length c.args.plan.now ≤ 1099511627776) = plan-parts c.args.plan.now passed in
    omega (arith, sizes c.args.plan.now parts.0)

pub cleared-next-requires : goal.cleared-next-requires
cleared-next-requires c =
    let passed : plan_check c.args.plan.now ≡ 0 = sym c.check_plan-checked.ensures ∙ accepted c.in-Ok.is in
    let parts : (shape c.args.plan.now ≡ true) × (image_length c.args.plan.now ≤ 1099511627776) = plan-parts c.args.plan.now passed in
    omega (arith, sizes c.args.plan.now parts.0, c.get_u32-n.ensures.0)

pub put_image-requires : goal.put_image-requires
put_image-requires c =
    let passed : plan_check c.args.plan.now ≡ 0 = sym c.check_plan-checked.ensures ∙ accepted c.in-Ok.is in
    let parts : (shape c.args.plan.now ≡ true) × (image_length c.args.plan.now ≤ 1099511627776) = plan-parts c.args.plan.now passed in
    let image_in : image_length c.args.plan.now ≤ length (lent c.args.image.now c.args.flags).image = omega (arith, parts.1, c.length_of-len.ensures, c.if-image-len.false) in
    record { plan_value = parts.0; plan_bound = (parts.1, image_in) }

pub returns : goal.returns
returns c =
    let passed : plan_check c.args.plan.now ≡ 0 = sym c.check_plan-checked.ensures ∙ accepted c.in-Ok.is in
    let parts : (shape c.args.plan.now ≡ true) × (image_length c.args.plan.now ≤ 1099511627776) = plan-parts c.args.plan.now passed in
    let image_in : image_length c.args.plan.now ≤ length (lent c.args.image.now c.args.flags).image = omega (arith, parts.1, c.length_of-len.ensures, c.if-image-len.false) in
    let e = left.create_0 c.args.plan.now (lent c.args.image.now c.args.flags).image passed image_in in
    (e, left.accepted_is c.args.plan.now (lent c.args.image.now c.args.flags) e c.get_u32-n.ensures.0 c.put_image.ensures c.cleared-next.ensures)
