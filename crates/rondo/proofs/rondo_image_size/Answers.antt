-- `rondo::rondo_image_size` meets its contract: a plan that passed is in shape, and its image no longer than the limit at which lengths are capped. Assumes nothing.
use Prim.Native.Nat.{◌≤◌}
use native.Mathlib.Omega.{arith}
use mathlib.Core.Path.{◌≡◌, sym, ap, ◌∙◌}
use Rattle.model.specs.Words.{outcome_no}
use Rattle.model.specs.Image.{plan_check, image_length}
use Rattle.rows.specs.First.{refusal_no}
use Rattle.image.specs.Ways.{plan-parts}
use Rattle.rondo.proofs.Laws.{left_alone, set_anew}
use Rattle.rondo.proofs.rondo_image_size.Goals as goal

pub returns-in_default : goal.returns-in_default
returns-in_default c =
    let check = c.check_plan-checked.ensures in
    (c.outcome_number.ensures ∙ check, left_alone _ _ _ (λ z. refusal_no c.in_default.field-0 (sym (ap outcome_no c.in_default.is) ∙ check ∙ z)))

pub length_of-requires : goal.length_of-requires
length_of-requires c =
    let passed : plan_check c.args.plan.now ≡ 0 = sym c.check_plan-checked.ensures ∙ ap outcome_no c.in-Ok.is in
    (plan-parts _ passed).0

pub returns : goal.returns
returns c =
    let passed : plan_check c.args.plan.now ≡ 0 = sym c.check_plan-checked.ensures ∙ ap outcome_no c.in-Ok.is in
    let s = c.args.plan.now in
    let small : image_length s ≤ 1099511627776 = (plan-parts s passed).1 in
    let is : c.length_of.result ≡ image_length s = omega (arith, c.length_of.ensures) in
    (sym passed, is ∙ set_anew (plan_check s) _ (image_length s) passed)
