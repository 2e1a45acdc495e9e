-- `image::check_plan` meets its contract: 1 for the shape, 1 for a field that must be zero, then the layout. Assumes nothing.
use mathlib.Core.Path.{◌≡◌, sym, ◌∙◌}
use mathlib.Core.Bool.{true}
use Rattle.model.specs.Image.{shape}
use Rattle.image.specs.Ways as ways
use Rattle.image.proofs.check_plan.Goals as goal

shaped : (c : goal.Else-not-shaped) → shape c.args.s.now ≡ true
shaped c = sym c.is_shaped-shaped.ensures ∙ c.if-not-shaped.false

pub returns-then-not-shaped : goal.returns-then-not-shaped
returns-then-not-shaped c = ways.plan-shape c.args.s.now (sym c.is_shaped-shaped.ensures ∙ c.if-not-shaped.true)

pub is_blank-blank-requires : goal.is_blank-blank-requires
is_blank-blank-requires c = shaped c

pub returns-then-not-blank : goal.returns-then-not-blank
returns-then-not-blank c =
    let shaped : shape c.args.s.now ≡ true = sym c.is_shaped-shaped.ensures ∙ c.if-not-shaped.false in
    ways.plan-blank c.args.s.now shaped (sym c.is_blank-blank.ensures ∙ c.if-not-blank.true)

pub check_layout-requires : goal.check_layout-requires
check_layout-requires c =
    let shaped : shape c.args.s.now ≡ true = sym c.is_shaped-shaped.ensures ∙ c.if-not-shaped.false in
    shaped

pub returns : goal.returns
returns c =
    let shaped : shape c.args.s.now ≡ true = sym c.is_shaped-shaped.ensures ∙ c.if-not-shaped.false in
    c.check_layout.ensures ∙ ways.plan_layout c.args.s.now shaped (sym c.is_blank-blank.ensures ∙ c.if-not-blank.false)
