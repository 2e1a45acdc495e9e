-- `tie_figure::panel_after` meets its contract, by what each of the calls ensures and the theorem. Assumes nothing.
use mathlib.Core.Path.{◌∙◌}
use Rattle.tie_figure.specs.Bound.{near}
use Rattle.tie_figure.proofs.panel_after.Goals as goal

pub create-made-requires : goal.create-made-requires
create-made-requires c = tt

pub carry_all-last-requires : goal.carry_all-last-requires
carry_all-last-requires c = tt

pub panel-panel-requires : goal.panel-panel-requires
panel-panel-requires c = tt

pub returns : goal.returns
returns c =
    let a = c.args in
    near a.plan.now a.image.now a.flags a.before.now a.between.now a.column a.tier c.panel-panel.result
    c.create-made.ensures.1 c.carry_all-last.ensures c.panel-panel.ensures
