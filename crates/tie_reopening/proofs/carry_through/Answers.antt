-- `tie_reopening::carry_through` meets its contract: what each call leaves is lent to the next; the opening is lent the image alone. Assumes nothing.
use mathlib.Core.Path.{◌∙◌}
use Rattle.tie_reopening.proofs.Laws.{carried}
use Rattle.tie_reopening.proofs.carry_through.Goals as goal

pub create-made-requires : goal.create-made-requires
create-made-requires c = tt

pub carry_out-lost-requires : goal.carry_out-lost-requires
carry_out-lost-requires c = tt

pub open-opened-requires : goal.open-opened-requires
open-opened-requires c = tt

pub carry_out-requires : goal.carry_out-requires
carry_out-requires c = tt

pub returns : goal.returns
returns c =
    let a = c.args in
    carried a.plan.now a.image.now a.flags a.before.now a.handed a.next.now
    c.create-made.ensures.1 c.carry_out-lost.ensures c.open-opened.ensures.1 c.carry_out.ensures
