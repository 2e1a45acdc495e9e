-- `layout::row_slots` meets its contract: a division, and 0 where the interval is 0, as the definition has it. Assumes nothing.
use mathlib.Core.Path.{refl}
use Rattle.model.specs.Layout.{slot_count}
use Rattle.model.specs.Image.{row_slots}
use Rattle.layout.proofs.Laws.{slots_none}
use Rattle.layout.proofs.row_slots.Goals as goal

pub returns-then-interval-eq0 : goal.returns-then-interval-eq0
returns-then-interval-eq0 c = slots_none c.args.r c.if-interval-eq0.true

pub returns : goal.returns
unfolding row_slots slot_count
returns c = refl
