-- `ring_ends::oldest_stamp` meets its contract: the first slot's stamp, or the first one behind the empty slots. Assumes nothing.
use mathlib.Core.Path.{◌∙◌}
use Rattle.ring_ends.proofs.Laws.{stamp_there}
use Rattle.ring_ends.proofs.oldest_stamp.Goals as goal

pub returns-then-stamp-ne0 : goal.returns-then-stamp-ne0
returns-then-stamp-ne0 c =
    let a = c.args in
    let t = c.stamp-stamp in
    t.ensures ∙ stamp_there a.slab.now.bytes.now a.slab.now.slots a.place.slot a.place.left c.if-left-gt0.true (λ e. c.if-stamp-ne0.true (t.ensures ∙ e))
