-- `pair_source::start_of` meets its contract, one case a return. Assumes nothing.
use Rattle.ring.specs.Parts.{ring_of}
use Rattle.pair_source.proofs.Laws.{start_mark, start_oldest}
use Rattle.pair_source.proofs.start_of.Goals as goal

pub returns-then-mark-ne0 : goal.returns-then-mark-ne0
returns-then-mark-ne0 c =
    let a = c.args in
    start_mark a.mark a.long (ring_of a.slab.now.bytes.now a.wrapped) c.if-mark-ne0.true c.window_of.ensures.0

pub returns : goal.returns
returns c =
    let a = c.args in
    start_oldest a.mark a.long (ring_of a.slab.now.bytes.now a.wrapped) c.if-mark-ne0.false c.oldest-oldest.ensures c.or_zero.ensures
