-- `tiers::answer` meets its contract: the answer of the ring that `ring_at` finds. Assumes nothing.
use Rattle.tiers.proofs.Laws.{answer_is}
use Rattle.tiers.proofs.answer.Goals as goal

pub returns : goal.returns
returns c =
    let a = c.args in
    let r = c.ring_at-found in
    rw c.answer_of.ensures (answer_is a.image.now.bytes.now a.row r.result a.column a.tier a.start a.end r.ensures)
