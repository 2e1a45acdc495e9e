-- `ring_ends::end_of` meets its contract. Assumes nothing.
use Rattle.model.specs.Ring.{end_of}
use Rattle.ring_ends.proofs.Laws.{end_at}
use Rattle.ring_ends.proofs.end_of.Goals as goal

pub returns-then-stamp-eq0 : goal.returns-then-stamp-eq0
unfolding end_of
returns-then-stamp-eq0 c = rw c.if-stamp-eq0.true

pub returns : goal.returns
returns c = end_at _ c.if-stamp-eq0.false
