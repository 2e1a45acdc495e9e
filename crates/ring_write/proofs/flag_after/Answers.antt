-- `ring_write::flag_after` meets its contract, one case a return. Assumes nothing.
use Rattle.ring_write.proofs.flag_after.Goals as goal

pub returns : goal.returns
returns c = rw c.if-wrapped.false
