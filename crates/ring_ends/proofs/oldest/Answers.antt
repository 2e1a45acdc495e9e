-- `ring_ends::oldest` meets its contract: the first stamp in reading order. Assumes nothing.
use Rattle.model.specs.Ring.{oldest, order}
use Rattle.ring_ends.proofs.oldest.Goals as goal

pub returns : goal.returns
unfolding oldest order
returns c = cc c.args.slab.now.sized.slots-is
