-- `ring::Slab::stamp` meets its contract: the u64 at the stamp's place. Assumes nothing.
use Rattle.laws.specs.Slab.{stamp-is}
use Rattle.ring.proofs.Slab.stamp.Goals as goal

pub returns : goal.returns
returns c = cc (stamp-is c.args.self.now.bytes.now c.args.self.now.sized.series-is c.args.slot)
