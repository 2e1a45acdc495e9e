-- `ring::Slab::cell` meets its contract: the u64 at the cell's place. Assumes nothing.
use Rattle.laws.specs.Slab.{cell-is}
use Rattle.ring.proofs.Slab.cell.Goals as goal

pub returns : goal.returns
returns c = cc (cell-is c.args.self.now.bytes.now c.args.self.now.sized.slots-is c.args.self.now.sized.series-is c.args.column c.args.slot)
