-- `slab::fresh_head` meets its contract: the fields one behind the other are the header. Assumes nothing.
use Rattle.slab_bytes.specs.Fresh.{head-made}
use Rattle.slab_bytes.proofs.fresh_head.Goals as goal

pub returns : goal.returns
returns c =
    let a = c.args in
    head-made a.hash a.n a.m a.interval a.slab.now c.put_u32.ensures c.put_u32-2.ensures c.put_u64.ensures
    c.put_u32-3.ensures c.put_u32-4.ensures c.put_u64-2.ensures c.fill.ensures
