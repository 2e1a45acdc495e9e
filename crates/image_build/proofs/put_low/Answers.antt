-- `image_build::put_low` meets its contract: the fields one behind the other are their bytes. Assumes nothing.
use Rattle.image_build.specs.Made.{low-made}
use Rattle.image_build.proofs.put_low.Goals as goal

pub returns : goal.returns
returns c =
    let a = c.args in
    low-made a.r a.row.now c.put_u32.ensures c.put_u32-2.ensures c.put_u64.ensures c.put_u64-2.ensures c.put_u32-3.ensures
