-- `image_build::put_row` meets its contract: the fields one behind the other are the row's bytes. Assumes nothing.
use Rattle.image_build.specs.Made.{row_made}
use Rattle.image_build.proofs.put_row.Goals as goal

pub returns : goal.returns
returns c =
    let a = c.args in
    row_made a.r a.row.now c.requires c.put_low.ensures c.put_u32.ensures c.put_u64.ensures
    c.put_u64-2.ensures c.put_u64-3.ensures c.put_u64-4.ensures
