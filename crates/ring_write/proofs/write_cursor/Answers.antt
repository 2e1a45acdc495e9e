-- `ring_write::write_cursor` meets its contract: the u32 at 32. Assumes nothing.
use Rattle.ring_write.proofs.write_cursor.Goals as goal

pub returns : goal.returns
returns c = c.put_u32.ensures
