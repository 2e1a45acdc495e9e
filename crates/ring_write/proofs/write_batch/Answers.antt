-- `ring_write::write_batch` meets its contract: stamp, cells and cursor, stored in this order, are the write. Assumes nothing.
use native.Mathlib.Omega.{arith}
use Rattle.ring_theory.specs.Sound.{header_in}
use Rattle.ring.specs.Parts.{sized}
use Rattle.ring_write.proofs.Laws.{written}
use Rattle.ring_write.proofs.write_batch.Goals as goal

pub write_cells-requires : goal.write_cells-requires
write_cells-requires c =
    let t = c.write_stamp-t.ensures in
    record { sized = sized t.sound; slot_lt_slots = (t.slot_in, c.requires.interval_nonzero.1) }

pub write_cursor-requires : goal.write_cursor-requires
write_cursor-requires c = omega (arith, header_in c.write_stamp-t.ensures.sound)

pub returns : goal.returns
returns c = written c.requires.sound c.write_stamp-t.ensures _ (cc)
