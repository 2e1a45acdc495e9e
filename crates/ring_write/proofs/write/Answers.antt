-- `ring_write::write` meets its contract: stamp, cell and cursor, stored in this order, are the write. Assumes nothing.
use native.Mathlib.Omega.{arith}
use Rattle.ring_theory.specs.Sound.{header_in}
use Rattle.ring.specs.Parts.{sized, one}
use Rattle.ring_write.proofs.Laws.{written}
use borrow.Author.Rules.{rules}
use Rattle.ring_write.proofs.write.Goals as goal

pub write_cell-requires : goal.write_cell-requires
write_cell-requires c =
    let t = c.write_stamp-t.ensures in
    record { sized = sized t.sound; slot_lt_slots = (t.slot_in, search rules) }

pub write_cursor-requires : goal.write_cursor-requires
write_cursor-requires c = omega (arith, header_in c.write_cell.ensures.1)

pub returns : goal.returns
returns c = written c.requires.sound c.write_stamp-t.ensures (one _ _) (cc)
