-- `window_write::write_answer` meets its contract, one case a variant. A number is not NaN, so that its pattern can be taken. Assumes nothing.
use native.Mathlib.Omega.{arith}
use Rattle.window_write.specs.Parts.{filled_of}
use Rattle.window_write.proofs.Laws.{wrote_nothing, wrote_number, wrote_nan}
use Rattle.window_write.proofs.write_answer.Goals as goal

pub float_to_bits-bits : goal.float_to_bits-bits
float_to_bits-bits c = rw c.in-Number.is at c.requires.1

pub write_bits-requires : goal.write_bits-requires
write_bits-requires c = c.requires.0

pub write_bits-requires-in-NothingFinite : goal.write_bits-requires-in-NothingFinite
write_bits-requires-in-NothingFinite c = c.requires.0

pub returns-in-Empty : goal.returns-in-Empty
returns-in-Empty c = record { result_after = wrote_nothing (filled_of c.args.slab.now c.args.filling) c.args.window c.args.column (cc); sound = (c.requires.0.sound, omega arith) }

pub returns-in-Number : goal.returns-in-Number
returns-in-Number c = record { result_after = wrote_number (filled_of c.args.slab.now c.args.filling) c.args.window c.args.column c.in-Number.is c.write_bits.ensures.result_after; sound = c.write_bits.ensures.sound }

pub returns-in-NothingFinite : goal.returns-in-NothingFinite
returns-in-NothingFinite c = record { result_after = wrote_nan (filled_of c.args.slab.now c.args.filling) c.args.window c.args.column (cc) c.write_bits-in-NothingFinite.ensures.result_after; sound = c.write_bits-in-NothingFinite.ensures.sound }
