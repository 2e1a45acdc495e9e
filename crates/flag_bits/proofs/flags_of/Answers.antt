-- `flag_bits::flags_of` meets its contract. What is stored so far, before the bits of the rest, are the number's bits. Assumes nothing.
use Prim.Native.Nat.{◌+◌, ◌-◌}
use native.Mathlib.Omega.{arith}
use mathlib.Core.Path.{◌∙◌}
use lib.ListN.{length-set}
use Rattle.flag_bits.specs.Bits.{flag_stored, all_stored}
use Rattle.flag_bits.proofs.flags_of.Goals as goal

pub loop-i-preserved : goal.loop-i-preserved
loop-i-preserved c =
    let l = c.loop-i in (rw (length-set) c.loop-i.invariant.0, omega arith, flag_stored _ l.i (32 - (l.i + 1)) (32 - l.i) l.rest (omega arith) (omega arith) ∙ l.invariant.2)

pub returns : goal.returns
returns c = all_stored _ _ 32 c.loop-i.i _ c.loop-i.invariant.0 (omega arith) c.loop-i.invariant.2
