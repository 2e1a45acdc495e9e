use Prim.Native.Nat.{◌-◌, ◌≤◌}
use mathlib.Core.Path.{◌≡◌}
use mathlib.Core.List.{◌++◌}
use lib.ListN.{length, take}
use Rattle.flag_bits.specs.Bits.{bits}
use Rattle.flag_bits.proofs.flags_of.Given as goal

abbrev pub invariant-loop-i : goal.invariant-loop-i
invariant-loop-i l = (length l.wrapped ≡ 32) × (l.i ≤ 32) × (take l.i l.wrapped ++ bits (32 - l.i) l.rest ≡ bits 32 l.number)
