-- `ring::slot_of` meets its contract: a remainder by n is below n. Assumes nothing.
use Prim.Native.Nat.{◌/◌}
use mathlib.Core.Path.{refl}
use native.Mathlib.Nat.{mod-lt}
use Rattle.ring.proofs.slot_of.Goals as goal

pub returns : goal.returns
returns c = (refl, mod-lt (c.args.stamp / c.args.interval) c.requires.1)
