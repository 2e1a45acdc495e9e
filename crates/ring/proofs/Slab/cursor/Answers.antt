-- `ring::Slab::cursor` meets its contract: the u32 at 32. Assumes nothing.
use Rattle.ring_theory.specs.Sound.{header_in}
use Rattle.model.specs.Ring.{cursor}
use native.Mathlib.Omega.{arith}
use Rattle.ring.proofs.Slab.cursor.Goals as goal

pub get_u32-requires : goal.get_u32-requires
get_u32-requires c = omega (arith, header_in c.args.self.now.sized)

pub returns : goal.returns
unfolding cursor
returns c = (c.get_u32.ensures.0, omega arith)
