-- `window::window_of` meets its contract: the quotient times the divisor is not above the stamp. Assumes nothing.
use native.Mathlib.Omega.{arith}
use native.Mathlib.Nat.{div-mul-le_self}
use Rattle.model.specs.Window.{window_of}
use Rattle.window.proofs.window_of.Goals as goal

pub returns : goal.returns
unfolding window_of
returns c = omega (arith, div-mul-le_self c.args.stamp c.args.long)
