-- `window::enter` meets its contract, one case a variant. Assumes nothing.
use Rattle.window.specs.Gather.{entered}
use Rattle.window.proofs.enter.Goals as goal

pub returns-in-Outside : goal.returns-in-Outside
unfolding entered
returns-in-Outside c = cc

pub returns-in-Infinite : goal.returns-in-Infinite
unfolding entered
returns-in-Infinite c = cc

pub returns-in-Finite : goal.returns-in-Finite
unfolding entered
returns-in-Finite c = cc
