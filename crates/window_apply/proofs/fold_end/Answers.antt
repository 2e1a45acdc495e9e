-- `window_apply::fold_end` meets its contract, one case a function. Assumes nothing.
use Rattle.model.specs.Window.{fold_end}
use Rattle.window_apply.proofs.fold_end.Goals as goal

pub returns-in-Average : goal.returns-in-Average
unfolding fold_end
returns-in-Average c = cc

pub returns-in-Min : goal.returns-in-Min
unfolding fold_end
returns-in-Min c = cc

pub returns-in-Max : goal.returns-in-Max
unfolding fold_end
returns-in-Max c = cc

pub returns-in-Last : goal.returns-in-Last
unfolding fold_end
returns-in-Last c = cc

pub returns-in-Sum : goal.returns-in-Sum
unfolding fold_end
returns-in-Sum c = cc

pub returns-in-Count : goal.returns-in-Count
unfolding fold_end
returns-in-Count c = cc
