-- `window_apply::fold_step` meets its contract, one case a function. Assumes nothing.
use Rattle.model.specs.Window.{fold_step}
use Rattle.window_apply.proofs.Laws.{min_yes, min_no, max_yes, max_no}
use Rattle.window_apply.proofs.fold_step.Goals as goal

pub returns-in-Average : goal.returns-in-Average
unfolding fold_step
returns-in-Average c = cc

pub returns-then-x-a : goal.returns-then-x-a
returns-then-x-a c = min_yes _ _ _ (cc) c.if-x-a.true

pub returns-else-x-a : goal.returns-else-x-a
returns-else-x-a c = min_no _ _ _ (cc) c.if-x-a.false

pub returns-then-a-x : goal.returns-then-a-x
returns-then-a-x c = max_yes _ _ _ (cc) c.if-a-x.true

pub returns-else-a-x : goal.returns-else-a-x
returns-else-a-x c = max_no _ _ _ (cc) c.if-a-x.false

pub returns-in-Last : goal.returns-in-Last
unfolding fold_step
returns-in-Last c = cc

pub returns-in-Sum : goal.returns-in-Sum
unfolding fold_step
returns-in-Sum c = cc

pub returns-in-Count : goal.returns-in-Count
unfolding fold_step
returns-in-Count c = cc
