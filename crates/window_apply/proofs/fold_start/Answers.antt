-- `window_apply::fold_start` meets its contract, one literal a function. Assumes nothing.
use lib.Ieee.{nan_bits}
use Rattle.model.specs.Window.{fold_start}
use Rattle.window_apply.proofs.Laws.{from_zero_lem, from_inf, from-minus_inf}
use Rattle.window_apply.proofs.fold_start.Goals as goal

pub float_from_bits-result : goal.float_from_bits-result
unfolding nan_bits
float_from_bits-result c = tt

pub float_from_bits-result-in-Max : goal.float_from_bits-result-in-Max
unfolding nan_bits
float_from_bits-result-in-Max c = tt

pub returns-in-Average : goal.returns-in-Average
unfolding fold_start
returns-in-Average c = cc from_zero_lem

pub returns-in-Min : goal.returns-in-Min
unfolding fold_start
returns-in-Min c = cc from_inf

pub returns-in-Max : goal.returns-in-Max
unfolding fold_start
returns-in-Max c = cc from-minus_inf

pub returns-in-Last : goal.returns-in-Last
unfolding fold_start
returns-in-Last c = cc from_zero_lem

pub returns-in-Sum : goal.returns-in-Sum
unfolding fold_start
returns-in-Sum c = cc from_zero_lem

pub returns-in-Count : goal.returns-in-Count
unfolding fold_start
returns-in-Count c = cc from_zero_lem
