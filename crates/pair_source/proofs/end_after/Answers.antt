-- `pair_source::end_after` meets its contract, one case a return. Assumes nothing.
use native.Mathlib.Omega.{arith}
use Rattle.pair_source.proofs.Laws.{zero_at, after_missing, after-at}
use Rattle.pair_source.proofs.end_after.Goals as goal

pub returns-in_default : goal.returns-in_default
returns-in_default c = (after_missing (cc), omega arith)

pub overflow_add-result : goal.overflow_add-result
overflow_add-result c = omega (arith, zero_at _ c.in-Some.is)

pub returns : goal.returns
returns c =
    let e = c.in-Some.is in (after-at _ e, omega (arith, zero_at _ e))
