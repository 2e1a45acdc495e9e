-- `consolidate::answer_of` meets its contract, one case a variant. Assumes nothing.
use Rattle.consolidate.proofs.Laws.{wrote_all, refused_run}
use Rattle.consolidate.proofs.answer_of.Goals as goal

pub returns-in-Ok : goal.returns-in-Ok
returns-in-Ok c =
    let a = c.args in wrote_all a.count a.outcome c.in-Ok.is

pub returns-in-Err : goal.returns-in-Err
returns-in-Err c = refused_run _ _ c.in-Err.is
