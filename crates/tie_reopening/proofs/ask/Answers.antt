-- `tie_reopening::ask` meets its contract, by its two ways. Assumes nothing.
use Rattle.tie_reopening.proofs.Laws.{asked_auto, asked-tier}
use Rattle.tie_reopening.proofs.ask.Goals as goal

pub query_auto-requires : goal.query_auto-requires
query_auto-requires c = tt

pub returns-then-question : goal.returns-then-question
returns-then-question c =
    let a = c.args in
    asked_auto a.image.now a.flags a.question c.query_auto.result c.if-question.true c.query_auto.ensures

pub query-requires : goal.query-requires
query-requires c = tt

pub returns : goal.returns
returns c =
    let a = c.args in
    asked-tier a.image.now a.flags a.question c.query.result c.if-question.false c.query.ensures
