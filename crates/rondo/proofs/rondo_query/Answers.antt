-- `rondo::rondo_query` meets its contract: opening's refusal, or what `query::query_numbered` answers, as numbers. Assumes nothing.
use Rattle.query.proofs.Laws.{unopened}
use Rattle.rondo.proofs.Laws.{asked, not_found_lem}
use Rattle.rondo.proofs.rondo_query.Goals as goal

pub returns-then-opened-ne0 : goal.returns-then-opened-ne0
returns-then-opened-ne0 c =
    let n = c.check-opened in
    let w = not_found_lem _ _ (unopened _ _ _ _ _ _ _ _ c.if-opened-ne0.true n.ensures) in
    record { number = w.0; words = w.1 }

pub returns : goal.returns
returns c =
    let q = c.query_numbered-reply in
    let answer = c.answer_query.ensures in
    let w = asked _ q.result _ _ _ _ answer.0 answer.1 q.ensures in
    record { number = w.0; words = w.1 }
