-- `rondo::answer_query` meets its contract, by cases on the answer. Assumes nothing.
use Rattle.rondo.proofs.Laws.{answer_stored, query_refused}
use Rattle.rondo.proofs.answer_query.Goals as goal

pub returns-in-Ok : goal.returns-in-Ok
returns-in-Ok c = answer_stored _ _ _ _ c.in-Ok.is c.found_words.ensures

pub returns-in-Err : goal.returns-in-Err
returns-in-Err c = query_refused _ _ _ _ c.in-Err.is c.refusal_number.ensures
