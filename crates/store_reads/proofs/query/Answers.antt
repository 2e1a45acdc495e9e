-- `store_reads::query` meets its contract: the by-value core's promise, over the part that its answer names. Assumes nothing.
use Rattle.store_reads.proofs.Answers.{query-answers}
use Rattle.store_reads.proofs.query.Goals as goal

pub returns : goal.returns
returns c =
    let begin = c.start_query-begin.ensures in
    rw (c.result_of.ensures.queried, c.result_of.ensures.reader) (query-answers begin.0 begin.1)
