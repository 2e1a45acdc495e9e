-- `store_reads::query_auto` meets its contract: the by-value core's promise, over the part that its answer names. Assumes nothing.
use Rattle.store_reads.proofs.Answers.{auto_answers}
use Rattle.store_reads.proofs.query_auto.Goals as goal

pub returns : goal.returns
returns c =
    let begin = c.start_auto-begin.ensures in
    rw (c.result_of.ensures.queried, c.result_of.ensures.reader) (auto_answers begin.0 begin.1)
