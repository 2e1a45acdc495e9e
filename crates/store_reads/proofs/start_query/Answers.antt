-- `store_reads::start_query` meets its contract: the core's answer, and where its reader starts. Assumes nothing.
use Rattle.store_reads.specs.Answers.{starts}
use Rattle.store_reads.proofs.start_query.Goals as goal

pub returns : goal.returns
returns c = starts _ _ _ _ c.start_of.ensures c.query-queried.ensures
