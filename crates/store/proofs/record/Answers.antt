-- `store::record` meets its contract: the by-value core's promise. Assumes nothing.
use Rattle.store.specs.Called.{record_called}
use Rattle.store.proofs.record.Goals as goal

pub returns : goal.returns
returns c = record_called c.record-done.result.answer c.record-done.ensures
