-- `store::record_batch` meets its contract: the by-value core's promise. Assumes nothing.
use Rattle.store.specs.Called.{batch_called}
use Rattle.store.proofs.record_batch.Goals as goal

pub returns : goal.returns
returns c = batch_called c.record_batch-done.result.answer c.record_batch-done.ensures
