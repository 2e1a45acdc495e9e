-- `batch::record_batch` meets its contract: `record_numbered`, with the flags as a record. Assumes nothing.
use mathlib.Core.Path.{sym, ap}
use Rattle.record.specs.Ready.{lent_by}
use Rattle.batch.specs.Done.{same_done}
use Rattle.batch.proofs.record_batch.Goals as goal

pub returns : goal.returns
returns c = same_done (ap (lent_by _) (sym c.number_of-number.ensures.1)) (ap (lent_by _) c.flags_of-next.ensures) c.record_numbered-done.ensures
