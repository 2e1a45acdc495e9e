use Rattle.model.specs.Record.{entries}
use Rattle.batch_entries.proofs.Old.{Asked}
use Rattle.batch_entries.proofs.any_old.Given as goal

abbrev pub invariant-loop-k : goal.invariant-loop-k
invariant-loop-k l = Asked l.image.bytes.now l.stamp (entries l.batch) l.k
