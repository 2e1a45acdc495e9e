use Rattle.model.specs.Record.{entries_of}
use Rattle.batch_entries.proofs.Laws.{Testing}
use Rattle.batch_entries.proofs.has_entry.Given as goal

abbrev pub invariant-loop-i : goal.invariant-loop-i
invariant-loop-i l = Testing (entries_of l.schema) l.batch l.count l.i
