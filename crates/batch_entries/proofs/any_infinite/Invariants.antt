use Rattle.model.specs.Record.{every_entry}
use Rattle.batch_entries.specs.Entries.{finite}
use Rattle.batch_entries.proofs.Laws.{Testing}
use Rattle.batch_entries.proofs.any_infinite.Given as goal

abbrev pub invariant-loop-i : goal.invariant-loop-i
invariant-loop-i l = Testing (every_entry finite) l.batch l.count l.i
