use Rattle.model.specs.Record.{every_entry}
use Rattle.batch_entries.specs.Entries.{fits}
use Rattle.batch_entries.proofs.Laws.{Testing}
use Rattle.batch_entries.proofs.any_outside.Given as goal

abbrev pub invariant-loop-i : goal.invariant-loop-i
invariant-loop-i l = Testing (every_entry (fits l.image.bytes.now)) l.batch l.count l.i
