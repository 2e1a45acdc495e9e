use Rattle.lookup.proofs.Laws.{Finding}
use Rattle.lookup.proofs.Image.first_row.Given as goal

abbrev pub invariant-loop-i : goal.invariant-loop-i
invariant-loop-i l = Finding l.self.bytes.now l.schema l.count l.i
