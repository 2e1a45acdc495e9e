-- `rondo::rondo_record_batch` meets its contract: opening's refusal, or what `batch::batch_opened` does, its outcome as a number. Assumes nothing.
use mathlib.Core.Path.{sym, ◌∙◌}
use Rattle.batch.proofs.Laws.{not_opened}
use Rattle.rondo.proofs.Laws.{batch_call_lem}
use Rattle.rondo.proofs.rondo_record_batch.Goals as goal

pub returns-then-opened-ne0 : goal.returns-then-opened-ne0
returns-then-opened-ne0 c = batch_call_lem _ _ _ _ _ (not_opened _ _ _ _ c.check-opened.ensures c.if-opened-ne0.true)

pub batch_opened-done-requires : goal.batch_opened-done-requires
batch_opened-done-requires c = sym c.check-opened.ensures ∙ c.if-opened-ne0.false

pub returns : goal.returns
returns c = rw c.outcome_number.ensures (batch_call_lem _ _ _ _ _ c.batch_opened-done.ensures)
