-- `rondo::rondo_record` meets its contract: opening's refusal, or what `record::record_opened` does. Assumes nothing.
use mathlib.Core.Path.{sym, ◌∙◌}
use Rattle.record.specs.Ready.{unopened, refused_by}
use Rattle.rondo.proofs.Laws.{record_call_lem}
use Rattle.rondo.proofs.rondo_record.Goals as goal

pub returns-then-opened-ne0 : goal.returns-then-opened-ne0
returns-then-opened-ne0 c =
    let k = c.check-opened in
    record_call_lem _ _ _ _ _ _ _ (refused_by _ _ _ _ _ _ _ c.if-opened-ne0.true (unopened _ _ _ _ _ _ _ c.if-opened-ne0.true k.ensures))

pub record_opened-requires : goal.record_opened-requires
record_opened-requires c = sym c.check-opened.ensures ∙ c.if-opened-ne0.false

pub returns : goal.returns
returns c = record_call_lem _ _ _ _ _ _ _ c.record_opened.ensures
