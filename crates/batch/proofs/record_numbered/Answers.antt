-- `batch::record_numbered` meets its contract: opening's refusal, or what `batch_opened` does. Assumes nothing.
use mathlib.Core.Path.{sym, ap, ◌∙◌}
use Rattle.model.specs.Words.{outcome_no}
use Rattle.rows.specs.First.{not_accepted}
use Rattle.batch.proofs.Laws.{not_opened}
use Rattle.batch.proofs.record_numbered.Goals as goal

pub returns-in_default : goal.returns-in_default
returns-in_default c =
    let checked = c.check_image-opened in
    not_opened _ _ _ _ checked.ensures (not_accepted c.in_default.is)

pub batch_opened-requires : goal.batch_opened-requires
batch_opened-requires c = sym c.check_image-opened.ensures ∙ ap outcome_no c.in-Ok.is
