-- `batch::batch_opened` meets its contract: the check's refusal, or the writes. Assumes nothing.
use mathlib.Core.Path.{◌≡◌, sym, ◌∙◌}
use Rattle.model.specs.Words.{outcome_no}
use Rattle.model.specs.Record.{entries, batch_check}
use Rattle.rows.specs.First.{not_accepted, accepted}
use Rattle.flag_bits.specs.Bits.{bits}
use Rattle.flag_bits.specs.One.{lent_at}
use Rattle.batch.proofs.Laws.{refused, all_fit, recorded}
use Rattle.batch.proofs.batch_opened.Goals as goal

pub returns-in_default : goal.returns-in_default
returns-in_default c =
    let checked : (let a = c.args in outcome_no c.check_batch-checked.result ≡ batch_check (lent_at a.image.now a.flags) (entries a.batch.now) a.stamp) =
    c.check_batch-checked.ensures.number_is (bits 32 c.args.flags) in
    refused _ _ _ _ checked (not_accepted c.in_default.is)

pub store_schemas-next-requires : goal.store_schemas-next-requires
store_schemas-next-requires c =
    let checked : (let a = c.args in outcome_no c.check_batch-checked.result ≡ batch_check (lent_at a.image.now a.flags) (entries a.batch.now) a.stamp) =
    c.check_batch-checked.ensures.number_is (bits 32 c.args.flags) in
    let passed : (let a = c.args in 0 ≡ batch_check (lent_at a.image.now a.flags) (entries a.batch.now) a.stamp) = sym (accepted c.in-Ok.is) ∙ checked in
    let pre = c.requires in record { image_value = pre; batch_value = all_fit _ _ _ pre passed }

pub returns : goal.returns
returns c =
    let checked : (let a = c.args in outcome_no c.check_batch-checked.result ≡ batch_check (lent_at a.image.now a.flags) (entries a.batch.now) a.stamp) =
    c.check_batch-checked.ensures.number_is (bits 32 c.args.flags) in
    let passed : (let a = c.args in 0 ≡ batch_check (lent_at a.image.now a.flags) (entries a.batch.now) a.stamp) = sym (accepted c.in-Ok.is) ∙ checked in
    recorded _ _ _ passed c.store_schemas-next.ensures
