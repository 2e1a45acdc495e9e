-- `tie_calls::carry_record` meets its contract: the fields that are read are the call's, and `record::record` does the rest. Assumes nothing.
use Rattle.lookup.specs.Parts.{lent_of}
use Rattle.tie_calls.proofs.Laws.{recorded}
use borrow.Author.Rules.{rules}
use Rattle.tie_calls.proofs.carry_record.Goals as goal

pub returns : goal.returns
returns c =
    let a = c.args in
    recorded (lent_of a.image.now a.flags) a.calls.now a.at c.get_u32-schema.ensures.0 c.get_u32-column.ensures.0 c.get_u64-value.ensures
    c.get_u64-stamp.ensures c.record-done.ensures
