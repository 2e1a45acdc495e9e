-- `tie_calls::carry_open` meets its contract: the flags that are read are the call's, and `open::open` does the rest. Assumes nothing.
use Rattle.lookup.specs.Parts.{lent_of}
use Rattle.tie_calls.proofs.Laws.{opened}
use borrow.Author.Rules.{rules}
use Rattle.tie_calls.proofs.carry_open.Goals as goal

pub returns : goal.returns
returns c =
    let a = c.args in
    opened (lent_of a.image.now c.flags_of-handed.result) a.calls.now a.at c.get_u32-number.ensures.0 c.flags_of-handed.ensures c.open-done.ensures.1
