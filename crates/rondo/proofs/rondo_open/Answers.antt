-- `rondo::rondo_open` meets its contract: `open::open`, with the flags as a number. Assumes nothing.
use mathlib.Core.Path.{◌∙◌}
use Rattle.model.specs.Lent.{opening}
use Rattle.rondo.proofs.Laws.{crossed}
use Rattle.rondo.proofs.rondo_open.Goals as goal

pub returns : goal.returns
returns c =
    let done = c.open-done in
    let flags = c.flags_of-wrapped in record { answer = c.outcome_number.ensures ∙ done.ensures.0; left = crossed _ _ opening flags.result done.result.flags flags.ensures c.number_of.ensures.1 done.ensures.1 }
