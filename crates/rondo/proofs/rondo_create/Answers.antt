-- `rondo::rondo_create` meets its contract: `create::create`, with the flags as a number. Assumes nothing.
use mathlib.Core.Path.{◌∙◌}
use Rattle.model.specs.Lent.{creation}
use Rattle.rondo.proofs.Laws.{crossed}
use Rattle.rondo.proofs.rondo_create.Goals as goal

pub returns : goal.returns
returns c =
    let done = c.create-done in
    let flags = c.flags_of-wrapped in record { answer = c.outcome_number.ensures ∙ done.ensures.0; left = crossed _ _ (creation _) flags.result done.result.flags flags.ensures c.number_of.ensures.1 done.ensures.1 }
