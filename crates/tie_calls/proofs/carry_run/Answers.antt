-- `tie_calls::carry_run` meets its contract: `consolidate::consolidate` does it. Assumes nothing.
use mathlib.Core.Path.{ap}
use Rattle.model.specs.Store.{Done}
use borrow.Author.Rules.{rules}
use Rattle.tie_calls.proofs.carry_run.Goals as goal

pub returns : goal.returns
returns c = ap (λ (d : Done). d.lent) c.consolidate-done.ensures
