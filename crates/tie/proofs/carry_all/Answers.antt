-- `tie::carry_all` meets its contract: what each call leaves is lent to the next. Assumes nothing.
use mathlib.Core.Path.{ap}
use Rattle.model.specs.Store.{Done}
use Rattle.lookup.specs.Parts.{lent_of}
use Rattle.tie_calls.specs.Encoded.{calls_in}
use Rattle.tie.proofs.Laws.{carried}
use Rattle.tie.proofs.carry_all.Goals as goal

pub carry_out-recorded-requires : goal.carry_out-recorded-requires
carry_out-recorded-requires c = tt

pub consolidate-done-requires : goal.consolidate-done-requires
consolidate-done-requires c = tt

pub carry_out-requires : goal.carry_out-requires
carry_out-requires c = tt

pub returns : goal.returns
returns c =
    let a = c.args in
    carried (lent_of a.image.now a.flags) (calls_in a.before.now) (calls_in a.between.now)
    c.carry_out-recorded.ensures (ap (λ (d : Done). d.lent) c.consolidate-done.ensures) c.carry_out.ensures
