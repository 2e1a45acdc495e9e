-- `tie_as_before::run_after` meets its contract, by what each of the calls ensures and the theorems. Assumes nothing.
use mathlib.Core.Path.{ap, ◌∙◌}
use Rattle.model.specs.Lent.{Lent}
use Rattle.model.specs.Store.{consolidate_call, call, after}
use Rattle.as_before_proved.proofs.Theorem.{proof, none_passed-over}
use Rattle.tie_calls.specs.Encoded.{calls_in}
use Rattle.tie_as_before.specs.RanAfter.{ran-after}
use Rattle.tie_as_before.proofs.run_after.Goals as goal

pub create-made-requires : goal.create-made-requires
create-made-requires c = tt

pub carry_out-next-requires : goal.carry_out-next-requires
carry_out-next-requires c = tt

pub consolidate-requires : goal.consolidate-requires
consolidate-requires c = tt

pub returns : goal.returns
returns c =
    let a = c.args in
    let calls = calls_in a.calls.now in
    let left = c.carry_out-next.ensures ∙ ap (λ (l : Lent). after l calls) c.create-made.ensures.1 in
    ran-after proof none_passed-over a.plan.now a.image.now a.flags.wrapped calls
    (c.consolidate.ensures ∙ ap (λ (l : Lent). call l consolidate_call) left)
