-- `tie_reopening::ask_after` meets its contract, by what each of the calls ensures and the theorem. Assumes nothing.
use Rattle.tie_calls.specs.Encoded.{calls_in}
use Rattle.tie_reopening.specs.Resumed.{history, asks, resumed}
use Rattle.tie_reopening.proofs.ask_after.Goals as goal

pub carry_through-last-requires : goal.carry_through-last-requires
carry_through-last-requires c = tt

pub ask-queried-requires : goal.ask-queried-requires
ask-queried-requires c = tt

pub hand_answer-count-requires : goal.hand_answer-count-requires
hand_answer-count-requires c = tt

pub returns : goal.returns
returns c =
    let a = c.args in
    resumed (history a.plan.now a.image.now a.flags a.before.now a.handed) (calls_in a.next.now) (asks a.question)
    c.carry_through-last.ensures c.ask-queried.ensures (c.hand_answer-count.ensures.count, c.hand_answer-count.ensures.stored)
