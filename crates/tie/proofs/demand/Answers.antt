-- `tie::demand` meets its contract, by what each of the calls ensures and the theorem. Assumes nothing.
use Rattle.tie.proofs.Laws.{demanded}
use Rattle.tie.proofs.demand.Goals as goal

pub create-made-requires : goal.create-made-requires
create-made-requires c = tt

pub carry_all-last-requires : goal.carry_all-last-requires
carry_all-last-requires c = tt

pub query-queried-requires : goal.query-queried-requires
query-queried-requires c = tt

pub hand_answer-count-requires : goal.hand_answer-count-requires
hand_answer-count-requires c = tt

pub returns : goal.returns
returns c =
    let a = c.args in
    demanded a.plan.now a.image.now a.flags a.before.now a.between.now a.column a.tier c.query-queried.result
    c.create-made.ensures.1 c.carry_all-last.ensures c.query-queried.ensures (c.hand_answer-count.ensures.count, c.hand_answer-count.ensures.stored)
