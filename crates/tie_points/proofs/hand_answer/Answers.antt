-- `tie_points::hand_answer` meets its contract: a refused query has no points, and an answer's are those of its reader. Assumes nothing.
use mathlib.Core.Path.{ap}
use Rattle.model.specs.Store.{queried_reply}
use Rattle.demand.specs.Demand.{handed_out}
use Rattle.tie_points.proofs.Laws.{WrittenOut, room_for, same_points, refused_out, answer_out}
use borrow.Author.Rules.{rules}
use Rattle.tie_points.proofs.hand_answer.Goals as goal

pub returns-in_default : goal.returns-in_default
returns-in_default c =
    let a = c.args in
    let w = refused_out a.image.now a.queried a.out.now c.in_default.is in
    record { count = w.0; stored = w.1 }

pub returns : goal.returns
returns c =
    let a = c.args in
    let from = c.min-from in
    let same = answer_out a.image.now a.queried c.in-Ok.found c.in-Ok.is c.min-to.result from.result c.min-to.ensures from.ensures in
    let w = same_points a.out.now (ap (room_for a.out.now) same) (c.hand_out.ensures.count, c.hand_out.ensures.stored) in
    record { count = w.0; stored = w.1 }
