-- `pair::move_mark` meets its contract, one case a return. Assumes nothing.
use native.Mathlib.Omega.{arith}
use Rattle.model.specs.Image.{row_place}
use Rattle.rows.specs.First.{not_accepted}
use Rattle.pair.proofs.Laws.{mark_refused, mark_unmoved, mark_moved}
use borrow.Author.Rules.{rules}
use Rattle.pair.proofs.move_mark.Goals as goal

pub returns-in_default : goal.returns-in_default
returns-in_default c =
    let a = c.args in
    mark_refused a.image.now a.row a.stamp a.writes a.outcome (not_accepted c.in_default.is)

pub returns-then-writes-eq0 : goal.returns-then-writes-eq0
returns-then-writes-eq0 c =
    let a = c.args in mark_unmoved a.image.now a.row a.stamp a.writes a.outcome c.if-writes-eq0.true

pub overflow_mul-row : goal.overflow_mul-row
unfolding row_place
overflow_mul-row c = omega (arith, c.requires)

pub overflow_add-row : goal.overflow_add-row
unfolding row_place
overflow_add-row c = omega (arith, c.requires)

pub overflow_add-row-2 : goal.overflow_add-row-2
unfolding row_place
overflow_add-row-2 c = omega (arith, c.requires)

pub put_u64-requires : goal.put_u64-requires
unfolding row_place
put_u64-requires c = omega (arith, c.requires)

pub returns : goal.returns
returns c =
    let a = c.args in
    mark_moved a.image.now a.row a.stamp a.writes a.outcome c.in-Ok.is c.if-writes-eq0.false c.put_u64.ensures
