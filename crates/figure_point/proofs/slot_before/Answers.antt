-- `figure_point::slot_before` meets its contract. Assumes nothing.
use native.Mathlib.Omega.{arith}
use Rattle.figure_point.proofs.Laws.{before-first, before-later}
use borrow.Author.Rules.{rules}
use Rattle.figure_point.proofs.slot_before.Goals as goal

pub returns-then-slot-eq0 : goal.returns-then-slot-eq0
returns-then-slot-eq0 c = (before-first _ _ c.if-slot-eq0.true, search rules)

pub returns : goal.returns
returns c = (before-later _ _ (omega (arith, c.if-slot-eq0.false)), search rules)
