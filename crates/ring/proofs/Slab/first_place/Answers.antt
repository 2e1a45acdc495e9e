-- `ring::Slab::first_place` meets its contract, one case a return. Assumes nothing.
use mathlib.Core.Path.{sym}
use native.Mathlib.Omega.{arith}
use Rattle.ring.proofs.Laws.{first_none, first_round, first_plain}
use borrow.Author.Rules.{rules}
use Rattle.ring.proofs.Slab.first_place.Goals as goal

pub returns-then-newest-eq0 : goal.returns-then-newest-eq0
returns-then-newest-eq0 c = (sym (first_none _ _ _ c.args.self.now.sized _ (cc)), omega arith, omega arith)

pub returns-then-wrapped : goal.returns-then-wrapped
returns-then-wrapped c = (cc (first_round _ _ _ c.args.self.now.sized c.args.wrapped (search rules) (λ e. c.if-newest-eq0.false (cc))), c.next_slot-slot.ensures.1, omega arith)

pub returns : goal.returns
returns c = (cc (first_plain _ _ _ c.args.self.now.sized c.args.wrapped c.if-wrapped.false (λ e. c.if-newest-eq0.false (cc))), omega arith, omega arith)
