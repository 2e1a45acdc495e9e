-- `ring::next_slot` meets its contract: compare and reset is the remainder. Assumes nothing.
use Rattle.ring.proofs.Laws.{next_in, next_round}
use borrow.Author.Rules.{rules}
use Rattle.ring.proofs.next_slot.Goals as goal

pub returns-then-next-n : goal.returns-then-next-n
returns-then-next-n c = (next_in _ _ c.if-next-n.true, c.if-next-n.true)

pub returns : goal.returns
returns c = (next_round _ _ c.requires c.if-next-n.false, search rules)
