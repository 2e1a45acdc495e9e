-- `owned::Store::query` meets its contract: `store_reads`'s answer, and its reader as points. Assumes nothing.
use Rattle.owned.specs.Answers.{lent}
use Rattle.owned.proofs.Asking.{asked}
use Rattle.owned.proofs.Store.query.Goals as goal

pub returns : goal.returns
returns c = asked (lent c.args.self.now) _ _ _ _ c.answer_of.ensures (rw c.image.ensures at c.query.ensures)
