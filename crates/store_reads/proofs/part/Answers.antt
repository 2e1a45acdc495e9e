-- `store_reads::part` meets its contract, one case a return. Assumes nothing.
use native.Mathlib.Omega.{arith}
use Rattle.model.specs.Bytes.{part}
use Rattle.store_reads.proofs.Laws.{part_none, part_past, part-rest}
use borrow.Author.Rules.{rules}
use Rattle.store_reads.proofs.part.Goals as goal

pub returns-then-from-to : goal.returns-then-from-to
unfolding part
returns-then-from-to c = search rules

pub returns-then-to-len : goal.returns-then-to-len
returns-then-to-len c =
    let h = c.if-from-to.false in part_none _ _ _ (omega arith)

pub returns-then-from-len : goal.returns-then-from-len
returns-then-from-len c =
    let h = c.if-to-len.false in part-rest _ _ _ (omega arith)

pub returns : goal.returns
returns c =
    let h = c.if-from-len.false in part_past _ _ _ (omega arith)
