-- `tie_calls::size_at` meets its contract, by the call's kind. Assumes nothing.
use native.Mathlib.Omega.{arith}
use mathlib.Core.Path.{sym}
use Rattle.tie_calls.specs.Encoded.{batch_size}
use Rattle.tie_calls.proofs.Laws.{size_batch, size_other, not_batch}
use borrow.Author.Rules.{rules}
use Rattle.tie_calls.proofs.size_at.Goals as goal

pub returns-in-Batch : goal.returns-in-Batch
unfolding batch_size
returns-in-Batch c =
    let a = c.args in
    omega (arith, c.get_u32-count.ensures.0, size_batch a.calls.now a.at c.in-Batch.ensures)

pub returns-in_default : goal.returns-in_default
returns-in_default c =
    let a = c.args in
    sym (size_other a.calls.now a.at (not_batch _ c.kind_at.ensures c.in_default.not-Batch))
