-- The loop of `owned::put_halves`: 4 bytes more. Assumes nothing.
use Rattle.std.proofs.Common.{◌∙◌}
use Rattle.field.proofs.Laws.{low_bytes}
use Rattle.owned.proofs.Laid.{laid_more}
use Rattle.owned.proofs.put_halves.Goals as goal

pub loop-half-preserved : goal.loop-half-preserved
loop-half-preserved c =
    laid_more 4 c.loop-half.half-index c.args.halves.now _ _ _ _ c.loop-half-test.true c.loop-half.invariant c.in_ok-extend_from_slice.ensures.items (c.to_le_bytes.ensures ∙ low_bytes 4 _)
