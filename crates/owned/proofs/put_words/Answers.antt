-- The loop of `owned::put_words`: 8 bytes more. Assumes nothing.
use Rattle.std.proofs.Common.{◌∙◌}
use Rattle.field.proofs.Laws.{low_bytes}
use Rattle.owned.proofs.Laid.{laid_more}
use Rattle.owned.proofs.put_words.Goals as goal

pub loop-word-preserved : goal.loop-word-preserved
loop-word-preserved c =
    laid_more 8 c.loop-word.word-index c.args.words.now _ _ _ _ c.loop-word-test.true c.loop-word.invariant c.in_ok-extend_from_slice.ensures.items (c.to_le_bytes.ensures ∙ low_bytes 8 _)
