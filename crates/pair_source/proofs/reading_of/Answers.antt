-- `pair_source::reading_of` meets its contract: start and end are the definition's, and the end fits, as every stamp is below 2^63. Assumes nothing.
use Rattle.pair_source.specs.Parts.{reading_of}
use Rattle.pair_source.proofs.Laws.{newest-is-low}
use Rattle.pair_source.proofs.reading_of.Goals as goal

pub end_after-end-requires : goal.end_after-end-requires
end_after-end-requires c = rw c.newest-newest.ensures (newest-is-low c.args.slab.now.sized c.args.wrapped c.requires.1)

pub returns : goal.returns
unfolding reading_of
returns c = (rw (c.end_after-end.ensures.0, c.newest-newest.ensures, c.start_of-start.ensures), c.end_after-end.ensures.1)
