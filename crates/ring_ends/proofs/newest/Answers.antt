-- `ring_ends::newest` meets its contract: the stamp at the cursor. Assumes nothing.
use mathlib.Core.Path.{ap, ◌∙◌}
use Rattle.model.specs.Ring.{end_of, stamp, newest}
use Rattle.ring_ends.proofs.newest.Goals as goal

pub returns : goal.returns
unfolding newest
returns c = c.end_of.ensures ∙ ap end_of (c.stamp-stamp.ensures ∙ ap (stamp c.args.slab.now.bytes.now) c.cursor-cursor.ensures.0)
