-- `open::wrap_flag` meets its contract: the search begins behind the cursor. Assumes nothing.
use mathlib.Core.Path.{◌∙◌}
use Rattle.open.specs.Left.{flag_is}
use Rattle.open.proofs.wrap_flag.Goals as goal

pub returns : goal.returns
returns c = c.any_stamp.ensures ∙ flag_is _ _ _ c.args.slab.now.sized c.cursor-cursor.ensures.0
