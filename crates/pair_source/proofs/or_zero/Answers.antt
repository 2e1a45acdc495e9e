-- `pair_source::or_zero` meets its contract: the library's method is the definition. Assumes nothing.
use mathlib.Core.Path.{◌∙◌}
use Rattle.pair_source.proofs.Laws.{unwrapped}
use Rattle.pair_source.proofs.or_zero.Goals as goal

pub returns : goal.returns
returns c = c.unwrap_or.ensures ∙ unwrapped c.args.end
