-- `image_quick::ends` meets its contract: the tests that were passed are the facts. Assumes nothing.
use mathlib.Core.Bool.{false≢true}
use Rattle.laws.specs.Tests.{eq_is}
use Rattle.image_quick.proofs.Laws.{ends_is}
use Rattle.image_quick.proofs.ends.Goals as goal

pub returns-then-schemas-gt-SCHEMAS : goal.returns-then-schemas-gt-SCHEMAS
returns-then-schemas-gt-SCHEMAS c = λ e. absurd (false≢true e)

pub returns : goal.returns
returns c = λ e. ends_is c.args.s.now c.args.i c.get_u32-schemas.ensures.0 c.if-schemas-gt-SCHEMAS.false c.get_u32-last.ensures.0 (eq_is _ _ e)
