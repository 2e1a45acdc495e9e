-- `image_quick::check` meets its contract: where all is good opening's check is 0, else the plain check says it. Assumes nothing.
use Rattle.std.proofs.Common.{sym}
use Rattle.image_quick.proofs.check.Goals as goal

pub returns-then-good : goal.returns-then-good
returns-then-good c = sym (c.is_good-good.ensures c.if-good.true)
