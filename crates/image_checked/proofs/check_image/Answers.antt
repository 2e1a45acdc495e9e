-- `image_checked::check_image` meets its contract: 0 is opening's number, or the plain check says it. Assumes nothing.
use mathlib.Core.Path.{sym, ◌∙◌}
use Rattle.image_checked.proofs.check_image.Goals as goal

pub returns-then-number-eq0 : goal.returns-then-number-eq0
returns-then-number-eq0 c = sym c.if-number-eq0.true ∙ c.check-number.ensures
