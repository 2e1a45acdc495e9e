-- `image_quick::check_plainly` meets its contract: the plain check's outcome, by its number. Assumes nothing.
use Rattle.std.proofs.Common.{◌∙◌}
use Rattle.image_quick.proofs.check_plainly.Goals as goal

pub returns : goal.returns
returns c = c.outcome_number.ensures ∙ c.check_image-opened.ensures
