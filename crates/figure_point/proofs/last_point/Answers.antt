-- `figure_point::last_point` meets its contract: the reading's last point is the first one going backward from the cursor. Assumes nothing.
use mathlib.Core.Path.{sym, ◌∙◌}
use Rattle.figure_theory.specs.Back.{last-is_back}
use Rattle.figure_point.proofs.last_point.Goals as goal

pub returns : goal.returns
returns c =
    let a = c.args in
    let back = last-is_back _ a.slab.now.sized a.column c.requires in
    c.back_from.ensures ∙ rw (c.cursor-cursor.ensures.0, c.first_place-first.ensures.0) (sym back)
