-- `figure::shown_point` meets its contract, by cases on the point. Assumes nothing.
use Rattle.model.specs.Figure.{shown_point, panel_reply}
use Rattle.figure.proofs.shown_point.Goals as goal

pub returns-in-Some : goal.returns-in-Some
unfolding shown_point
returns-in-Some c = rw c.in-Some.is c.panel_of.ensures

pub returns-in-None : goal.returns-in-None
unfolding shown_point panel_reply
returns-in-None c = rw c.in-None.is
