-- The words of the edge's contracts about the figures: the panel's, and the service figure as five numbers. Assumes nothing.
use Rattle.std.specs.Prelude.{ℕ, List, [], ◌∷◌, set, ℤ}
use Rattle.model.specs.declared.ServiceFigure.{ServiceFigure}
use Rattle.model.specs.Figure.{PanelReply, shows, shows_nothing, not_shown, ServiceReply, serves, serves_nothing, not_served}
use Rattle.rondo.specs.Edge.{end_no}

-- ---- the panel

-- the answer's number
unfoldable pub panel_no : PanelReply → ℕ
panel_no (shows z) = 0
panel_no shows_nothing = 0
panel_no (not_shown n) = n

-- 1 where a number is shown, 0 where there is no point. A refusal leaves the old one
unfoldable pub shown_as : PanelReply → ℕ → ℕ
shown_as (shows z) old = 1
shown_as shows_nothing old = 0
shown_as (not_shown n) old = old

-- the number that is shown; where none is, the old one
unfoldable pub whole_as : PanelReply → ℤ → ℤ
whole_as (shows z) old = z
whole_as shows_nothing old = old
whole_as (not_shown n) old = old

-- ---- service tools

unfoldable pub service_no : ServiceReply → ℕ
service_no (serves t v o n) = 0
service_no serves_nothing = 0
service_no (not_served n) = n

-- 1, stamp, value, oldest, newest; 0 in the first where there is no point, the others as they were. A refusal leaves all
unfoldable pub service_words : ServiceReply → List ℕ → List ℕ
service_words (serves t v o n) old = 1 ∷ t ∷ v ∷ end_no o ∷ end_no n ∷ []
service_words serves_nothing old = set old 0 0
service_words (not_served n) old = old

-- of the code's answer
abbrev pub figure_words : ServiceFigure → List ℕ
figure_words f = 1 ∷ f.stamp ∷ f.value ∷ end_no f.oldest ∷ end_no f.newest ∷ []
