-- An opening changes neither the panel's figure nor the service figure: both are told by what is seen of the query over all time. Assumes nothing.
use Rattle.std.specs.Prelude.{ℕ, ◌≡◌, refl, List, None}
use Rattle.std.proofs.Math.Path.{ap, sym}
use Rattle.std.proofs.Common.{◌∙◌}
use Rattle.model.specs.Image.{create_check}
use Rattle.model.specs.Query.{QueryReply, found, not_found, query}
use Rattle.model.specs.Figure.{end_of_time, reading, last_after, last_on, PanelReply, shows_nothing, not_shown, shown_point, panel_on, panel, ServiceReply, serves_nothing, not_served, served_point, service_on, service}
use Rattle.model.specs.Store.{Call, query_call, Shown, refusal, accepted, writes, points, shown, read_or, call, after}
use Rattle.reopening.specs.Reopening.{History, left, reopened, OpeningChangesNothing}
use Rattle.reopening_proved.proofs.Theorem.{proof}

-- the figures by what is seen of the reading over all time
abbrev panel_seen : Shown → PanelReply
panel_seen (refusal n) = not_shown n
panel_seen accepted = shows_nothing
panel_seen (writes k) = shows_nothing
panel_seen (points j o n start end i ps) = shown_point (last_after None ps)

abbrev service_seen : Shown → ServiceReply
service_seen (refusal n) = not_served n
service_seen accepted = serves_nothing
service_seen (writes k) = serves_nothing
service_seen (points j o n start end i ps) = served_point (last_after None ps) o n

panel-seen : (x : QueryReply) → panel_on x ≡ panel_seen (shown (read_or x))
unfolding panel_on last_on shown read_or
panel-seen (not_found n) = refl
panel-seen (found a) = refl

service-seen : (x : QueryReply) → service_on x ≡ service_seen (shown (read_or x))
unfolding service_on last_on shown read_or
service-seen (not_found n) = refl
service-seen (found a) = refl

module _ (h : History) (ok : create_check h.plan h.buf ≡ 0) (next : List Call) (k c j : ℕ) where
  -- the query over all time is seen as without the opening
  seen : let read = query_call k c j 0 end_of_time in shown (call (after (reopened h) next) read).reply ≡ shown (call (after (left h) next) read).reply
  unfolding OpeningChangesNothing
  seen = (proof h ok next).1 (query_call k c j 0 end_of_time)

  pub panel-kept : panel (after (reopened h) next) k c j ≡ panel (after (left h) next) k c j
  unfolding panel reading call
  panel-kept =
      panel-seen (query (after (reopened h) next) k c j 0 end_of_time) ∙ ap panel_seen seen ∙ sym (panel-seen (query (after (left h) next) k c j 0 end_of_time))

  pub service-kept : service (after (reopened h) next) k c j ≡ service (after (left h) next) k c j
  unfolding service reading call
  service-kept =
      service-seen (query (after (reopened h) next) k c j 0 end_of_time) ∙ ap service_seen seen ∙ sym (service-seen (query (after (left h) next) k c j 0 end_of_time))
