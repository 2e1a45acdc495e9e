-- The bound on the concrete list of calls of specs/Instance.antt: what the panel shows at the coarsest tier is within it, as follows from the theorem. Assumes nothing.
use Rattle.std.specs.Prelude.{ℕ, ◌<◌, ◌≡◌, List, [], T}
use Rattle.std.proofs.Common.{sym, ap, subst, lit<}
use Rattle.model.specs.Image.{row_at, row_slots}
use Rattle.demand.specs.Demand.{Event, samples_in, supposed, used, newest_windows, is_closed, in_window, sum_of, count, finest, coarsest, samples, tier_interval, events, after_run, created, up_to_run, due}
use Rattle.demand.specs.Instance.{Instance-defs, story, sample, did, accepted_plan, suited-plan}
use Rattle.demand.specs.PanelBound.{Bound-defs, last_start, last_due, shown_within, panel_after, PanelWithin}
use Rattle.demand_proved.proofs.Instance.{one_schema, three-rows}
use Rattle.figure_bound.proofs.Theorem.{proof}
use Rattle.figure_bound.specs.Instance.{closing, before_last, closed, history-is, met, afterwards, shown_are}

-- of the coarsest tier's window of column 1 it follows from the theorem
last-closed : T (is_closed (finest (closing 1 2)) (tier_interval (closing 1 2)) (samples_in closed) (last_start 0 (newest_windows (tier_interval (closing 1 2)) (row_slots (row_at (closing 1 2).plan 2)) (samples_in closed))))
unfolding Instance-defs Bound-defs sample did closing before_last closed
last-closed = tt

supposition : T (supposed (finest (closing 1 2)) (coarsest (closing 1 2)) closed)
unfolding Instance-defs closing
supposition = met.0

quiet : events (after_run (closing 1 2)) (closing 1 2).between ≡ []
unfolding story closing after_run created up_to_run afterwards
quiet = ap (λ r. r.0) shown_are

pub promised_coarsest :
    T (shown_within 2 (panel_after (closing 1 2)) (sum_of (in_window 1 (tier_interval (closing 1 2)) (last_due (closing 1 2))) (samples (closing 1 2)))
    (count (in_window 1 (tier_interval (closing 1 2)) (last_due (closing 1 2))) (samples (closing 1 2))))
unfolding PanelWithin story closing samples last_due due
promised_coarsest =
    proof (closing 1 2) accepted_plan one_schema suited-plan
    (subst (λ (es : List Event). T (supposed (finest (closing 1 2)) (coarsest (closing 1 2)) es)) (sym (history-is 1 2)) supposition) quiet
    (subst (λ (es : List Event). T (used 1 (samples_in es))) (sym (history-is 1 2)) met.2) (subst (λ (n : ℕ). 2 < n) (sym three-rows) (lit< tt))
    (subst (λ (es : List Event). T (is_closed (finest (closing 1 2)) (tier_interval (closing 1 2)) (samples_in es)
    (last_start 0 (newest_windows (tier_interval (closing 1 2)) (row_slots (row_at (closing 1 2).plan 2)) (samples_in es))))) (sym (history-is 1 2)) last-closed)
