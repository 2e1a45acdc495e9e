-- How far the panel's figure (request 2026-04) lies from the exact mean, after calls as in the third demand: at tier k it adds at most half a nanosecond to that
-- demand's k / 4,096. The claim, which no request makes; its proof stands in the crate figure_bound. Assumes nothing.
use Rattle.std.specs.Prelude.{ℕ, ◌+◌, ◌*◌, ◌<◌, ◌≡◌, Bool, false, List, [], ◌∷◌, T, leb, ℤ, pos, nat_abs, ◌-ℤ◌, ◌*ℤ◌}
use Rattle.model.specs.Image.{rows, row_count, schemas, create_check}
use Rattle.model.specs.Figure.{PanelReply, shows, shows_nothing, not_shown, panel}
use Rattle.model.specs.Store.{after}
use Rattle.demand.specs.Demand.{events, supposed, suited, used, count, is_closed, in_window, sum_of, Situation, finest, coarsest, after_run, history, samples, tier_interval, due}

-- the last of these; where there is none, x
unfoldable pub last_start : ℕ → List ℕ → ℕ
last_start x [] = x
last_start x (w ∷ ws) = last_start w ws

-- the last window that is due
unfoldable pub last_due : Situation → ℕ
last_due s = last_start 0 (due s)

-- the whole number w is shown, and lies within k / 4,096 + 1 / 2 of the exact mean z / n: |w * n - z| * 4,096 ≤ (k + 2,048) * n
unfoldable pub shown_within : ℕ → PanelReply → ℤ → ℕ → Bool
shown_within k (shows w) z n = leb (nat_abs (w *ℤ pos n -ℤ z) * 4096) ((k + 2048) * n)
shown_within k shows_nothing z n = false
shown_within k (not_shown r) z n = false

-- the panel's figure in the query's stead
unfoldable pub panel_after : Situation → PanelReply
panel_after s = panel (after (after_run s) s.between) 0 s.column s.tier

-- Under the third demand's suppositions: if the last window that is due is closed, the panel is not refused, and shows a number within the bound of the exact
-- mean of that window's samples.
unfoldable pub PanelWithin : Type 0
PanelWithin =
    (s : Situation)
    → create_check s.plan s.buf ≡ 0 → schemas s.plan ≡ 1 → T (suited (rows s.plan))
    → T (supposed (finest s) (coarsest s) (history s))
    → events (after_run s) s.between ≡ []
    → T (used s.column (samples s)) → s.tier < row_count s.plan
    → T (is_closed (finest s) (tier_interval s) (samples s) (last_due s))
    → T (shown_within s.tier (panel_after s) (sum_of (in_window s.column (tier_interval s) (last_due s)) (samples s)) (count (in_window s.column (tier_interval s) (last_due s)) (samples s)))

-- names every definition of this module, for a proof by computation: `unfolding Bound-defs`
unfoldable pub Bound-defs : Unit {0}
unfolding last_start last_due shown_within panel_after
Bound-defs = tt
