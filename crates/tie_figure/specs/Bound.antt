-- What `tie_figure::panel_after` promises: the bound on the panel's figure about what the code leaves and answers. Assumes nothing.
use Rattle.std.specs.Prelude.{ℕ, ◌≡◌, List, [], ◌∷◌, ◌++◌, T, Option, Result, ℤ}
use Rattle.std.proofs.Common.{ap, ◌∙◌}
use Rattle.model.specs.declared.Flags.{Flags}
use Rattle.model.specs.Lent.{Lent, creation}
use Rattle.model.specs.Store.{after, consolidate_call}
use Rattle.model.specs.Figure.{panel, panel_reply}
use Rattle.demand.specs.Demand.{is_closed, in_window, sum_of, count, Situation, finest, created, up_to_run, after_run, samples, tier_interval}
use Rattle.demand.specs.PanelBound.{last_due, shown_within, panel_after}
use Rattle.demand_proved.specs.Stronger.{Supposition}
use Rattle.figure_bound.proofs.Theorem.{stronger}
use Rattle.lookup.specs.Parts.{lent_of}
use Rattle.tie_calls.specs.Encoded.{calls_in}
use Rattle.tie.specs.Kept.{situation}
use Rattle.model.specs.declared.Refusal.{Refusal}

-- l is left, and x is answered
pub record Near (s : Situation) (l : Lent) (x : Result (Option ℤ) Refusal) : Type 0 where
  -- for every situation: image and flags are what the calls leave, the answer is the panel's
  pub left : l ≡ after (after_run s) s.between
  pub asked : panel_reply x ≡ panel_after s
  -- under the supposition, if the last window that is due is closed: a number within k / 4,096 + 1 / 2 of the exact mean of that window's samples
  pub promised : Supposition s → T (is_closed (finest s) (tier_interval s) (samples s) (last_due s))
      → T (shown_within s.tier (panel_reply x) (sum_of (in_window s.column (tier_interval s) (last_due s)) (samples s)) (count (in_window s.column (tier_interval s) (last_due s)) (samples s)))

-- creation, the calls and the run, the panel: by what each call ensures
pub near : (plan buf : List ℕ) (f : Flags) (before between : List ℕ) (c k : ℕ) {image₀ image : List ℕ} {f₀ f₁ : Flags} (x : Result (Option ℤ) Refusal)
    → lent_of image₀ f₀ ≡ creation plan (lent_of buf f)
    → lent_of image f₁ ≡ after (after (lent_of image₀ f₀) (calls_in before ++ consolidate_call ∷ [])) (calls_in between)
    → panel_reply x ≡ panel (lent_of image f₁) 0 c k
    → Near (situation plan buf f before between c k) (lent_of image f₁) x
unfolding after_run created up_to_run panel_after
near plan buf f before between c k {image₀} {image} {f₀} {f₁} x made carried asked =
    let s = situation plan buf f before between c k in
    let left = carried ∙ ap (λ (l : Lent). after (after l (calls_in before ++ consolidate_call ∷ [])) (calls_in between)) made in
    let e = asked ∙ ap (λ (l : Lent). panel l 0 c k) left in
    record { left = left; asked = e; promised = λ h closed. rw e (stronger s h closed) }
