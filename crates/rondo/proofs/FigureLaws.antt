-- How the figures' answers cross the edge, one law a way: opening's refusal, a number or a figure, nothing, another refusal. Assumes nothing.
use Rattle.std.specs.Prelude.{Option, Some, None, Result, Ok, Err}
use Prim.Native.Nat.{ℕ}
use mathlib.Core.Path.{◌≡◌, refl, sym, ap, ◌∙◌}
use mathlib.Core.Logic.{◌≢◌}
use mathlib.Core.List.{List}
use lib.ListN.{set}
use lib.IntN.{ℤ}
use Rattle.model.specs.declared.ServiceFigure.{ServiceFigure}
use Rattle.model.specs.declared.Refusal.{Refusal}
use Rattle.model.specs.Words.{number_of}
use Rattle.model.specs.Image.{open_check}
use Rattle.model.specs.Figure.{PanelReply, not_shown, panel_on, panel, panel_reply, ServiceReply, not_served, service_on, service, service_reply}
use Rattle.flag_bits.specs.Bits.{bits}
use Rattle.flag_bits.specs.One.{lent_at}
use Rattle.query.proofs.Laws.{unopened}
use Rattle.figure.proofs.Laws.{panel-by, service-by}
use Rattle.rondo.specs.Figures.{panel_no, shown_as, whole_as, service_no, figure_words, service_words}

-- ---- the panel: its number, and what `shown` and `figure` hold, old and whole being what they held

abbrev pub Panelled : PanelReply → (n shown old : ℕ) (figure whole : ℤ) → Type 0
Panelled a n shown old figure whole = (n ≡ panel_no a) × ((shown ≡ shown_as a old) × (figure ≡ whole_as a whole))

module _ (a : PanelReply) (old : ℕ) (whole : ℤ) where
  -- opening's refusal, or another: both stay
  pub not-shown : {n : ℕ} → not_shown n ≡ a → Panelled a n old old whole whole
  unfolding panel_no shown_as whole_as
  not-shown e = (ap panel_no e, (ap (λ x. shown_as x old) e, ap (λ x. whole_as x whole) e))

  module _ {q : Result (Option ℤ) Refusal} (r : panel_reply q ≡ a) where
    pub number-shown : {z : ℤ} → q ≡ Ok (Some z) → Panelled a 0 1 old z whole
    unfolding panel_reply panel_no shown_as whole_as
    number-shown e = rw (← r, e) (refl, (refl, refl))

    pub nothing_shown : q ≡ Ok None → Panelled a 0 0 old whole whole
    unfolding panel_reply panel_no shown_as whole_as
    nothing_shown e = rw (← r, e) (refl, (refl, refl))

    pub panel_refused : {w : Refusal} {n : ℕ} → q ≡ Err w → n ≡ number_of w → Panelled a n old old whole whole
    unfolding panel_reply
    panel_refused e h = rw h (not-shown (ap panel_reply (sym e) ∙ r))

-- ---- service tools: the answer's number, and what the five words hold, old being what they held

abbrev pub Served : ServiceReply → (n : ℕ) (words old : List ℕ) → Type 0
Served a n words old = (n ≡ service_no a) × (words ≡ service_words a old)

module _ (a : ServiceReply) (old : List ℕ) where
  pub not_served_lem : {n : ℕ} → not_served n ≡ a → Served a n old old
  unfolding service_no service_words
  not_served_lem e = (ap service_no e, ap (λ x. service_words x old) e)

  module _ {q : Result (Option ServiceFigure) Refusal} (r : service_reply q ≡ a) where
    pub figure_served : {f : ServiceFigure} {ws : List ℕ} → q ≡ Ok (Some f) → ws ≡ figure_words f → Served a 0 ws old
    unfolding service_reply service_no service_words
    figure_served e h = rw (← r, e) (refl, h)

    pub nothing_served : q ≡ Ok None → Served a 0 (set old 0 0) old
    unfolding service_reply service_no service_words
    nothing_served e = rw (← r, e) (refl, refl)

    pub service_refused : {w : Refusal} {n : ℕ} → q ≡ Err w → n ≡ number_of w → Served a n old old
    unfolding service_reply
    service_refused e h = rw h (not_served_lem (ap service_reply (sym e) ∙ r))

-- ---- opening's number

module _ (s : List ℕ) (x k c j n : ℕ) (z : n ≢ 0) (e : n ≡ open_check s) where
  pub panel_unopened : not_shown n ≡ panel (lent_at s x) k c j
  unfolding panel_on
  panel_unopened = panel-by (lent_at s x) k c j (unopened s (bits 32 x) k c 0 18446744073709551615 n j z e)

  pub service_unopened : not_served n ≡ service (lent_at s x) k c j
  unfolding service_on
  service_unopened = service-by (lent_at s x) k c j (unopened s (bits 32 x) k c 0 18446744073709551615 n j z e)
