-- What `tie_figure::same_on_panel` promises: the answers are the two stores' panels; and the theorem on two stores about these answers. Assumes nothing.
use Rattle.std.specs.Prelude.{ℕ, ◌≡◌, refl, ◌≢◌, true, List, Option, Some, None, Result, Ok, Err, ℤ}
use Rattle.std.proofs.Common.{sym, ◌∙◌, arith}
use Rattle.model.specs.declared.Refusal.{Refusal}
use Rattle.model.specs.Figure.{PanelReply, not_shown, panel, panel_reply, last_on, reading, agree, SameOnPanel}
use Rattle.lookup.specs.Parts.{lent_of}
use Rattle.figure_theory.specs.Same.{same-on-panel}
use Rattle.tie_figure.specs.declared.Question.{Question}
use Rattle.model.specs.declared.Point.{Point}

-- what the panel answers to a question about the image s, and the last point that it looks at
abbrev pub answer_to : List ℕ → Question → PanelReply
answer_to s q = panel (lent_of s q.flags) q.handle.schema q.handle.column q.tier

abbrev pub last_asked : List ℕ → Question → Option Point
last_asked s q = last_on (reading (lent_of s q.flags) q.handle.schema q.handle.column q.tier)

-- x is answered to q about s, x' to q' about s'
pub record Agreed (s : List ℕ) (q : Question) (s' : List ℕ) (q' : Question) (x x' : Result (Option ℤ) Refusal) : Type 0 where
  pub one : panel_reply x ≡ answer_to s q
  pub other : panel_reply x' ≡ answer_to s' q'
  -- if neither is refused, and the last points agree in value, the answers are the same
  pub same : ((r : Refusal) → x ≢ Err r) → ((r : Refusal) → x' ≢ Err r) → agree (last_asked s q) (last_asked s' q') ≡ true → x ≡ x'

-- what is not refused is not a refusal's number
not_refused : (x : Result (Option ℤ) Refusal) → ((r : Refusal) → x ≢ Err r) → (n : ℕ) → panel_reply x ≢ not_shown n
unfolding panel_reply
not_refused (Ok (Some z)) h n e = let u : ◌≡◌ {A = ℕ} 0 1 = cc in omega arith
not_refused (Ok None) h n e = let u : ◌≡◌ {A = ℕ} 0 1 = cc in omega arith
not_refused (Err r) h n e = h r refl

-- an answer that is not a refusal is told by its reply
told : (x x' : Result (Option ℤ) Refusal) → ((r : Refusal) → x ≢ Err r) → ((r : Refusal) → x' ≢ Err r) → panel_reply x ≡ panel_reply x' → x ≡ x'
unfolding panel_reply
told (Ok (Some z)) (Ok (Some y)) h h' e = cc
told (Ok (Some z)) (Ok None) h h' e = cc
told (Ok (Some z)) (Err r) h h' e = absurd (h' r refl)
told (Ok None) (Ok (Some y)) h h' e = cc
told (Ok None) (Ok None) h h' e = refl
told (Ok None) (Err r) h h' e = absurd (h' r refl)
told (Err r) x' h h' e = absurd (h r refl)

pub agreed : (s : List ℕ) (q : Question) (s' : List ℕ) (q' : Question) (x x' : Result (Option ℤ) Refusal) → panel_reply x ≡ answer_to s q → panel_reply x' ≡ answer_to s' q' → Agreed s q s' q' x x'
unfolding SameOnPanel
agreed s q s' q' x x' e e' = record { one = e; other = e'; same = same }
  where
    same : ((r : Refusal) → x ≢ Err r) → ((r : Refusal) → x' ≢ Err r) → agree (last_asked s q) (last_asked s' q') ≡ true → x ≡ x'
    same h h' a =
        let l = lent_of s q.flags in
        let l' = lent_of s' q'.flags in
        let both = same-on-panel l l' q.handle.schema q.handle.column q.tier q'.handle.schema q'.handle.column q'.tier in
        told x x' h h' (e ∙ both (λ n. rw e at (not_refused x h n)) (λ n. rw e' at (not_refused x' h' n)) a ∙ sym e')
