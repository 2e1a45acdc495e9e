-- What the proofs of cycle rest on: what creation, calls, an opening and calls leave, by what each ensures; and a question's answer. Assumes nothing.
use Rattle.std.specs.Prelude.{Result}
use Prim.Native.Nat.{ℕ}
use mathlib.Core.Path.{◌≡◌, refl, sym, ap, ◌∙◌}
use mathlib.Core.Bool.{Bool, true, false}
use mathlib.Core.List.{List, [], ◌∷◌}
use Rattle.model.specs.declared.Flags.{Flags}
use Rattle.model.specs.Lent.{Lent, creation, opening}
use Rattle.model.specs.Query.{query, query_auto, replied_by}
use Rattle.model.specs.Store.{open_call, read_or, call, after, queried_reply}
use Rattle.reopening.specs.Reopening.{created, reopened}
use Rattle.image_theory.specs.Calls.{after-append}
use Rattle.lookup.specs.Parts.{lent_of}
use Rattle.tie_calls.specs.Encoded.{calls_in}
use Rattle.tie_reopening.specs.declared.Question.{Question}
use Rattle.tie_reopening.specs.Resumed.{history, asks}
use Rattle.model.specs.declared.Found.{Found}
use Rattle.model.specs.declared.Refusal.{Refusal}

one-opening : (l : Lent) (fs : List Bool) → after l (open_call fs ∷ []) ≡ opening (record { image = l.image; flags = fs })
unfolding after call
one-opening l fs = refl

-- the flags that the calls before the opening leave, f₁, are lost
pub carried : (plan buf : List ℕ) (f : Flags) (before : List ℕ) (handed : Flags) (next : List ℕ) {s₀ s₁ s₂ : List ℕ} {f₀ f₁ f₂ f₃ : Flags}
    → lent_of s₀ f₀ ≡ creation plan (lent_of buf f) → lent_of s₁ f₁ ≡ after (lent_of s₀ f₀) (calls_in before) → lent_of s₁ f₂ ≡ opening (lent_of s₁ handed)
    → lent_of s₂ f₃ ≡ after (lent_of s₁ f₂) (calls_in next) → lent_of s₂ f₃ ≡ after (reopened (history plan buf f before handed)) (calls_in next)
unfolding reopened created
carried plan buf f before handed next {s₁ = s₁} {f₂ = f₂} made ran opened went =
    let l = creation plan (lent_of buf f) in
    let image : s₁ ≡ (after l (calls_in before)).image = ap (λ (x : Lent). x.image) (ran ∙ ap (λ (x : Lent). after x (calls_in before)) made) in
    let there : lent_of s₁ f₂ ≡ opening (lent_of (after l (calls_in before)).image handed) = opened ∙ ap (λ (s : List ℕ). opening (lent_of s handed)) image in
    went ∙ ap (λ (x : Lent). after x (calls_in next)) (there ∙ sym (after-append (calls_in before) l (open_call handed.wrapped ∷ []) ∙ one-opening (after l (calls_in before)) handed.wrapped))

module _ (s : List ℕ) (f : Flags) (q : Question) (r : Result Found Refusal) where
  pub asked_auto : q.automatic ≡ true → replied_by s r ≡ query_auto (lent_of s f) q.handle.schema q.handle.column q.start q.end
      → queried_reply s r ≡ (call (lent_of s f) (asks q)).reply
  unfolding queried_reply asks call
  asked_auto e h = rw e (ap read_or h)

  pub asked-tier : q.automatic ≡ false → replied_by s r ≡ query (lent_of s f) q.handle.schema q.handle.column q.tier q.start q.end
      → queried_reply s r ≡ (call (lent_of s f) (asks q)).reply
  unfolding queried_reply asks call
  asked-tier e h = rw e (ap read_or h)
