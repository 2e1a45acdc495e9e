-- What the proofs of tie rest on: what calls, a run and calls leave, and the whole of `demand` by what each call ensures. Assumes nothing.
use Rattle.std.specs.Prelude.{Result}
use Prim.Native.Nat.{ℕ, ◌-◌, ◌/◌, ◌^◌}
use mathlib.Core.Path.{◌≡◌, refl, sym, ap, ◌∙◌}
use mathlib.Core.List.{List, [], ◌∷◌, ◌++◌}
use lib.ListN.{length, take}
use lib.Seq.{sets}
use Rattle.model.specs.declared.Flags.{Flags}
use Rattle.model.specs.Lent.{Lent, creation}
use Rattle.model.specs.Query.{query, replied_by}
use Rattle.model.specs.Store.{Call, call, after, consolidate_call, queried_reply}
use Rattle.demand.specs.Demand.{handed_out, created, up_to_run, after_run, answers}
use Rattle.lookup.specs.Parts.{lent_of}
use Rattle.image_theory.specs.Calls.{after-append}
use Rattle.fetch.specs.Fetch.{words}
use Rattle.tie_calls.specs.Encoded.{calls_in}
use Rattle.tie.specs.Kept.{situation, Kept, kept}
use Rattle.model.specs.declared.Found.{Found}
use Rattle.model.specs.declared.Refusal.{Refusal}

-- ---- calls, a run, calls

pub carried : (l : Lent) (cs ds : List Call) {a b e : Lent} → a ≡ after l cs → b ≡ (call a consolidate_call).lent → e ≡ after b ds
    → e ≡ after (after l (cs ++ consolidate_call ∷ [])) ds
carried l cs ds p q r =
    r ∙ ap (λ (x : Lent). after x ds) (q ∙ ap (λ (x : Lent). (call x consolidate_call).lent) p ∙ sym (after-append cs l (consolidate_call ∷ []) ∙ unfold after in refl))

-- ---- the whole

-- creation, the calls and the run, the query, the points: by what each call ensures
pub demanded : (plan buf : List ℕ) (f : Flags) (before between : List ℕ) (c k : ℕ) {image₀ image : List ℕ} {f₀ f₁ : Flags} (q : Result Found Refusal) {old out : List ℕ} {n : ℕ}
    → lent_of image₀ f₀ ≡ creation plan (lent_of buf f)
    → lent_of image f₁ ≡ after (after (lent_of image₀ f₀) (calls_in before ++ consolidate_call ∷ [])) (calls_in between)
    → replied_by image q ≡ query (lent_of image f₁) 0 c k 0 (2 ^ 64 - 1)
    → (n ≡ length (take (length old / 2) (handed_out (queried_reply image q)))) × (out ≡ sets old 0 (words (take (length old / 2) (handed_out (queried_reply image q)))))
    → Kept (situation plan buf f before between c k) (lent_of image f₁) old out n
unfolding after_run created up_to_run answers queried_reply call
demanded plan buf f before between c k {image₀} {image} {f₀} {f₁} q {old} {out} {n} made carried asked handed =
    let left = carried ∙ ap (λ (l : Lent). after (after l (calls_in before ++ consolidate_call ∷ [])) (calls_in between)) made in
    let reply = asked ∙ ap (λ (l : Lent). query l 0 c k 0 (2 ^ 64 - 1)) left in
    kept (situation plan buf f before between c k) (lent_of image f₁) old out n left (rw reply at handed)
