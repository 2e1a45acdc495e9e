-- What creation leaves, by the way that its check went. Assumes nothing.
use Prim.Native.Nat.{ℕ, zero, suc, ◌≤◌, ◌<◌}
use Rattle.std.specs.Prelude.{◌≡◌, refl, Bool, false, List, ◌++◌, length, drop, replicate, leb}
use Rattle.std.proofs.Math.Path.{sym}
use Rattle.std.proofs.Common.{◌∙◌, le-leb}
use Rattle.std.proofs.lemmas.Bool.{lt-leb}
use Rattle.model.specs.Bytes.{get}
use Rattle.model.specs.Image.{unless, row_count, image_length, plan_check, create_check, fresh_image}
use Rattle.model.specs.Lent.{Lent, create_on, creation}
use Rattle.rows.specs.First.{first_stop, first_on, first_one, unless-on, unless_stop}

module _ (p b : List ℕ) where
  pub create_plan : {x : ℕ} → x ≡ plan_check p → (x ≡ 0 → ⊥) → x ≡ create_check p b
  unfolding create_check
  create_plan e f = e ∙ sym (first_stop (plan_check p) _ (λ z. f (e ∙ z)))

  past_plan : plan_check p ≡ 0 → create_check p b ≡ unless (leb (image_length p) (length b)) 9
  unfolding create_check
  past_plan e = first_on _ e ∙ first_one _

  pub create_9 : plan_check p ≡ 0 → length b < image_length p → 9 ≡ create_check p b
  create_9 e h = sym (past_plan e ∙ unless_stop 9 (lt-leb _ _ h))

  pub create_0 : plan_check p ≡ 0 → image_length p ≤ length b → 0 ≡ create_check p b
  create_0 e h = sym (past_plan e ∙ unless-on 9 (le-leb _ _ h))

module _ (p : List ℕ) (l : Lent) where
  pub refused_is : (x : ℕ) → x ≡ create_check p l.image → (x ≡ 0 → ⊥) → l ≡ creation p l
  unfolding creation create_on
  refused_is zero e f = absurd (f refl)
  refused_is (suc x) e f = rw (← e)

  pub accepted_is : {n : ℕ} {image : List ℕ} {flags : List Bool} → 0 ≡ create_check p l.image → n ≡ get 4 p 12
      → image ≡ fresh_image p ++ drop (image_length p) l.image → flags ≡ replicate n false ++ drop n l.flags → record { image = image; flags = flags } ≡ creation p l
  unfolding creation create_on row_count
  accepted_is e en a b = rw (← e, a, b, en)
