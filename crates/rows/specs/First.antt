-- A check's answer: as a list of tests, where it stops and where it goes on; as a `Result`, by its number. Assumes nothing.
use Rattle.std.specs.Prelude.{ℕ, zero, suc, ◌≡◌, refl, Bool, false, List, [], ◌∷◌, Result, Ok, Err}
use Rattle.std.proofs.Common.{arith, sym, ap, ◌∙◌}
use Rattle.model.specs.declared.Refusal.{Refusal}
use Rattle.model.specs.Words.{number_of, number_pos, outcome_no}
use Rattle.model.specs.Image.{unless, first}
pub use Rattle.laws.specs.Checks.{unless-on}

pub unless_stop : {b : Bool} (n : ℕ) → b ≡ false → unless b n ≡ n
unfolding unless
unless_stop n e = rw e

pub first_stop : (n : ℕ) (ns : List ℕ) → (n ≡ 0 → ⊥) → first (n ∷ ns) ≡ n
unfolding first
first_stop zero ns h = absurd (h refl)
first_stop (suc n) ns h = refl

pub first_on : {n : ℕ} (ns : List ℕ) → n ≡ 0 → first (n ∷ ns) ≡ first ns
unfolding first
first_on ns e = rw e

pub first_one : (n : ℕ) → first (n ∷ []) ≡ n
unfolding first
first_one zero = refl
first_one (suc n) = refl

-- no refusal has the number 0
pub refusal_no : (w : Refusal) → number_of w ≡ 0 → ⊥
refusal_no w e = omega (arith, number_pos w)

-- an answer that is a refusal has not the number 0
pub not_accepted : {o : Result (Unit {0}) Refusal} {w : Refusal} → o ≡ Err w → outcome_no o ≡ 0 → ⊥
not_accepted {w = w} e z = refusal_no w (ap outcome_no (sym e) ∙ z)

pub accepted : {o : Result (Unit {0}) Refusal} → o ≡ Ok tt → outcome_no o ≡ 0
accepted e = ap outcome_no e
