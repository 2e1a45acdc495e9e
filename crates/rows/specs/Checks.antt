-- What a checked row says, in document 01's numbers, and how it is taken apart. Assumes nothing.
use Rattle.std.specs.Prelude.{ℕ, suc, ◌≡◌, refl, Bool, true, false, Result, Ok, Err}
use Rattle.std.proofs.Common.{sym, ap, ◌∙◌}
use Rattle.model.specs.declared.Row.{Row}
use Rattle.model.specs.Words.{number_of}
use Rattle.model.specs.declared.Refusal.{Refusal}
use Rattle.model.specs.Image.{unless}
use Rattle.laws.specs.Checks.{unless_zero}
use Rattle.rows.specs.First.{refusal_no}

-- 0, or the refusal's number
abbrev pub checked_no : Result Row Refusal → ℕ
checked_no (Ok r) = 0
checked_no (Err w) = number_of w

abbrev pub row_in : Result Row Refusal → Row → Row
row_in (Ok r) q = r
row_in (Err w) q = q

-- c is row r, checked by a check whose number is n
pub record Checks (c : Result Row Refusal) (r : Row) (n : ℕ) : Type 0 where
  pub number : checked_no c ≡ n
  pub row : row_in c r ≡ r

pub good : {c : Result Row Refusal} {r q : Row} {n : ℕ} → Checks c r n → c ≡ Ok q → (n ≡ 0) × (q ≡ r)
good {r = r} h e = (sym h.number ∙ ap checked_no e, ap (λ (x : Result Row Refusal). row_in x r) (sym e) ∙ h.row)

pub refused : {c : Result Row Refusal} {r : Row} {n : ℕ} {w : Refusal} → Checks c r n → c ≡ Err w → number_of w ≡ n
refused h e = ap checked_no (sym e) ∙ h.number

pub not_good : {c : Result Row Refusal} {w : Refusal} → c ≡ Err w → checked_no c ≡ 0 → ⊥
not_good {w = w} e z = refusal_no w (ap checked_no (sym e) ∙ z)

-- the same where the check is one test
pub passes : {c : Result Row Refusal} {r q : Row} (b : Bool) (n : ℕ) → Checks c r (unless b (suc n)) → c ≡ Ok q → (b ≡ true) × (q ≡ r)
passes b n h e = let g = good h e in (unless_zero n g.0, g.1)

pub fails : {c : Result Row Refusal} {r : Row} (b : Bool) (n : ℕ) {w : Refusal} → Checks c r (unless b n) → c ≡ Err w → b ≡ false
unfolding unless
fails true n {w} h e = absurd (refusal_no w (refused h e))
fails false n h e = refl
