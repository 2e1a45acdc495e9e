-- A check is a list of tests, each with the number of its refusal: it passes where each of them does, and only there. Assumes nothing.
use Rattle.std.specs.Prelude.{ℕ, zero, suc, ◌≡◌, refl, Bool, true, false, List, [], ◌∷◌}
use Rattle.std.proofs.Common.{arith}
use Rattle.model.specs.Image.{unless, first}

-- the number of test i, counted from 0
abbrev pub test : List ℕ → ℕ → ℕ
test [] i = 0
test (n ∷ ns) zero = n
test (n ∷ ns) (suc i) = test ns i

pub each_zero : (ns : List ℕ) → first ns ≡ 0 → (i : ℕ) → test ns i ≡ 0
unfolding first
each_zero [] h i = refl
each_zero (zero ∷ ns) h zero = refl
each_zero (zero ∷ ns) h (suc i) = each_zero ns h i
each_zero (suc n ∷ ns) h i = absurd (omega arith)

-- and back, with all of them in a row
abbrev pub Zeros : List ℕ → Type 0
Zeros [] = Unit {0}
Zeros (n ∷ ns) = (n ≡ 0) × Zeros ns

pub all_zero : (ns : List ℕ) → Zeros ns → first ns ≡ 0
unfolding first
all_zero [] z = refl
all_zero (zero ∷ ns) z = all_zero ns z.1
all_zero (suc n ∷ ns) z = absurd (omega (arith, z.0))

-- one test
pub unless_zero : {b : Bool} (n : ℕ) → unless b (suc n) ≡ 0 → b ≡ true
unfolding unless
unless_zero {b = true} n h = refl
unless_zero {b = false} n h = absurd (omega arith)

pub unless-on : {b : Bool} (n : ℕ) → b ≡ true → unless b n ≡ 0
unfolding unless
unless-on n e = rw e
