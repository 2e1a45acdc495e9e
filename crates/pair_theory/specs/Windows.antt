-- The windows of a pair whose source took numbers without gaps. The model finds them by repeated search for the next start over the source's stamps; here
-- they are the consecutive windows that the numbers of the range fall in, each found once, ascending. The range may start and end inside a window.
-- Assumes nothing.
use Prim.Native.Nat.{ℕ, zero, suc, ◌+◌, ◌-◌, ◌*◌, ◌/◌, ◌≤◌, ◌<◌}
use Rattle.std.proofs.Common.{mul-one, mul-le-mul_left, le-div_iff_mul-le, div-mul-le_self}
use Rattle.std.proofs.Math.Nat.{mul-le-mul_right, mul-div-mul_right, lt-div-mul-add}
use native.Mathlib.Omega.{arith}
use Rattle.std.specs.Prelude.{◌≡◌}
use Rattle.std.proofs.Math.Path.{ap}
use mathlib.Core.List.{List, [], ◌∷◌}
use Rattle.model.specs.declared.ConsolidationFn.{ConsolidationFn}
use Rattle.model.specs.Ring.{Ring}
use Rattle.model.specs.Window.{Job, window_of}
use Rattle.model.specs.Consolidate.{lower, lower_if, is_next, least_from, next_window, windows_from, windows}
use Rattle.laws.specs.Tests.{yes_le, yes_lt, no_le, no_lt}
use Rattle.ring_theory.specs.Numbers.{slots_of, div_is, mul-lt}
use Rattle.ring_theory.specs.Hold.{State, first_held, Reads}
use Rattle.ring_theory.proofs.Hold.{reads}
use Rattle.ring_theory.specs.Read.{InRange}
use Rattle.ring_theory.proofs.Read.{read_cut, early_out, late_out, held_in_lem}

-- a source, what is made of it, the destination's interval and the range that is read
abbrev pub job : Ring → ConsolidationFn → ℕ → ℕ → ℕ → Job
job A fn D lo hi = record { source = A; function = fn; long = D; start = lo; end = hi }

-- j windows of length D, from window number x on
unfoldable pub wins : ℕ → ℕ → ℕ → List ℕ
wins D x zero = []
wins D x (suc j) = x * D ∷ wins D (suc x) j

-- ---- the windows that a range of numbers falls in

-- r numbers to a window: the numbers from g up to h lie in the j windows from x on, and each of these has one of them
pub record Spans (r g h x j : ℕ) : Type 0 where
  pub inside : (p : ℕ) → g ≤ p → p < h → (x * r ≤ p) × (p < (x + j) * r)
  pub hit : (y : ℕ) → x ≤ y → y < x + j → (g < suc y * r) × (y * r < h) × (g < h)

-- any numbers, one at least
pub spans_any : (r g k : ℕ) → 0 < r → g ≤ k → Spans r g (suc k) (g / r) (suc (k / r - g / r))
spans_any r g k z l = record { inside = λ p x y. (omega (arith, div-mul-le_self g r), in_last p y); hit = λ y x w. (first y x, last y w, omega arith) }
  where
    rise : g / r ≤ k / r
    rise = (le-div_iff_mul-le z).1 (omega (arith, div-mul-le_self g r))

    many : g / r + suc (k / r - g / r) ≡ suc (k / r)
    many = omega (arith, rise)

    in_last : (p : ℕ) → p < suc k → p < (g / r + suc (k / r - g / r)) * r
    in_last p y = rw many (omega (arith, lt-div-mul-add {a = k} z))

    first : (y : ℕ) → g / r ≤ y → g < suc y * r
    first y x = omega (arith, mul-le-mul_right r x, lt-div-mul-add {a = g} z)

    last : (y : ℕ) → y < g / r + suc (k / r - g / r) → y * r < suc k
    last y w = let q : y ≤ k / r = omega (arith, many) in omega (arith, mul-le-mul_right r q, div-mul-le_self k r)

-- no more windows than numbers
pub spans_few : {r g h x j : ℕ} → 0 < r → Spans r g h x j → j ≤ h - g
spans_few {j = zero} z s = omega arith
spans_few {x = x} {j = suc zero} z s = omega (arith, (s.hit x (omega arith) (omega arith)).2)
spans_few {r} {x = x} {j = suc (suc i)} z s =
    let a = s.hit x (omega arith) (omega arith) in
    let b = s.hit (x + suc i) (omega arith) (omega arith) in
    let c : i * 1 ≤ i * r = mul-le-mul_left i z in
    omega (arith, a.0, b.1, c, mul-one i)

-- the window of number p
pub home : (r d p : ℕ) → 0 < d → window_of (r * d) (p * d) ≡ p / r * (r * d)
unfolding window_of
home r d p z = ap (λ (y : ℕ). y * (r * d)) (mul-div-mul_right p r z)
