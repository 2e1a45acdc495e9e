-- The windows that are due are the newest numbers that a tier's ring holds; so a list of points, one for each of those numbers, is what the statement's `each`
-- asks for if every closed one's value is near enough. Assumes nothing.
use Prim.Native.Nat.{ℕ, zero, suc, ◌+◌, ◌-◌, ◌*◌, ◌/◌, ◌≤◌, ◌<◌, min}
use Rattle.std.proofs.Common.{mul-le-mul_right, div-mul-le_self, ap}
use Rattle.std.proofs.Math.Nat.{lt-div-mul-add}
use native.Mathlib.Omega.{arith}
use Rattle.std.specs.Prelude.{◌≡◌, refl, Bool, true, false, not, ◌||◌, List}
use Rattle.std.specs.Float.{binary64}
use Rattle.std.specs.Float.Ieee.{of_bits}
use Rattle.demand.specs.Demand.{Sample, first_of, last_of, count, starts, begun, is_closed, newest_windows, in_window, sum_of, within, each}
use Rattle.laws.specs.Tests.{yes_eq, le_is}
use Rattle.ring_theory.specs.Numbers.{div_is}
use Rattle.ring_theory.specs.Hold.{first_held}
use Rattle.ring_theory.specs.Read.{pts}
use Rattle.sample_theory.specs.Schedule.{touched}

-- E ticks, d apart, from stamp a * i on; L ticks are a window: those that a tick has touched have begun
begun-is : (d i a L E : ℕ) (xs : List Sample) → 0 < d → 0 < L → 0 < E → i ≡ L * d → first_of xs ≡ a * i → last_of xs + d ≡ a * i + E * d
    → begun i xs ≡ touched L E
unfolding begun touched
begun-is d i a L zero xs zd z_l zE i-is first last = absurd (omega arith)
begun-is d i a L (suc x) xs zd z_l zE i-is first last =
    let q = x / L in
    let b : q * L * d ≤ x * d = mul-le-mul_right d (div-mul-le_self x L) in
    let c : suc x * d ≤ (q * L + L) * d = mul-le-mul_right d (lt-div-mul-add {a = x} z_l) in
    let l : last_of xs - first_of xs ≡ x * d = omega (arith, first, last) in
    rw l (ap suc (div_is q i (x * d) (rw i-is (omega arith)) (rw i-is (omega arith))))

pub due-is : (d i n a E L : ℕ) (xs : List Sample) → 0 < d → 0 < L → 0 < E → i ≡ L * d → first_of xs ≡ a * i → last_of xs + d ≡ a * i + E * d
    → newest_windows i n xs ≡ starts i (first_held n a (touched L E) * i) (a + touched L E - first_held n a (touched L E))
unfolding newest_windows
due-is d i n a E L xs zd z_l zE i-is first last = rw (begun-is d i a L E xs zd z_l zE i-is first last, first) (same (touched L E))
  where
    same : (z : ℕ) → starts i (a * i + i * (z - min z n)) (min z n) ≡ starts i (first_held n a z * i) (a + z - first_held n a z)
    same z =
        let h : first_held n a z ≡ a + (z - min z n) = unfold first_held in (omega arith) in
        let k : a + z - (a + (z - min z n)) ≡ min z n = omega arith in
        let s : a * i + i * (z - min z n) ≡ (a + (z - min z n)) * i = omega arith in
        rw (h, k) (ap (λ (t : ℕ). starts i t (min z n)) s)

closed-ends : (d i : ℕ) (xs : List Sample) (w : ℕ) → is_closed d i xs w ≡ true → w + i ≤ last_of xs + d
unfolding is_closed
closed-ends d i xs w e = le_is (w + i) (last_of xs + d) e

-- the points of n numbers from g on
pub each-is : (d c i k : ℕ) (xs : List Sample) (X : ℕ → ℕ) (g n : ℕ)
    → ((q : ℕ) → g ≤ q → q < g + n → q * i + i ≤ last_of xs + d → within k (of_bits binary64 (X q)) (sum_of (in_window c i (q * i)) xs) (count (in_window c i (q * i)) xs) ≡ true)
    → each d c i k xs (starts i (g * i) n) (pts X i g n) ≡ true
unfolding each starts pts
each-is d c i k xs X g zero h = refl
each-is d c i k xs X g (suc n) h =
    let e : g * i + i ≡ suc g * i = omega arith in
    rw (yes_eq (g * i), bounded (is_closed d i xs (g * i)) refl, e) (each-is d c i k xs X (suc g) n (λ q x y. h q (omega arith) (omega arith)))
  where
    bounded : (b : Bool) → is_closed d i xs (g * i) ≡ b
        → (not (is_closed d i xs (g * i)) || within k (of_bits binary64 (X g)) (sum_of (in_window c i (g * i)) xs) (count (in_window c i (g * i)) xs)) ≡ true
    bounded false e = rw e
    bounded true e = rw e (h g (omega arith) (omega arith) (closed-ends d i xs (g * i) e))
