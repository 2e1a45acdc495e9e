-- One flag of a number of flags: set by `|` with its bit. Assumes nothing.
use Rattle.std.specs.Prelude.{ℕ, zero, suc, ◌+◌, ◌*◌, ◌/◌, ◌%◌, ◌^◌, ◌≤◌, ◌<◌, max, ◌≡◌, refl, Bool, true, false, List, get_or, set}
use Rattle.std.proofs.Common.{arith, one-mul, mod-eq_of_lt, sym, ap, ◌∙◌}
use Rattle.std.proofs.Math.Nat.{pow-zero, pow-succ', pow-le-pow_right, max_comm, max-eq_left, max-zero}
use Rattle.std.proofs.lemmas.List.{set-get_or}
use Rattle.std.specs.Int.Bits.{bit_or, or_step, or_zero_r}
use Rattle.model.specs.Lent.{Lent}
use Rattle.flag_bits.specs.Bits.{bits}

-- an image, and the flags whose number is x
abbrev pub lent_at : List ℕ → ℕ → Lent
lent_at s x = record { image = s; flags = bits 32 x }

-- a bit set by `|`, whether it was set or not
pub bit_set : (k x i : ℕ) → i < k → bits k (bit_or x (2 ^ i)) ≡ set (bits k x) i true
unfolding bits
bit_set zero x i l = elim l [ ]
bit_set (suc k) x zero l =
    let one : max (x % 2) 1 ≡ 1 = max_comm (x % 2) 1 ∙ max-eq_left (omega arith) in
    let v : bit_or x 1 ≡ x / 2 * 2 + 1 = omega (arith, or_step x 1, or_zero_r (x / 2), one) in
    let odd : bit_or x 1 % 2 ≡ 1 = omega (arith, v) in
    let half : bit_or x 1 / 2 ≡ x / 2 = omega (arith, v) in
    rw (pow-zero, odd, half)
bit_set (suc k) x (suc i) l =
    let half : 2 * 2 ^ i / 2 ≡ 2 ^ i = omega arith in
    let even : 2 * 2 ^ i % 2 ≡ 0 = omega arith in
    let v : bit_or x (2 * 2 ^ i) ≡ bit_or (x / 2) (2 ^ i) * 2 + x % 2 = rw (half, even, max-zero) at (or_step x (2 * 2 ^ i)) in
    let low : bit_or x (2 * 2 ^ i) % 2 ≡ x % 2 = omega (arith, v) in
    let high : bit_or x (2 * 2 ^ i) / 2 ≡ bit_or (x / 2) (2 ^ i) = omega (arith, v) in
    rw (pow-succ', low, high, bit_set k (x / 2) i (omega arith))

-- a bit below 32, shifted up in 32 bits
pub shifted : (i : ℕ) → i < 32 → 1 * 2 ^ i % 4294967296 ≡ 2 ^ i
shifted i h =
    let two : 0 < 2 = omega arith in
    let top : i ≤ 31 = omega arith in
    let low : 2 ^ i ≤ 2 ^ 31 = pow-le-pow_right two top in
    let fits : 2 ^ i < 4294967296 = omega arith in
    rw (one-mul, mod-eq_of_lt fits)

-- a flag that stays
pub flag_stays : (bs : List Bool) (i : ℕ) (b : Bool) → get_or bs i false ≡ b → bs ≡ set bs i b
flag_stays bs i b e = sym (set-get_or bs i false) ∙ ap (set bs i) e

-- a flag that may be set and is not, was not
pub not_set : (b : Bool) → (b ≡ true → false ≡ true) → b ≡ false
not_set true h = sym (h refl)
not_set false h = refl
