-- A pattern as a number of binary64's smallest values, 2^-1074, and what is nearest to it; the bound as a bound on the pattern; division to the nearest, ties to
-- even, by one sum and one shift. Assumes nothing.
use Prim.Native.Nat.{ℕ, zero, suc, ◌+◌, ◌-◌, ◌*◌, ◌/◌, ◌%◌, ◌^◌, ◌≤◌, ◌<◌, compare, Ordering}
use native.Mathlib.Nat.{two-pow-succ, le_trans, le_of_lt, lt_of_le_of_lt, le-add_right, mul-le-mul_left, lt_of_lt_of_le, mul-one, mul_assoc, mul-le-mul_right}
use native.Mathlib.Nat.{mul-lt-mul_of_pos_right, add-mul, one-mul, suc-mul, div-one, mod-one, div-eq_of_lt, mod-eq_of_lt, mod-lt, div-add-mod'}
use native.Mathlib.Omega.{arith}
use native.Mathlib.Decide.{dec_lt}
use mathlib.Core.Path.{◌≡◌, refl, sym, ap, ◌∙◌, subst}
use mathlib.Core.Bool.{Bool, true, false, not, cond}
use borrow.Author.Tests.{le-leb, lt-leb, ne_eqb}
use lib.Dec.{T, is_le, compare_is_eq, leb, eqb, leb→le, nleb→lt, eqb→eq, eqb_refl, lit<, lit≤, le→leb}
use lib.Arith.{digits_div}
use lib.Pow.{pow-add, pow_pos, pow_mono, shl_lt, shr_le, mod-mod-pow}
use lib.IntN.{ℤ, pos, nat_abs, neg_ℤ, ◌-ℤ◌, +ℤ_idl}
use lib.Signed.{mag}
use lib.Ieee.{nan, inf, binary64, of_fields, of_bits, odd, nearest}
use lib.Ieee.Fits.{nearest-le}
use lib.Ieee.Exact.{HasValue, odd_sign}
use lib.Ieee.Nearest.{closest, closest_same}
use mir.Syntax.{w64}
use mir.Val.{SFits, to_z, of_z}
use mir.Facts.{to_z_pos, to_z-of_z}
use Rattle.model.specs.Words.{signed}
use Rattle.model.specs.Figure.{on_panel, nearest_whole, shows, not_shown, shown_value}
use Rattle.figure_theory.specs.Whole.{whole_of, on-panel_of}

-- ---- w / m to the nearest, m being twice h

div-at : (n q m r : ℕ) → n ≡ q * m + r → r < m → n / m ≡ q
div-at n q m r e h = ap (λ (x : ℕ). x / m) e ∙ digits_div q h

module _ (q r h m : ℕ) (M : m ≡ h + h) (H : 0 < h) (R : r < m) where
  tie : (p : ℕ) → p < 2 → r * 2 ≡ m → (q * m + r + (h - 1) + p) / m ≡ q + p
  tie zero P e = div-at _ (q + 0) m (m - 1) (omega (arith, add-mul q 0 m)) (omega arith)
  tie (suc zero) P e = div-at _ (q + 1) m 0 (omega (arith, add-mul q 1 m)) (omega arith)
  tie (suc (suc p)) P e = omega arith

  added : (o : Ordering) → (T (is_le o) → r * 2 ≤ m) → (T (not (is_le o)) → m < r * 2) → (T (compare_is_eq o) → r * 2 ≡ m) → (r * 2 ≡ m → T (compare_is_eq o))
      → (q * m + r + (h - 1) + q % 2) / m ≡ nearest q o
  added Ordering.lt le gt eq is = div-at _ q m (r + (h - 1) + q % 2) (omega arith) (omega (arith, le tt, is))
  added Ordering.eq le gt eq is = tie (q % 2) (omega arith) (eq tt)
  added Ordering.gt le gt eq is = div-at _ (suc q) m (r + (h - 1) + q % 2 - m) (rw suc-mul (omega (arith, gt tt))) (omega (arith, gt tt))

half_of : (k : ℕ) → 1 ≤ k → 2 ^ k ≡ 2 ^ (k - 1) + 2 ^ (k - 1)
half_of zero h = elim h [ ]
half_of (suc k) h = two-pow-succ k ∙ ap (λ (x : ℕ). 2 ^ x + 2 ^ x) (sym (suc_less k))
  where
    suc_less : (k : ℕ) → suc k - 1 ≡ k
    suc_less k = omega arith

-- just under a half is added, a unit more where the whole part is odd, and the rest cut
pub nearest_added : (w k : ℕ) → 1 ≤ k → (w + (2 ^ (k - 1) - 1) + w / 2 ^ k % 2) / 2 ^ k ≡ closest w (2 ^ k)
nearest_added w k K =
    let m = 2 ^ k in
    let M : 0 < m = pow_pos k in
    let r = w % m * 2 in
    ap (λ (x : ℕ). (x + (2 ^ (k - 1) - 1) + w / m % 2) / m) (sym (div-add-mod' w m))
    ∙ added (w / m) (w % m) (2 ^ (k - 1)) m (half_of k K) (pow_pos (k - 1)) (mod-lt w M) (compare r m)
    (leb→le r m) (nleb→lt r m) (eqb→eq r m) (λ (e : r ≡ m). subst (λ (x : ℕ). T (eqb r x)) e (eqb_refl r))

-- ---- a pattern in units of 2^-1074

-- an exponent's field and digits
unfoldable units_at : ℕ → ℕ → ℕ
units_at zero t = t
units_at (suc x) t = (2 ^ 52 + t) * 2 ^ x

-- a pattern without the sign
unfoldable units : ℕ → ℕ
unfolding units_at
units n = units_at (n / 2 ^ 52) (n % 2 ^ 52)

fields_value : (s : Bool) (x t : ℕ) → x < 2047 → HasValue (of_fields binary64 s x t) s (units_at x t) (2 ^ 1074)
unfolding of_fields units_at
fields_value s zero t h = subst (λ (a : ℕ). HasValue (odd 53 s t 0 1074) s a (2 ^ 1074)) (mul-one t) (odd_sign 53 s t 0 1074)
fields_value s (suc x) t h = rw (ne_eqb (suc x) 2047 (λ e. omega arith)) (odd_sign 53 s (2 ^ 52 + t) x 1074)

bits-fields : (b : ℕ) → of_bits binary64 b ≡ of_fields binary64 (leb (2 ^ 63) b) (b % 2 ^ 63 / 2 ^ 52) (b % 2 ^ 63 % 2 ^ 52)
unfolding of_bits
bits-fields b = ap (of_fields binary64 (leb (2 ^ 63) b) (b % 2 ^ 63 / 2 ^ 52)) (sym (mod-mod-pow b 11 52))

bits_value : (b : ℕ) → b % 2 ^ 63 / 2 ^ 52 < 2047 → HasValue (of_bits binary64 b) (leb (2 ^ 63) b) (units (b % 2 ^ 63)) (2 ^ 1074)
unfolding units
bits_value b h = rw (bits-fields b) (fields_value (leb (2 ^ 63) b) (b % 2 ^ 63 / 2 ^ 52) (b % 2 ^ 63 % 2 ^ 52) h)

-- ---- the bound on a value is a bound on its pattern

-- the pattern of 2^53
abbrev limit : ℕ
limit = 0x4340_0000_0000_0000

units_below : (x t k : ℕ) → t < 2 ^ 52 → x ≤ suc k → units_at x t < 2 ^ (53 + k)
unfolding units_at
units_below zero t k h l = lt_of_lt_of_le h (pow_mono {i = 52} (omega arith))
units_below (suc x) t k h l = lt_of_lt_of_le (shl_lt 53 x (omega arith)) (pow_mono {i = 53 + x} (omega arith))

full : (x t : ℕ) → x ≡ 1076 → t ≡ 0 → units_at x t ≤ 2 ^ 1127
unfolding units_at
full x t p q = rw (p, q) (lit≤ tt)

inside : (n : ℕ) → n ≤ limit → units n ≤ 2 ^ 53 * 2 ^ 1074
unfolding units
inside n h = go (dec_lt (n / 2 ^ 52) 1076)
  where
    go : Dec (n / 2 ^ 52 < 1076) → units_at (n / 2 ^ 52) (n % 2 ^ 52) ≤ 2 ^ 1127
    go (yes l) = le_of_lt (units_below (n / 2 ^ 52) (n % 2 ^ 52) 1074 (omega arith) (omega arith))
    go (no l) = full (n / 2 ^ 52) (n % 2 ^ 52) (omega arith) (omega arith)

fuller : (x t : ℕ) → x ≡ 1076 → 0 < t → 2 ^ 1127 < units_at x t
unfolding units_at
fuller x t p q = let l : 2 ^ 52 < 2 ^ 52 + t = omega arith in rw p (mul-lt-mul_of_pos_right l (pow_pos 1075))

larger : (x t : ℕ) → 1077 ≤ x → 2 ^ 1127 < units_at x t
unfolding units_at
larger zero t l = elim l [ ]
larger (suc x) t l =
    lt_of_lt_of_le (lit< {n = 2 ^ 52 * 2 ^ 1076} tt)
    (le_trans (mul-le-mul_left (2 ^ 52) (pow_mono {i = 1076} (omega arith))) (mul-le-mul_right (2 ^ x) (le-add_right (2 ^ 52) t)))

outside : (n : ℕ) → limit < n → 2 ^ 53 * 2 ^ 1074 < units n
unfolding units
outside n h = go (dec_lt (n / 2 ^ 52) 1077)
  where
    go : Dec (n / 2 ^ 52 < 1077) → 2 ^ 1127 < units_at (n / 2 ^ 52) (n % 2 ^ 52)
    go (yes l) = fuller (n / 2 ^ 52) (n % 2 ^ 52) (omega arith) (omega arith)
    go (no l) = larger (n / 2 ^ 52) (n % 2 ^ 52) (omega arith)

on-panel : (b : ℕ) → b % 2 ^ 63 ≤ limit → on_panel (of_bits binary64 b) ≡ true
on-panel b h =
    on-panel_of (of_bits binary64 b) (leb (2 ^ 63) b) (units (b % 2 ^ 63)) (2 ^ 1074) (lit< tt) (bits_value b (omega arith))
    ∙ le-leb (units (b % 2 ^ 63)) (2 ^ 53 * 2 ^ 1074) (inside (b % 2 ^ 63) h)

-- an infinity or NaN
special : (s : Bool) (x t : ℕ) → x ≡ 2047 → on_panel (of_fields binary64 s x t) ≡ false
unfolding of_fields on_panel
special s x t e = rw e (go (eqb t 0))
  where
    go : (z : Bool) → on_panel (cond z (inf s) nan) ≡ false
    go true = refl
    go false = refl

off-panel : (b : ℕ) → limit < b % 2 ^ 63 → on_panel (of_bits binary64 b) ≡ false
off-panel b h = go (dec_lt (b % 2 ^ 63 / 2 ^ 52) 2047)
  where
    go : Dec (b % 2 ^ 63 / 2 ^ 52 < 2047) → on_panel (of_bits binary64 b) ≡ false
    go (yes l) =
        on-panel_of (of_bits binary64 b) (leb (2 ^ 63) b) (units (b % 2 ^ 63)) (2 ^ 1074) (lit< tt) (bits_value b l)
        ∙ lt-leb (units (b % 2 ^ 63)) (2 ^ 53 * 2 ^ 1074) (outside (b % 2 ^ 63) h)
    go (no l) = rw (bits-fields b) (special (leb (2 ^ 63) b) (b % 2 ^ 63 / 2 ^ 52) (b % 2 ^ 63 % 2 ^ 52) (omega arith))

-- ---- the nearest whole number

whole-bits : (b : ℕ) → b % 2 ^ 63 ≤ limit → nearest_whole (of_bits binary64 b) ≡ signed (leb (2 ^ 63) b) (closest (units (b % 2 ^ 63)) (2 ^ 1074))
whole-bits b h = whole_of (of_bits binary64 b) (leb (2 ^ 63) b) (units (b % 2 ^ 63)) (2 ^ 1074) (lit< tt) (bits_value b (omega arith))

whole_size : (n : ℕ) → n ≤ limit → nearest_whole (of_bits binary64 n) ≡ pos (closest (units n) (2 ^ 1074))
unfolding signed
whole_size n h =
    let e : n % 2 ^ 63 ≡ n = omega arith in
    whole-bits n (omega arith) ∙ rw (lt-leb (2 ^ 63) n (omega arith), e)

-- the sign put back
sign_back : (b r : ℕ) → b % 2 ^ 63 ≤ limit → pos r ≡ nearest_whole (of_bits binary64 (b % 2 ^ 63)) → nearest_whole (of_bits binary64 b) ≡ signed (leb (2 ^ 63) b) r
sign_back b r h e = whole-bits b h ∙ ap (signed (leb (2 ^ 63) b)) (ap nat_abs (sym (e ∙ whole_size (b % 2 ^ 63) h)))

-- below a half
closest_none : (a c : ℕ) → a * 2 < c → closest a c ≡ 0
closest_none a c h = let l : a < c = omega arith in rw (div-eq_of_lt l, mod-eq_of_lt l) (go (compare (a * 2) c) (le→leb (a * 2) c (le_of_lt h)))
  where
    go : (o : Ordering) → T (is_le o) → nearest 0 o ≡ 0
    go Ordering.lt t = refl
    go Ordering.eq t = refl
    go Ordering.gt t = absurd t

pub size_none : (n : ℕ) → n ≤ limit → n / 2 ^ 52 < 1022 → pos 0 ≡ nearest_whole (of_bits binary64 n)
unfolding units
size_none n h l =
    let u : units n < 2 ^ 1073 = units_below (n / 2 ^ 52) (n % 2 ^ 52) 1020 (omega arith) (omega arith) in
    sym (whole_size n h ∙ ap pos (closest_none (units n) (2 ^ 1074) (mul-lt-mul_of_pos_right {k = 2} u (lit< tt))))

units_normal : (x t : ℕ) → 1 ≤ x → units_at x t ≡ (2 ^ 52 + t) * 2 ^ (x - 1)
unfolding units_at
units_normal zero t h = elim h [ ]
units_normal (suc x) t h = ap (λ (y : ℕ). (2 ^ 52 + t) * 2 ^ y) (less x)
  where
    less : (x : ℕ) → x ≡ suc x - 1
    less x = omega arith

-- two powers of two as one
shifts : (w i j k : ℕ) → i + j ≡ k → w * 2 ^ i * 2 ^ j ≡ w * 2 ^ k
shifts w i j k e = mul_assoc w (2 ^ i) (2 ^ j) ∙ ap (λ (x : ℕ). w * x) (sym (pow-add 2 i j) ∙ ap (λ (x : ℕ). 2 ^ x) e)

-- from 2^52 on a value is whole
pub size_whole : (n : ℕ) → n ≤ limit → 1075 ≤ n / 2 ^ 52 → pos ((2 ^ 52 + n % 2 ^ 52) * 2 ^ (n / 2 ^ 52 - 1075)) ≡ nearest_whole (of_bits binary64 n)
unfolding units
size_whole n h l =
    let w = 2 ^ 52 + n % 2 ^ 52 in
    let k = n / 2 ^ 52 - 1075 in
    let e : units n * 1 ≡ w * 2 ^ k * 2 ^ 1074 =
    mul-one (units n) ∙ units_normal (n / 2 ^ 52) (n % 2 ^ 52) (omega arith) ∙ sym (shifts w k 1074 (n / 2 ^ 52 - 1) (omega arith)) in
    sym (whole_size n h ∙ ap pos (closest_same (units n) (2 ^ 1074) (w * 2 ^ k) 1 (lit< tt) (lit< tt) e ∙ rw (div-one, mod-one)))

pub size_between : (n : ℕ) → n ≤ limit → 1 ≤ n / 2 ^ 52 → n / 2 ^ 52 ≤ 1075
    → pos (closest (2 ^ 52 + n % 2 ^ 52) (2 ^ (1075 - n / 2 ^ 52))) ≡ nearest_whole (of_bits binary64 n)
unfolding units
size_between n h g l =
    let w = 2 ^ 52 + n % 2 ^ 52 in
    let k = 1075 - n / 2 ^ 52 in
    let e : units n * 2 ^ k ≡ w * 2 ^ 1074 =
    ap (λ (u : ℕ). u * 2 ^ k) (units_normal (n / 2 ^ 52) (n % 2 ^ 52) g) ∙ shifts w (n / 2 ^ 52 - 1) k 1074 (omega arith) in
    sym (whole_size n h ∙ ap pos (closest_same (units n) (2 ^ 1074) w (2 ^ k) (lit< tt) (pow_pos k) e))

-- ---- what the code's sums and shifts stay below

-- `1 << (k - 1)`
pub record Half (k : ℕ) : Type 0 where
  pub is : 1 * 2 ^ (k - 1) % 2 ^ 64 ≡ 2 ^ (k - 1)
  pub least : 1 ≤ 2 ^ (k - 1)
  pub most : 2 ^ (k - 1) ≤ 2 ^ 52

pub half_is : (k : ℕ) → k ≤ 53 → Half k
half_is k h =
    let u : 2 ^ (k - 1) ≤ 2 ^ 52 = pow_mono {j = 52} (omega arith) in
    record { is = ap (λ (x : ℕ). x % 2 ^ 64) (one-mul (2 ^ (k - 1))) ∙ mod-eq_of_lt (lt_of_le_of_lt u (lit< tt)); least = pow_pos (k - 1); most = u }

pub closest_fits : (w k : ℕ) → w < 2 ^ 53 → closest w (2 ^ k) ≤ 2 ^ 53
closest_fits w k h = le_trans (nearest-le (w / 2 ^ k) (compare (w % 2 ^ k * 2) (2 ^ k))) (lt_of_le_of_lt (shr_le w k) h)

pub whole-fits : (n : ℕ) → n ≤ limit → 1075 ≤ n / 2 ^ 52 → (2 ^ 52 + n % 2 ^ 52) * 2 ^ (n / 2 ^ 52 - 1075) ≤ 2 ^ 53
whole-fits n h l = go (n / 2 ^ 52 - 1075) (omega arith)
  where
    go : (k : ℕ) → k ≡ n / 2 ^ 52 - 1075 → (2 ^ 52 + n % 2 ^ 52) * 2 ^ k ≤ 2 ^ 53
    go zero e = omega arith
    go (suc zero) e = omega arith
    go (suc (suc k)) e = omega arith

-- `-r`
minus_is : (r : ℕ) → r ≤ 2 ^ 53 → pos 0 -ℤ to_z w64 r ≡ neg_ℤ (pos r)
minus_is r h = ap (λ (z : ℤ). pos 0 -ℤ z) (to_z_pos w64 (lt_of_le_of_lt h (lit< tt))) ∙ +ℤ_idl (neg_ℤ (pos r))

pub minus-fits : (r : ℕ) → r ≤ 2 ^ 53 → SFits w64 (pos 0 -ℤ to_z w64 r)
minus-fits r h = rw (minus_is r h) (record { sfits = go r h })
  where
    go : (r : ℕ) → r ≤ 2 ^ 53 → mag (neg_ℤ (pos r)) < 2 ^ 63
    go zero h = lit< tt
    go (suc r) h = omega arith

pub minus_back : (r : ℕ) → r ≤ 2 ^ 53 → to_z w64 (of_z w64 (pos 0 -ℤ to_z w64 r)) ≡ neg_ℤ (pos r)
minus_back r h = to_z-of_z (minus-fits r h) ∙ minus_is r h

-- ---- the answer

pub shown-off : (b : ℕ) → limit < b % 2 ^ 63 → shown_value (of_bits binary64 b) ≡ not_shown 17
unfolding shown_value
shown-off b h = rw (off-panel b h)

pub shown-on : (b r : ℕ) → b % 2 ^ 63 ≤ limit → pos r ≡ nearest_whole (of_bits binary64 (b % 2 ^ 63)) → shown_value (of_bits binary64 b) ≡ shows (signed (leb (2 ^ 63) b) r)
unfolding shown_value
shown-on b r h e = rw (on-panel b h, sign_back b r h e)
