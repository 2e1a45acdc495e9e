-- lib.Ieee's `add`, and its `div` by a count, as one rounding of an exact number; and a value that fits a format as a whole number of the format's
-- smallest values. By these the other files speak of ±a / u and no longer of significands and exponents. Assumes nothing.
use Rattle.std.specs.Prelude.{◌≡◌, refl, Bool, not, ◌&&◌, cond, ℕ, zero, suc, ◌+◌, ◌-◌, ◌*◌, ◌%◌, ◌^◌, ◌≤◌, ◌<◌, ℤ, pos, negsuc, T, leb, ltb, eqb, Float}
use Rattle.std.proofs.Common.{sym, ap, ◌∙◌, subst, subst₂, true≢false, not-le_of_lt, mul_comm, zero-mul, mul-le-mul_right}
use Rattle.std.proofs.Common.{le_of_mul-le-mul_right, lt_of_mul-lt-mul_right, mul-lt-mul_of_pos_right, mul-pos, arith, ltb→lt, nltb→le, leb→le, eqb→eq, pow-add, pow_pos}
use Rattle.std.proofs.Math.Bool.{true, false}
use Rattle.std.proofs.Math.Nat.{mul-sub}
use Rattle.std.proofs.Math.Pow.{pow-lt}
use Rattle.std.specs.Float.{nan, inf, fin, Format}
use Rattle.std.specs.Float.Ieee.{prec, emax, low, up, down, round, sum, add, div, fits, unlike}
use Rattle.std.specs.Float.Ieee.Digits.{back}
use Rattle.std.specs.Float.Ieee.Fits.{up_pos, down_pos, and_l, and_r}
use Rattle.std.specs.Float.Ieee.Exact.{HasValue}
use Rattle.std.specs.Float.Ieee.Positive.{num, den, first_pos}
use Rattle.std.specs.Float.Ieee.Scale.{round_same, finite}
use Rattle.mean_theory.specs.Exact.{sign, pos_part, neg_part}

-- ---- signs and sizes

pub value_says : (x : Float) (s : Bool) (a c : ℕ) → HasValue x s a c → T (finite x) × (sign x ≡ s) × (num x * c ≡ a * den x)
value_says nan s a c v = absurd v
value_says (inf t) s a c v = absurd v
value_says (fin t m e) s a c v = (tt, v.0, v.1)

pub parts : (s : Bool) (a : ℕ) → pos_part s a + neg_part s a ≡ a
parts true a = omega arith
parts false a = omega arith

-- ±w = ±a + ±b
abbrev pub Balance : Bool → ℕ → Bool → ℕ → Bool → ℕ → Type 0
Balance r w s a t b = pos_part r w + (neg_part s a + neg_part t b) ≡ neg_part r w + (pos_part s a + pos_part t b)

pub balance_le : (r : Bool) (w : ℕ) (s : Bool) (a : ℕ) (t : Bool) (b : ℕ) → Balance r w s a t b → w ≤ a + b
balance_le true w s a t b h = omega (arith, parts s a, parts t b)
balance_le false w s a t b h = omega (arith, parts s a, parts t b)

-- ---- addition

-- x is ±a / u + ±b / u, rounded once; a sum of 0 has a minus only where both have
pub record RoundedSum (f : Format) (u : ℕ) (s : Bool) (a : ℕ) (t : Bool) (b : ℕ) (x : Float) : Type 0 where
  pub sign : Bool
  pub size : ℕ
  pub once : x ≡ round f sign size u
  pub balance : Balance sign size s a t b
  pub zero_sign : size ≡ 0 → sign ≡ s && t

-- with A / C = a / u and B / C = b / u
carry_lt : (A B C a b u : ℕ) → 0 < u → A * u ≡ a * C → B * u ≡ b * C → A < B → a < b
carry_lt A B C a b u U p q h = lt_of_mul-lt-mul_right C (omega (arith, mul-lt-mul_of_pos_right h U))

carry_le : (A B C a b u : ℕ) → 0 < C → A * u ≡ a * C → B * u ≡ b * C → A ≤ B → a ≤ b
carry_le A B C a b u P p q h = le_of_mul-le-mul_right (omega (arith, mul-le-mul_right u h)) P

carry_sub : (A B C a b u : ℕ) → A * u ≡ a * C → B * u ≡ b * C → (B - A) * u ≡ (b - a) * C
carry_sub A B C a b u p q = omega (arith, mul-sub u B A, mul-sub C b a)

module _ (f : Format) (A B C a b u : ℕ) (P : 0 < C) (U : 0 < u) (p : A * u ≡ a * C) (q : B * u ≡ b * C) where
  made : (s t r : Bool) (W w : ℕ) → W * u ≡ w * C → Balance r w s a t b → (w ≡ 0 → r ≡ s && t) → RoundedSum f u s a t b (round f r W C)
  made s t r W w e h z = record { sign = r; size = w; once = round_same f r W C w u P U e; balance = h; zero_sign = z }

  sum_once : (s t : Bool) → RoundedSum f u s a t b (sum f s A t B C)
  unfolding sum
  sum_once true true = made true true true (A + B) (a + b) (omega arith) (omega arith) (λ z. refl)
  sum_once false false = made false false false (A + B) (a + b) (omega arith) (omega arith) (λ z. refl)
  sum_once true false = go (ltb A B) (ltb B A) (ltb→lt A B) (nltb→le A B) (ltb→lt B A) (nltb→le B A)
    where
      go : (x y : Bool) → (T x → A < B) → (T (not x) → B ≤ A) → (T y → B < A) → (T (not y) → A ≤ B)
          → RoundedSum f u true a false b (cond x (round f false (B - A) C) (round f (true && y) (A - B) C))
      go true y h k g l =
          let m : a < b = carry_lt A B C a b u U p q (h tt) in
          made true false false (B - A) (b - a) (carry_sub A B C a b u p q) (omega arith) (λ z. refl)
      go false true h k g l =
          let m : b < a = carry_lt B A C b a u U q p (g tt) in
          made true false true (A - B) (a - b) (carry_sub B A C b a u q p) (omega arith) (λ z. absurd (omega arith))
      go false false h k g l =
          let m : b ≤ a = carry_le B A C b a u P q p (k tt) in
          let n : a ≤ b = carry_le A B C a b u P p q (l tt) in
          made true false false (A - B) (a - b) (carry_sub B A C b a u q p) (omega arith) (λ z. refl)
  sum_once false true = go (ltb A B) (ltb→lt A B) (nltb→le A B)
    where
      go : (x : Bool) → (T x → A < B) → (T (not x) → B ≤ A) → RoundedSum f u false a true b (cond x (round f true (B - A) C) (round f false (A - B) C))
      go true h k =
          let m : a < b = carry_lt A B C a b u U p q (h tt) in
          made false true true (B - A) (b - a) (carry_sub A B C a b u p q) (omega arith) (λ z. absurd (omega arith))
      go false h k =
          let m : b ≤ a = carry_le B A C b a u P q p (k tt) in
          made false true false (A - B) (a - b) (carry_sub B A C b a u q p) (omega arith) (λ z. refl)

pub add_once : (f : Format) (u : ℕ) (x y : Float) (s : Bool) (a : ℕ) (t : Bool) (b : ℕ) → 0 < u → HasValue x s a u → HasValue y t b u
    → RoundedSum f u s a t b (add f x y)
unfolding add
add_once f u nan y s a t b U v w = absurd v
add_once f u (inf s') y s a t b U v w = absurd v
add_once f u (fin s' m e) nan s a t b U v w = absurd w
add_once f u (fin s' m e) (inf t') s a t b U v w = absurd w
add_once f u (fin s' m e) (fin t' n d) s a t b U v w =
    let p = cross (m * up e) (down e) (down d) a v.1 in
    let q = cross (n * up d) (down d) (down e) b w.1 ∙ ap (λ (z : ℕ). b * z) (mul_comm (down d) (down e)) in
    let k = sum_once f (m * up e * down d) (n * up d * down e) (down e * down d) a b u (mul-pos (down_pos e) (down_pos d)) U p q s' t' in
    subst₂ (λ (y z : Bool). RoundedSum f u y a z b (sum f s' (m * up e * down d) t' (n * up d * down e) (down e * down d))) v.0 w.0 k
  where
    cross : (n c d a : ℕ) → n * u ≡ a * c → n * d * u ≡ a * (c * d)
    cross n c d a h = let k : n * u * d ≡ a * c * d = ap (λ (z : ℕ). z * d) h in omega arith

-- ---- division by a count

pub div_once : (f : Format) (u : ℕ) (x y : Float) (s : Bool) (a c : ℕ) → 0 < u → 0 < c → HasValue x s a u → HasValue y false c 1
    → div f x y ≡ round f s a (c * u)
unfolding div
div_once f u nan y s a c U C v w = absurd v
div_once f u (inf s') y s a c U C v w = absurd v
div_once f u (fin s' m e) nan s a c U C v w = absurd w
div_once f u (fin s' m e) (inf t') s a c U C v w = absurd w
div_once f u (fin s' m e) (fin true n d) s a c U C v w = absurd (true≢false w.0)
div_once f u (fin s' m e) (fin false n d) s a c U C v w =
    go (eqb n 0) (eqb→eq n 0)
    ∙ round_same f s (m * up e * down d) (n * up d * down e) a (c * u) (mul-pos (mul-pos N (up_pos d)) (down_pos e)) (mul-pos C U)
    (cross (m * up e) (down e) (n * up d) (down d) v.1 w.1)
  where
    N : 0 < n
    N = first_pos n (up d) (first_pos (n * up d) 1 (subst (λ (z : ℕ). 0 < z) (sym w.1) (mul-pos C (down_pos d))))

    unlike_false : (s : Bool) → unlike s false ≡ s
    unlike_false true = refl
    unlike_false false = refl

    go : (b : Bool) → (T b → n ≡ 0)
        → cond b (cond (eqb m 0) nan (inf (unlike s' false))) (round f (unlike s' false) (m * up e * down d) (n * up d * down e))
        ≡ round f s (m * up e * down d) (n * up d * down e)
    go true h = absurd (omega (arith, h tt, N))
    go false h = rw (unlike_false s', v.0)

    cross : (k e l d : ℕ) → k * u ≡ a * e → l * 1 ≡ c * d → k * d * (c * u) ≡ a * (l * e)
    cross k e l d p q =
        let x : k * u * (c * d) ≡ a * e * (c * d) = ap (λ (z : ℕ). z * (c * d)) p in
        let y : l * 1 * (a * e) ≡ c * d * (a * e) = ap (λ (z : ℕ). z * (a * e)) q in
        omega arith

-- ---- a value that fits: m * 2 ^ power of the smallest values, where m has no more digits than the format keeps

pub record InUnits (f : Format) (s : Bool) (m : ℕ) (e : ℤ) : Type 0 where
  pub power : ℕ
  pub value : HasValue (fin s m e) s (m * 2 ^ power) (2 ^ low f)
  pub digits : m < 2 ^ prec f

fits_says : (f : Format) (s : Bool) (m : ℕ) (e : ℤ) → T (fits f (fin s (suc m) e)) → (suc m < 2 ^ prec f) × (down e ≤ 2 ^ low f)
unfolding fits
fits_says f s m e t =
    let a = eqb (suc m % 2) 1 in
    let b = ltb (suc m) (2 ^ prec f) in
    let c = leb (down e) (2 ^ low f) in
    let abc : T (a && b && c) = and_l (a && b && c) (ltb (suc m * up e) (2 ^ suc (emax f) * down e)) t in
    (ltb→lt (suc m) (2 ^ prec f) (and_r a b (and_l (a && b) c abc)), leb→le (down e) (2 ^ low f) (and_r (a && b) c abc))

power_le : (i j : ℕ) → 2 ^ i ≤ 2 ^ j → i ≤ j
power_le i j h = go (ltb j i) (ltb→lt j i) (nltb→le j i)
  where
    go : (b : Bool) → (T b → j < i) → (T (not b) → i ≤ j) → i ≤ j
    go true l k = absurd (not-le_of_lt (pow-lt (l tt)) h)
    go false l k = k tt

pub in_units : (f : Format) (s : Bool) (m : ℕ) (e : ℤ) → T (fits f (fin s m e)) → InUnits f s m e
in_units f s zero e t =
    record { power = 0; value = (refl, rw (zero-mul (up e), zero-mul (2 ^ low f)) (sym (zero-mul (down e)))); digits = pow_pos (prec f) }
in_units f s (suc m) (pos k) t =
    record { power = k + low f; value = (refl, rw (pow-add 2 k (low f)) (omega arith)); digits = (fits_says f s m (pos k) t).0 }
in_units f s (suc m) (negsuc k) t =
    let h = fits_says f s m (negsuc k) t in
    let j = low f - suc k in
    let e : 2 ^ low f ≡ 2 ^ j * 2 ^ suc k = ap (λ (z : ℕ). 2 ^ z) (sym (back (low f) (suc k) (power_le (suc k) (low f) h.1))) ∙ pow-add 2 j (suc k) in
    record { power = j; value = (refl, shift (suc m) (2 ^ low f) (2 ^ j) (2 ^ suc k) e); digits = h.0 }
  where
    shift : (m u p d : ℕ) → u ≡ p * d → m * 1 * u ≡ m * p * d
    shift m u p d e = rw e (omega arith)
