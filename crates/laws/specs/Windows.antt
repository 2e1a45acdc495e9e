-- Windows: where a stamp's window starts and ends, which stamps are of one, and what a slot holds of one by the tests of its stamp. Assumes nothing.
use Rattle.std.specs.Prelude.{ℕ, zero, suc, ◌+◌, ◌-◌, ◌*◌, ◌/◌, ◌≤◌, ◌<◌, ◌≡◌, ◌≢◌}
use Rattle.std.proofs.Common.{suc-mul, mul-zero, one-mul, mul-le-mul_right, le-div_iff_mul-le, div-mul-le_self, mul-div_cancel, arith}
use Rattle.std.proofs.Math.Nat.{div-zero, div_self, lt-div-mul-add}
use Rattle.std.proofs.Math.Decide.{dec_lt}
use Rattle.std.proofs.Math.Path.{ap}
use borrow.Author.Tests.{le-leb, lt-leb, lt-ltb, le-ltb, eq-eqb, ne_eqb}
use Rattle.model.specs.declared.Held.TheVariants.{Outside}
use Rattle.model.specs.Window.{Job, window_of, held_value, held}

pub div_mono : (d : ℕ) {t u : ℕ} → t ≤ u → t / d ≤ u / d
div_mono zero {t} {u} h = rw (div-zero t, div-zero u) (omega arith)
div_mono (suc d) {t} {u} h = let z : 0 < suc d = omega arith in (le-div_iff_mul-le z).1 (omega (arith, div-mul-le_self t (suc d)))

-- ---- starts

-- none is above a stamp that it is the window of, and they never fall where stamps do not
pub window_le : (d t : ℕ) → window_of d t ≤ t
unfolding window_of
window_le d t = div-mul-le_self t d

pub window_mono : (d : ℕ) {t u : ℕ} → t ≤ u → window_of d t ≤ window_of d u
unfolding window_of
window_mono d h = mul-le-mul_right d (div_mono d h)

-- a later window is later by the windows' length at least
pub window_step : (d t u : ℕ) → window_of d t < window_of d u → window_of d t + d ≤ window_of d u
unfolding window_of
window_step d t u h = go (dec_lt (t / d) (u / d))
  where
    go : Dec (t / d < u / d) → t / d * d + d ≤ u / d * d
    go (yes k) = omega (arith, mul-le-mul_right d k, suc-mul (t / d) d)
    go (no k) = let l : u / d ≤ t / d = omega arith in absurd (omega (arith, mul-le-mul_right d l))

-- a window that does not start at 0 has a length
pub window_long : (d t : ℕ) → 0 < window_of d t → 0 < d
unfolding window_of
window_long zero t h = absurd (omega (arith, mul-zero (t / zero)))
window_long (suc d) t h = omega arith

module _ (d : ℕ) (z : 0 < d) where
  pub window_self : window_of d d ≡ d
  unfolding window_of
  window_self = rw (div_self z) (one-mul d)

  -- a window's start lies in the window
  pub window_again : (t : ℕ) → window_of d (window_of d t) ≡ window_of d t
  unfolding window_of
  window_again t = ap (λ (x : ℕ). x * d) (mul-div_cancel (t / d) z)

  -- a stamp lies below the end of its window
  pub window_span : (t : ℕ) → t < window_of d t + d
  unfolding window_of
  window_span t = lt-div-mul-add z

  -- the stamps below the end of t's window lie in it or before it; the others behind it
  pub window_low : (t u : ℕ) → u < window_of d t + d → window_of d u < suc (window_of d t)
  window_low t u h = go (dec_lt (window_of d t) (window_of d u))
    where
      go : Dec (window_of d t < window_of d u) → window_of d u < suc (window_of d t)
      go (yes k) = absurd (omega (arith, window_step d t u k, window_le d u))
      go (no k) = omega arith

  pub window_next : (t u : ℕ) → window_of d t + d ≤ u → window_of d t + d ≤ window_of d u
  window_next t u h = go (dec_lt (window_of d t) (window_of d u))
    where
      go : Dec (window_of d t < window_of d u) → window_of d t + d ≤ window_of d u
      go (yes k) = window_step d t u k
      go (no k) = absurd (omega (arith, window_span u))

-- ---- the stamps of the window that starts at w

module _ (d : ℕ) (some : 0 < d) {w t : ℕ} (s : window_of d w ≡ w) where
  pub below_window : t < w → window_of d t ≢ w
  below_window h e = omega (arith, window_le d t)

  pub past_window : w ≤ t → d ≤ t - w → window_of d t ≢ w
  past_window h k e = omega (arith, window_span d some t)

  pub of_window : w ≤ t → t - w < d → window_of d t ≡ w
  of_window h k = let low = window_low d some w t (omega (arith, s)) in let high = window_mono d h in omega (arith, low, high, s)

-- ---- what a slot with this stamp and value holds

module _ (q : Job) (w t v : ℕ) where
  pub before_start : t < q.start → Outside ≡ held q w t v
  unfolding held
  before_start h = rw (lt-leb q.start t h)

  pub past_end : q.start ≤ t → q.end ≤ t → Outside ≡ held q w t v
  unfolding held
  past_end h k = rw (le-leb q.start t h, le-ltb t q.end k)

  pub other_window : q.start ≤ t → t < q.end → window_of q.long t ≢ w → Outside ≡ held q w t v
  unfolding held
  other_window h k l = rw (le-leb q.start t h, lt-ltb t q.end k, ne_eqb (window_of q.long t) w l)

  pub in_window : q.start ≤ t → t < q.end → window_of q.long t ≡ w → held_value v ≡ held q w t v
  unfolding held
  in_window h k l = rw (le-leb q.start t h, lt-ltb t q.end k, eq-eqb (window_of q.long t) w l)
