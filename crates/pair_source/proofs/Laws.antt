-- A row's function by its number, the test of the stamps by one slot more, and the range by the code's cases. Assumes nothing.
use Rattle.std.specs.Prelude.{Option, Some, None, unwrap_or}
use Prim.Native.Nat.{ℕ, zero, suc, ◌+◌, ◌-◌, ◌^◌, ◌≤◌, ◌<◌}
use native.Mathlib.Omega.{arith}
use native.Mathlib.Numerals.{add-one}
use mathlib.Core.Path.{◌≡◌, refl, sym, ap, ◌∙◌}
use mathlib.Core.Bool.{Bool, true, false}
use mathlib.Core.List.{List}
use borrow.Author.Tests.{lt-ltb, le-ltb}
use Rattle.model.specs.Words.{function_no}
use Rattle.model.specs.Ring.{Ring, stamp, oldest, newest}
use Rattle.model.specs.Window.{window_of}
use Rattle.model.specs.Consolidate.{stamps_below, or_zero, start_of, end_after}
use Rattle.ring.specs.Parts.{Sized, ring_of}
use Rattle.image_theory.specs.Pairs.{newest-low}

-- 0, or above 6
pub no_function : (k : ℕ) → (k ≡ 1 → ⊥) → (k ≡ 2 → ⊥) → (k ≡ 3 → ⊥) → (k ≡ 4 → ⊥) → (k ≡ 5 → ⊥) → (k ≡ 6 → ⊥) → None ≡ function_no k
unfolding function_no
no_function zero a b c d e f = refl
no_function (suc zero) a b c d e f = absurd (a refl)
no_function (suc (suc zero)) a b c d e f = absurd (b refl)
no_function (suc (suc (suc zero))) a b c d e f = absurd (c refl)
no_function (suc (suc (suc (suc zero)))) a b c d e f = absurd (d refl)
no_function (suc (suc (suc (suc (suc zero))))) a b c d e f = absurd (e refl)
no_function (suc (suc (suc (suc (suc (suc zero)))))) a b c d e f = absurd (f refl)
no_function (suc (suc (suc (suc (suc (suc (suc k))))))) a b c d e f = refl

-- slot i of n
module _ (s : List ℕ) (i n : ℕ) {total : Bool} (k : stamps_below s i (n - i) ≡ total) where
  pub stamp_high : i < n → 2 ^ 63 ≤ stamp s i → false ≡ total
  unfolding stamps_below
  stamp_high h l = let e : n - i ≡ suc (n - (i + 1)) = omega arith in sym (rw (e, le-ltb (stamp s i) (2 ^ 63) l)) ∙ k

  pub stamp-low : i < n → stamp s i < 2 ^ 63 → stamps_below s (i + 1) (n - (i + 1)) ≡ total
  unfolding stamps_below
  stamp-low h l = let e : n - i ≡ suc (n - (i + 1)) = omega arith in sym (rw (e, lt-ltb (stamp s i) (2 ^ 63) l, add-one i)) ∙ k

  pub stamps_done : n ≤ i → true ≡ total
  unfolding stamps_below
  stamps_done h = let e : n - i ≡ 0 = omega arith in sym (rw e) ∙ k

-- ---- the range

pub zero_missing : {e : Option ℕ} → e ≡ None → 0 ≡ or_zero e
unfolding or_zero
zero_missing h = rw h

pub zero_at : {e : Option ℕ} (t : ℕ) → e ≡ Some t → t ≡ or_zero e
unfolding or_zero
zero_at t h = rw h

-- by the library's method
pub unwrapped : (e : Option ℕ) → unwrap_or e 0 ≡ or_zero e
unwrapped None = zero_missing refl
unwrapped (Some t) = zero_at t refl

pub after_missing : {e : Option ℕ} → e ≡ None → 0 ≡ end_after e
unfolding end_after
after_missing h = rw h

pub after-at : {e : Option ℕ} (t : ℕ) → e ≡ Some t → t + 1 ≡ end_after e
unfolding end_after
after-at t h = rw (h, add-one t)

pub start_mark : (mark long : ℕ) (r : Ring) {t : ℕ} → (mark ≡ 0 → ⊥) → t ≡ window_of long mark → t ≡ start_of mark long r
unfolding start_of
start_mark zero long r h e = absurd (h refl)
start_mark (suc k) long r h e = e

pub start_oldest : (mark long : ℕ) (r : Ring) {e : Option ℕ} {t : ℕ} → mark ≡ 0 → e ≡ oldest r → t ≡ or_zero e → t ≡ start_of mark long r
unfolding start_of
start_oldest mark long r z e h = rw z (h ∙ ap or_zero e)

-- of stamps that passed the test
pub newest-is-low : {s : List ℕ} {n m : ℕ} → Sized s n m → (w : Bool) → stamps_below s 0 n ≡ true → or_zero (newest (ring_of s w)) < 2 ^ 63
newest-is-low {s} h w e = newest-low (ring_of s w) (rw h.slots-is h.cursor_in) (rw h.slots-is e)
