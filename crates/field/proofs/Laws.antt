-- How the library's conversions meet `le`, `get` and `put`, and a pattern's exponent and fraction. Assumes nothing.
use Rattle.std.proofs.Common.{arith, ℕ, zero, suc, ◌+◌, ◌-◌, ◌/◌, ◌%◌, ◌^◌, ◌≤◌, ◌≡◌, refl, sym, ap, ◌∙◌, List, [], ◌∷◌, length, get_or, pow-suc, div-one}
use Rattle.std.proofs.Math.Nat.{div-div-eq-div-mul}
use Rattle.std.proofs.lemmas.List.{take_all}
use Rattle.std.specs.Int.{w32, w64, bytes_low_first, from_le_bytes}
use borrow.Rule.Slice.PartMut.{put_mid}
use lib.Bits.{bit_and, and_mask}
use Rattle.model.specs.Bytes.{le, bytes, part, get, put}
use Rattle.laws.specs.Bytes.{get-suc, length-bytes, lent-splice}

-- ---- a number from its bytes

-- w bytes of s from index k on
abbrev bytes_from : ℕ → List ℕ → ℕ → List ℕ
bytes_from zero s k = []
bytes_from (suc w) s k = get_or s k 0 ∷ bytes_from w s (suc k)

from_index : (w : ℕ) (s : List ℕ) (k : ℕ) → k + w ≤ length s → le (bytes_from w s k) ≡ get w s k
unfolding le get part
from_index zero s k h = refl
from_index (suc w) s k h = rw (from_index w s (suc k) (omega arith)) (sym (get-suc w s k (omega arith)))

whole : (w : ℕ) (s : List ℕ) → length s ≡ w → le (bytes_from w s 0) ≡ le s
unfolding get part
whole w s h = from_index w s 0 (omega arith) ∙ ap le (take_all w s (omega arith))

pub from_4 : (s : List ℕ) → length s ≡ 4 → from_le_bytes w32 s ≡ le s
unfolding le
from_4 s h = omega (arith, whole 4 s h)

pub from_8 : (s : List ℕ) → length s ≡ 8 → from_le_bytes w64 s ≡ le s
unfolding le
from_8 s h = omega (arith, whole 8 s h)

-- ---- the bytes of a number

low_from : (i k x : ℕ) → bytes_low_first i k x ≡ bytes k (x / 256 ^ i)
unfolding bytes
low_from i zero x = refl
low_from zero (suc k) x = rw (low_from 1 k x, div-one)
low_from (suc i) (suc k) x = rw (low_from (suc (suc i)) k x, div-div-eq-div-mul, ← pow-suc)

pub low_bytes : (k x : ℕ) → bytes_low_first 0 k x ≡ bytes k x
low_bytes k x = low_from 0 k x ∙ rw div-one

-- a part that was lent and has come back as w bytes of x
pub stored : (w : ℕ) (s : List ℕ) (at x : ℕ) {ys : List ℕ} → at + w ≤ length s → ys ≡ bytes w x → put_mid at (at + w - at) s ys ≡ put w s at x
unfolding put
stored w s at x h e = let k : at + w - at ≡ w = omega arith in rw (k, e) (lent-splice s at w (bytes w x) h (length-bytes w x))

-- ---- a pattern's exponent and fraction, by a shift and masks

pub exponent : (b : ℕ) → b / 4503599627370496 % 2048 ≡ bit_and (b / 4503599627370496) 2047
exponent b = sym (and_mask (b / 4503599627370496) 11)

pub fraction : (b : ℕ) → b % 4503599627370496 ≡ bit_and b 4503599627370495
fraction b = sym (and_mask b 52)
