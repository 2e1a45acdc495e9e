-- A write by the code's tests, and the three cases of an answer. Assumes nothing.
use Prim.Native.Nat.{ℕ, ◌+◌}
use native.Mathlib.Numerals.{add-one}
use mathlib.Core.Path.{◌≡◌}
use mathlib.Core.Bool.{true, false}
use lib.Ieee.{Float, binary64, to_bits}
use Rattle.model.specs.declared.WindowAnswer.{WindowAnswer}
use Rattle.model.specs.declared.WindowAnswer.TheVariants.{Empty, Number, NothingFinite}
use Rattle.model.specs.Image.{first, unless}
use Rattle.model.specs.Layout.{fresh_value}
use Rattle.model.specs.Ring.{Ring, is_infinite, is_old, write}
use Rattle.model.specs.Record.{stamp_ok}
use Rattle.model.specs.Consolidate.{Filled, write_check, write_unless, write_on, write_bits, write_answer}
use Rattle.ring.specs.Parts.{one}

module _ (f : Filled) (w c v : ℕ) where
  pub refused_value : is_infinite v ≡ true → record { ring = f.ring; writes = f.writes; refusal = 12 } ≡ write_bits f w c v
  unfolding write_bits write_check write_on first unless
  refused_value h = rw h

  pub refused_stamp : is_infinite v ≡ false → stamp_ok w ≡ false → record { ring = f.ring; writes = f.writes; refusal = 13 } ≡ write_bits f w c v
  unfolding write_bits write_check write_on first unless
  refused_stamp h k = rw (h, k)

  module _ (h : is_infinite v ≡ false) (k : stamp_ok w ≡ true) where
    pub passed_over : is_old f.ring.slab w ≡ true → f ≡ write_bits f w c v
    unfolding write_bits write_check write_unless write_on first unless
    passed_over o = rw (h, k, o)

    pub written : {r : Ring} → is_old f.ring.slab w ≡ false → r ≡ write f.ring (one c v) w → record { ring = r; writes = f.writes + 1; refusal = 0 } ≡ write_bits f w c v
    unfolding write_bits write_check write_unless write_on first unless
    written o e = rw (h, k, o, e, add-one f.writes)

module _ (f : Filled) (w c : ℕ) {x : WindowAnswer} where
  pub wrote_nothing : x ≡ Empty → f ≡ write_answer x f w c
  unfolding write_answer
  wrote_nothing e = rw e

  pub wrote_number : {y : Float} {g : Filled} → x ≡ Number y → g ≡ write_bits f w c (to_bits binary64 y) → g ≡ write_answer x f w c
  unfolding write_answer
  wrote_number e h = rw e h

  pub wrote_nan : {g : Filled} → x ≡ NothingFinite → g ≡ write_bits f w c 0x7ff8_0000_0000_0000 → g ≡ write_answer x f w c
  unfolding write_answer fresh_value
  wrote_nan e h = rw e h
