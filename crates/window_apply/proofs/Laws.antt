-- The literals that a fold starts from, as the machine has them; Min and Max by the code's comparison. Assumes nothing.
use Rattle.std.proofs.Common.{◌≡◌, true, false, pos, refl}
use lib.Ieee.{Float, inf, fin, binary64, of_bits, neg, lt}
use Rattle.model.specs.declared.ConsolidationFn.{ConsolidationFn}
use Rattle.model.specs.declared.ConsolidationFn.TheVariants.{Min, Max}
use Rattle.model.specs.Window.{fold_step}

pub from_zero_lem : neg (of_bits binary64 0) ≡ fin true 0 (pos 0)
unfolding neg of_bits
from_zero_lem = refl

pub from_inf : of_bits binary64 0x7ff0_0000_0000_0000 ≡ inf false
unfolding of_bits
from_inf = refl

pub from-minus_inf : of_bits binary64 0xfff0_0000_0000_0000 ≡ inf true
unfolding of_bits
from-minus_inf = refl

module _ (f : ConsolidationFn) (a x : Float) where
  pub min_yes : f ≡ Min → lt x a ≡ true → x ≡ fold_step f a x
  unfolding fold_step
  min_yes e h = rw (e, h)

  pub min_no : f ≡ Min → lt x a ≡ false → a ≡ fold_step f a x
  unfolding fold_step
  min_no e h = rw (e, h)

  pub max_yes : f ≡ Max → lt a x ≡ true → x ≡ fold_step f a x
  unfolding fold_step
  max_yes e h = rw (e, h)

  pub max_no : f ≡ Max → lt a x ≡ false → a ≡ fold_step f a x
  unfolding fold_step
  max_no e h = rw (e, h)
