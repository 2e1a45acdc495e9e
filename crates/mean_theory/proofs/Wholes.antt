-- A sum of whole numbers bit for bit: it is the float of its exact value (`sum_float`), and -0.0 exactly where every value is (`sum_neg_zero`). Assumes nothing.
use Rattle.std.specs.Prelude.{◌≡◌, refl, ◌↔◌, pos, Float}
use Rattle.std.proofs.Common.{◌∙◌, subst, add_comm, arith}
use Rattle.std.proofs.Math.Bool.{true}
use mathlib.Core.List.{List}
use Prim.Native.Nat.{◌+◌, ◌^◌, ◌≤◌}
use Rattle.std.proofs.Math.Dec.{T}
use Rattle.std.specs.Float.{fin}
use Rattle.std.specs.Float.Ieee.Bits.{is_true}
use Rattle.std.specs.Float.Ieee.Exact.{HasValue}
use Rattle.model.specs.declared.ConsolidationFn.TheVariants.{Sum}
use Rattle.model.specs.Window.{fold, fold_start}
use Rattle.mean_theory.specs.Exact.{All, WholeNumber, aboves, belows, neg_zeros, whole_float}
use Rattle.mean_theory.specs.Wholes.{sum_fits, sum-exact, whole_same, float_whole, neg_zeros_none}

pub sum_float : (xs : List Float) → All WholeNumber xs → aboves xs + belows xs ≤ 2 ^ 53
    → fold Sum (fold_start Sum) xs ≡ whole_float (aboves xs) (belows xs) (neg_zeros xs)
sum_float xs h l =
    let p = aboves xs in
    let n = belows xs in
    let b = neg_zeros xs in
    let f = float_whole p n b l in
    whole_same (fold Sum (fold_start Sum) xs) (whole_float p n b) p n p n b (sum_fits xs) f.1 (sum-exact xs h l) f.0 (add_comm p n)

-- a sum is -0.0 exactly where every value is: for sums by line card, whose sign of zero has to be that of one sum
pub sum_neg_zero : (xs : List Float) → All WholeNumber xs → aboves xs + belows xs ≤ 2 ^ 53 → (fold Sum (fold_start Sum) xs ≡ fin true 0 (pos 0)) ↔ T (neg_zeros xs)
sum_neg_zero xs h l = (only, all)
  where
    only : fold Sum (fold_start Sum) xs ≡ fin true 0 (pos 0) → T (neg_zeros xs)
    only e =
        let w = sum-exact xs h l in
        let v : HasValue (fin true 0 (pos 0)) w.sign w.size 1 = rw e at w.value in
        subst T (v.0 ∙ w.zero_sign (omega (arith, v.1))) tt

    all : T (neg_zeros xs) → fold Sum (fold_start Sum) xs ≡ fin true 0 (pos 0)
    all t = let r = neg_zeros_none xs t in sum_float xs h l ∙ rw (r.0, r.1, is_true (neg_zeros xs) t) (unfold whole_float in refl)
