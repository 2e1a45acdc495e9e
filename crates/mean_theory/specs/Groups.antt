-- Sums of sums: whole numbers added up in groups, and then the groups' sums, give bit for bit what one sum over all of them gives, however they are
-- grouped. So a sum may be kept in parts and joined later, for sums by line card; no call does so yet. Assumes nothing.
use Rattle.std.specs.Prelude.{◌≡◌, refl, Bool, true, false, ◌&&◌, ℕ, zero, suc, ◌+◌, ◌*◌, ◌/◌, ◌^◌, ◌≤◌, ◌<◌, T, eqb, Float}
use Rattle.std.proofs.Common.{sym, ◌∙◌, le_trans, mul-le-mul_left, arith, lit≤}
use Rattle.std.proofs.Math.Bool.{and-true, and-false, and_assoc}
use mathlib.Core.List.{List, [], ◌∷◌, ◌++◌, flatten, map}
use Rattle.std.proofs.Math.Dec.{eqb-suc-zero}
use Rattle.std.specs.Float.Ieee.Positive.{num, den, den_pos}
use Rattle.model.specs.declared.ConsolidationFn.TheVariants.{Sum}
use Rattle.model.specs.Window.{fold, fold_start}
use Rattle.mean_theory.specs.Exact.{All, sign, pos_part, neg_part, WholeNumber, aboves, belows, neg_zero, neg_zeros}
use Rattle.mean_theory.specs.Operations.{parts}
use Rattle.mean_theory.specs.Wholes.{whole-num, whole_of, size_le, sum-exact, sum_fits, append_sums, whole_same, neg_zeros_none}

abbrev sum : List Float → Float
sum xs = fold Sum (fold_start Sum) xs

-- ---- the sum y of xs is a whole number again, and -0.0 where all of xs are

record SumOf (y : Float) (xs : List Float) : Type 0 where
  whole : WholeNumber y
  exact : pos_part (sign y) (num y / den y) + belows xs ≡ neg_part (sign y) (num y / den y) + aboves xs
  zero : neg_zero y ≡ neg_zeros xs

is_neg_zero : (s b : Bool) (m z d : ℕ) → m ≡ z * d → 0 < d → (z ≡ 0 → s ≡ b) → (T b → z ≡ 0) → s && eqb m 0 ≡ b
is_neg_zero s b zero z d k D h g = and-true s ∙ h (omega (arith, mul-le-mul_left z D))
is_neg_zero s true (suc m) z d k D h g = let e : z ≡ 0 = g tt in absurd (omega (arith, rw e at k))
is_neg_zero s false (suc m) z d k D h g = rw (eqb-suc-zero m) (and-false s)

sum_of : (xs : List Float) → All WholeNumber xs → aboves xs + belows xs ≤ 2 ^ 53 → SumOf (sum xs) xs
sum_of xs h l =
    let y = sum xs in
    let z = num y / den y in
    let w = sum-exact xs h l in
    let k = whole_of y w.sign w.size (sum_fits xs) w.value in
    let e : pos_part (sign y) z + belows xs ≡ neg_part (sign y) z + aboves xs = rw (k.1, k.2) w.exact in
    let none : T (neg_zeros xs) → z ≡ 0 = λ t. let n = neg_zeros_none xs t in omega (arith, size_le (sign y) z (aboves xs) (belows xs) e, n.0, n.1) in
    record {
      whole = k.0;
      exact = e;
      zero = is_neg_zero (sign y) (neg_zeros xs) (num y) z (den y) (whole-num y k.0) (den_pos y) (λ v. k.1 ∙ w.zero_sign (sym k.2 ∙ v)) none;
    }

-- ---- the groups' sums ys against all the values zs

record Grouped (ys zs : List Float) : Type 0 where
  whole : All WholeNumber ys
  exact : aboves ys + belows zs ≡ belows ys + aboves zs
  bound : aboves ys + belows ys ≤ aboves zs + belows zs
  zeros : neg_zeros ys ≡ neg_zeros zs

all_append : (P : Float → Type 0) (xs ys : List Float) → All P (xs ++ ys) → All P xs × All P ys
all_append P [] ys h = (tt, h)
all_append P (x ∷ xs) ys h = let r = all_append P xs ys h.1 in ((h.0, r.0), r.1)

neg_zeros_append : (xs ys : List Float) → neg_zeros (xs ++ ys) ≡ neg_zeros xs && neg_zeros ys
unfolding neg_zeros
neg_zeros_append [] ys = refl
neg_zeros_append (x ∷ xs) ys = rw (neg_zeros_append xs ys) (sym (and_assoc (neg_zero x) (neg_zeros xs) (neg_zeros ys)))

grouped : (xss : List (List Float)) → All WholeNumber (flatten xss) → aboves (flatten xss) + belows (flatten xss) ≤ 2 ^ 53 → Grouped (map sum xss) (flatten xss)
unfolding flatten aboves belows neg_zeros
grouped [] h l = record { whole = tt; exact = refl; bound = lit≤ tt; zeros = refl }
grouped (xs ∷ xss) h l =
    let a = append_sums xs (flatten xss) in
    let w = all_append WholeNumber xs (flatten xss) h in
    let r = grouped xss w.1 (omega (arith, a.0, a.1)) in
    let s = sum_of xs w.0 (omega (arith, a.0, a.1)) in
    let t = sign (sum xs) in
    let z = num (sum xs) / den (sum xs) in
    record {
      whole = (s.whole, r.whole);
      exact = omega (arith, s.exact, r.exact, a.0, a.1);
      bound = omega (arith, size_le t z (aboves xs) (belows xs) s.exact, parts t z, r.bound, a.0, a.1);
      zeros = rw (s.zero, r.zeros) (sym (neg_zeros_append xs (flatten xss)));
    }

pub sum_groups : (xss : List (List Float)) → All WholeNumber (flatten xss) → aboves (flatten xss) + belows (flatten xss) ≤ 2 ^ 53
    → fold Sum (fold_start Sum) (map (λ xs. fold Sum (fold_start Sum) xs) xss) ≡ fold Sum (fold_start Sum) (flatten xss)
sum_groups xss h l =
    let ys = map sum xss in
    let zs = flatten xss in
    let g = grouped xss h l in
    whole_same (sum ys) (sum zs) (aboves ys) (belows ys) (aboves zs) (belows zs) (neg_zeros zs) (sum_fits ys) (sum_fits zs)
    (rw g.zeros at (sum-exact ys g.whole (le_trans g.bound l))) (sum-exact zs h l) g.exact
