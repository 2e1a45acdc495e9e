-- A fold of finite values is never NaN: a sum can pass to an infinity, and then it stays there, since no value that enters is infinite. So the number that a
-- window is given has a pattern of its own, and `to_bits` can be taken of it. Assumes nothing.
use Rattle.std.specs.Prelude.{◌≡◌, ℕ, zero, suc, ◌+◌, ◌-◌, ◌*◌, ◌/◌, ◌%◌, ◌^◌, ◌<◌, Bool, true, false, cond, not, ◌&&◌, T, List, [], ◌∷◌, length, pos, ◌==◌, ◌≢◌, nat_le, nat_lt, refl, Float}
use Prim.Native.Nat.{compare}
use Rattle.std.proofs.Common.{arith, zero-mul, ap, ◌∙◌, ne_eqb}
use Rattle.std.proofs.Math.Nat.{zero-div, min-le_left}
use Rattle.std.proofs.Math.Bool.{true≢false}
use Rattle.std.specs.Bool.{beq}
use Rattle.std.proofs.Math.Dec.{le→leb}
use Rattle.std.specs.Float.{nan, inf, fin}
use Rattle.std.specs.Float.Ieee.{binary64, odd, of_bits, of_fields, nan_bits, is_nan, add, div, lt, of_int, round, units, sum, in_float, in_unsigned, to_unsigned, up, down, unlike, low, size, nearest}
use Rattle.std.specs.Float.Ieee.Back.{unsigned_back}
use Rattle.model.specs.declared.ConsolidationFn.{ConsolidationFn}
use Rattle.model.specs.declared.ConsolidationFn.TheVariants.{Average, Min, Max, Last, Sum, Count}
use Rattle.model.specs.Ring.{is_nan_bits, is_infinite}
use Rattle.model.specs.Window.{fold_start, fold_step, fold_end, fold, apply}

abbrev pub IsFin : Float → Type 0
IsFin nan = ⊥
IsFin (inf s) = ⊥
IsFin (fin s m e) = Unit {0}

abbrev pub AllFin : List Float → Type 0
AllFin [] = Unit {0}
AllFin (x ∷ xs) = IsFin x × AllFin xs

-- ---- a pattern that is neither infinite nor NaN stands for a finite value

-- the exponent's field, as the pattern tests take it and as lib.Ieee does
field_same : (v : ℕ) → v % 9223372036854775808 / 4503599627370496 ≡ v / 4503599627370496 % 2048
field_same v = omega arith

pub nan_same : (v : ℕ) → nan_bits binary64 v ≡ is_nan_bits v
unfolding nan_bits is_nan_bits
nan_same v = rw (field_same v)

-- so the f64 of such a pattern can be taken
pub not_nan : (v : ℕ) → is_nan_bits v ≡ false → T (not (nan_bits binary64 v))
not_nan v h = rw (nan_same v, h) tt

odd_fin : (d : ℕ) (s : Bool) (q k l : ℕ) → IsFin (odd d s q k l)
unfolding odd
odd_fin d s zero k l = tt
odd_fin d s (suc q) k l = tt

fields_fin : (s : Bool) (x t : ℕ) → (x == 2047 && not (t == 0)) ≡ false → (x == 2047 && t == 0) ≡ false → IsFin (of_fields binary64 s x t)
unfolding of_fields
fields_fin s zero t h k = odd_fin 53 s t 0 1074
fields_fin s (suc x) t h k = go (suc x == 2047) (t == 0) h k
  where
    go : (a b : Bool) → (a && not b) ≡ false → (a && b) ≡ false → IsFin (cond a (cond b (inf s) nan) (odd 53 s (4503599627370496 + t) x 1074))
    go true true h k = absurd (true≢false k)
    go true false h k = absurd (true≢false h)
    go false b h k = odd_fin 53 s (4503599627370496 + t) x 1074

pub bits_fin : (v : ℕ) → is_nan_bits v ≡ false → is_infinite v ≡ false → IsFin (of_bits binary64 v)
unfolding of_bits is_nan_bits is_infinite
bits_fin v h k = rw (field_same v) (fields_fin (nat_le 9223372036854775808 v) (v / 4503599627370496 % 2048) (v % 4503599627370496) h k)

-- ---- rounding gives no NaN

odd_fine : (d : ℕ) (s : Bool) (q k l : ℕ) → is_nan (odd d s q k l) ≡ false
unfolding odd is_nan
odd_fine d s zero k l = refl
odd_fine d s (suc q) k l = refl

cond_fine : (b : Bool) (x y : Float) → is_nan x ≡ false → is_nan y ≡ false → is_nan (cond b x y) ≡ false
cond_fine true x y h k = h
cond_fine false x y h k = k

inf_fine : (s : Bool) → is_nan (inf s) ≡ false
unfolding is_nan
inf_fine s = refl

fin_fine : (x : Float) → IsFin x → is_nan x ≡ false
unfolding is_nan
fin_fine nan h = absurd h
fin_fine (inf s) h = absurd h
fin_fine (fin s m e) h = refl

units_fine : (s : Bool) (q k : ℕ) → is_nan (units binary64 s q k) ≡ false
unfolding units
units_fine s q k = cond_fine (nat_lt (q * 2 ^ k) (2 ^ (low binary64 + 1024))) (odd 54 s q k 1074) (inf s) (odd_fine 54 s q k 1074) (inf_fine s)

round_fine : (s : Bool) (a b : ℕ) → is_nan (round binary64 s a b) ≡ false
unfolding round
round_fine s a b =
    let n = a * 2 ^ 1074 in
    let k = size (n / b) - 53 in
    let u = b * 2 ^ k in
    units_fine s (nearest (n / u) (compare (n % u * 2) u)) k

sum_fine : (s : Bool) (a : ℕ) (t : Bool) (b c : ℕ) → is_nan (sum binary64 s a t b c) ≡ false
unfolding sum
sum_fine s a t b c = cond_fine (beq s t) _ _ (round_fine s (a + b) c) (cond_fine (nat_lt a b) _ _ (round_fine t (b - a) c) (round_fine (s && nat_lt b a) (a - b) c))

add_fine : (a x : Float) → is_nan a ≡ false → IsFin x → is_nan (add binary64 a x) ≡ false
unfolding add
add_fine nan x h k = absurd (unfold is_nan in true≢false h)
add_fine (inf s) nan h k = absurd k
add_fine (inf s) (inf t) h k = absurd k
add_fine (inf s) (fin t n d) h k = inf_fine s
add_fine (fin s m e) nan h k = absurd k
add_fine (fin s m e) (inf t) h k = absurd k
add_fine (fin s m e) (fin t n d) h k = sum_fine s (m * up e * down d) t (n * up d * down e) (down e * down d)

-- ---- the fold

start_fine : (f : ConsolidationFn) → is_nan (fold_start f) ≡ false
unfolding fold_start is_nan
start_fine Average = refl
start_fine Min = refl
start_fine Max = refl
start_fine Last = refl
start_fine Sum = refl
start_fine Count = refl

step_fine : (f : ConsolidationFn) (a x : Float) → is_nan a ≡ false → IsFin x → is_nan (fold_step f a x) ≡ false
unfolding fold_step
step_fine Average a x h k = add_fine a x h k
step_fine Min a x h k = cond_fine (lt x a) x a (fin_fine x k) h
step_fine Max a x h k = cond_fine (lt a x) x a (fin_fine x k) h
step_fine Last a x h k = fin_fine x k
step_fine Sum a x h k = add_fine a x h k
step_fine Count a x h k = h

fold_fine : (f : ConsolidationFn) (xs : List Float) (a : Float) → is_nan a ≡ false → AllFin xs → is_nan (fold f a xs) ≡ false
unfolding fold
fold_fine f [] a h k = h
fold_fine f (x ∷ xs) a h k = fold_fine f xs (fold_step f a x) (step_fine f a x h k.0) k.1

-- a divisor that is a count, not 0
div_fine : (a y : Float) (k : ℕ) → is_nan a ≡ false → T (in_unsigned binary64 64 y) → to_unsigned 64 y ≡ k → 0 < k → is_nan (div binary64 a y) ≡ false
unfolding div in_unsigned to_unsigned is_nan
div_fine a nan k h u e z = absurd u
div_fine a (inf t) k h u e z = absurd u
div_fine nan (fin t n d) k h u e z = absurd (true≢false h)
div_fine (inf s) (fin t n d) k h u e z = refl
div_fine (fin s m x) (fin t zero d) k h u e z = absurd (none t e)
  where
    none : (t : Bool) → cond t 0 (Prim.Native.Nat.min (0 * up d / down d) (2 ^ 64 - 1)) ≢ k
    none true e = omega arith
    none false e = omega (arith, min-le_left (0 * up d / down d) (2 ^ 64 - 1), ap (λ (y : ℕ). y / down d) (zero-mul (up d)) ∙ zero-div (down d))
div_fine (fin s m x) (fin t (suc n) d) k h u e z = rw (ne_eqb (suc n) 0 (λ y. absurd (omega arith))) (round_fine (unlike s t) (m * up x * down d) (suc n * up d * down x))

end_fine : (f : ConsolidationFn) (a : Float) (k : ℕ) → is_nan a ≡ false → 0 < k → k < 2 ^ 32 → is_nan (fold_end f a k) ≡ false
unfolding fold_end
end_fine Average a k h z l =
    let b = unsigned_back binary64 64 k (unfold in_float in le→leb k (2 ^ 53) (omega arith)) (omega arith) in
    div_fine a (of_int binary64 (pos k)) k h b.0 b.1 z
end_fine Min a k h z l = h
end_fine Max a k h z l = h
end_fine Last a k h z l = h
end_fine Sum a k h z l = h
end_fine Count a k h z l = unfold of_int in round_fine false k 1

-- of finite values, at least one
pub apply_fine : (f : ConsolidationFn) (xs : List Float) → AllFin xs → 0 < length xs → length xs < 2 ^ 32 → is_nan (apply f xs) ≡ false
unfolding apply
apply_fine f xs h z l = end_fine f (fold f (fold_start f) xs) (length xs) (fold_fine f xs (fold_start f) (start_fine f) h) z l
