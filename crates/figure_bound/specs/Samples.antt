-- The samples of a window: the sum of whole offsets is at most 2^30 in size for each of them, and a window of a used column that starts at a tick has one.
-- Assumes nothing.
use Rattle.std.specs.Prelude.{ℕ, ◌+◌, ◌*◌, ◌/◌, ◌%◌, ◌^◌, ◌≤◌, ◌<◌, ◌≡◌, refl, Bool, true, false, ◌&&◌, cond, List, [], ◌∷◌, leb, ltb, eqb, ℤ, pos, nat_abs, ◌+ℤ◌, Float}
use Rattle.std.proofs.Common.{arith}
use Rattle.std.proofs.lemmas.Bool.{false≢true}
use Rattle.std.specs.Float.{nan, inf, fin, binary64}
use Rattle.std.specs.Float.Ieee.{of_bits, up, down}
use Rattle.model.specs.Words.{signed}
use Rattle.demand.specs.Demand.{Sample, all, count, is_at, in_window, sum_of, whole_part, whole_within, is_offset}
use Rattle.laws.specs.Tests.{and_left, and_right, yes_le, yes_lt, le_is, eq_is}
use Rattle.demand_proved.specs.Exact.{is-add, is_signed}
use Rattle.figure_bound.specs.Near.{parts, abs_ge}

abs_add : (y z : ℤ) → nat_abs (y +ℤ z) ≤ nat_abs y + nat_abs z
abs_add y z =
    let u = parts y in
    let v = parts z in
    omega (arith, u.size, v.size, abs_ge (y +ℤ z) (u.above + v.above) (u.below + v.below) (is-add y z u.above u.below v.above v.below u.is v.is))

abs_signed : (s : Bool) (a : ℕ) → nat_abs (signed s a) ≤ a
abs_signed true a = omega (arith, abs_ge (signed true a) 0 a (is_signed true a))
abs_signed false a = omega (arith, abs_ge (signed false a) a 0 (is_signed false a))

whole_size : (b : ℕ) (x : Float) → whole_within b x ≡ true → nat_abs (whole_part x) ≤ b
unfolding whole_within whole_part
whole_size b nan h = absurd (false≢true h)
whole_size b (inf s) h = absurd (false≢true h)
whole_size b (fin s m e) h =
    let a = m * up e / down e in
    omega (arith, abs_signed s a, le_is a b (and_right (eqb (m * up e % down e) 0) (leb a b) h))

offset_size : (v : ℕ) → is_offset v ≡ true → nat_abs (whole_part (of_bits binary64 v)) ≤ 2 ^ 30
unfolding is_offset
offset_size v h = whole_size (2 ^ 30) (of_bits binary64 v) (and_right (ltb v (2 ^ 64)) (whole_within (2 ^ 30) (of_bits binary64 v)) h)

pub sum_size : (f : Sample → Bool) (xs : List Sample) → all (λ x. is_offset x.value) xs ≡ true → nat_abs (sum_of f xs) ≤ 2 ^ 30 * count f xs
unfolding sum_of count all
sum_size f [] h = omega arith
sum_size f (x ∷ xs) h =
    let a = is_offset x.value in
    let b = all (λ y. is_offset y.value) xs in
    go (f x) (offset_size x.value (and_left a b h)) (sum_size f xs (and_right a b h))
  where
    go : (b : Bool) → nat_abs (whole_part (of_bits binary64 x.value)) ≤ 2 ^ 30 → nat_abs (sum_of f xs) ≤ 2 ^ 30 * count f xs
        → nat_abs (cond b (whole_part (of_bits binary64 x.value)) (pos 0) +ℤ sum_of f xs) ≤ 2 ^ 30 * (cond b 1 0 + count f xs)
    go true u v = omega (arith, abs_add (whole_part (of_bits binary64 x.value)) (sum_of f xs))
    go false u v = omega (arith, abs_add (pos 0) (sum_of f xs))

-- a wider test counts no fewer
count_wider : (f g : Sample → Bool) → ((x : Sample) → f x ≡ true → g x ≡ true) → (xs : List Sample) → count f xs ≤ count g xs
unfolding count
count_wider f g h [] = omega arith
count_wider f g h (x ∷ xs) = go (f x) refl (count_wider f g h xs)
  where
    go : (b : Bool) → f x ≡ b → count f xs ≤ count g xs → cond (f x) 1 0 + count f xs ≤ cond (g x) 1 0 + count g xs
    go true e l = rw (e, h x e) (omega arith)
    go false e l = rw e (omega arith)

pub count_window : (c i w : ℕ) (xs : List Sample) → 0 < i → count (is_at c w) xs ≤ count (in_window c i w) xs
unfolding is_at in_window
count_window c i w xs z = count_wider (is_at c w) (in_window c i w) inside xs
  where
    inside : (x : Sample) → eqb x.column c && eqb x.stamp w ≡ true → eqb x.column c && leb w x.stamp && ltb x.stamp (w + i) ≡ true
    inside x h =
        let s : x.stamp ≡ w = eq_is x.stamp w (and_right (eqb x.column c) (eqb x.stamp w) h) in
        rw (and_left (eqb x.column c) (eqb x.stamp w) h, yes_le w x.stamp (omega arith), yes_lt x.stamp (w + i) (omega arith))
