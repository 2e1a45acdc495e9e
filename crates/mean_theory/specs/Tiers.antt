-- Where every window is full, the exact mean that a value of tier k stands for is the mean of all the whole offsets below it (`flat_tier`). What it is worth
-- as an approximation of that mean stands in proofs/Tiers. Assumes nothing.
use Rattle.std.specs.Prelude.{◌≡◌, refl, Bool, true, false, ℕ, zero, suc, ◌+◌, ◌*◌, ◌/◌, ◌<◌, length, Float}
use Rattle.std.proofs.Common.{ap, mul-le-mul_right, mul-pos, lt_irrefl, arith, lit<, length-append}
use mathlib.Core.List.{List, [], ◌∷◌, flatten, map}
use Rattle.std.proofs.lemmas.List.{length-map}
use Rattle.std.specs.Float.Ieee.Positive.{num, den}
use Rattle.mean_theory.specs.Exact.{All2, Frac, Same, exact_sum, exact_mean, sign, pos_part, neg_part, Near, per_tier, Within, Bounded, Offset, aboves, belows, whole_mean, Tier, Flat}
use Rattle.mean_theory.specs.Wholes.{whole-num, append_sums}

pub each : {B : Type 0} (R S : Float → B → Type 0) → ((x : Float) (b : B) → R x b → S x b) → (xs : List Float) (bs : List B) → All2 R xs bs → All2 S xs bs
each {B = B} R S f [] (b ∷ bs) h = elim h [ ]
each {B = B} R S f (x ∷ xs) [] h = elim h [ ]
each R S f [] [] h = tt
each R S f (x ∷ xs) (b ∷ bs) h = (f x b h.0, each R S f xs bs h.1)

each_map : {B C : Type 0} (S : Float → C → Type 0) (f : B → C) (xs : List Float) (bs : List B) → All2 (λ x b. S x (f b)) xs bs → All2 S xs (map f bs)
each_map {B = B} {C = C} S f [] (b ∷ bs) h = elim h [ ]
each_map {B = B} {C = C} S f (x ∷ xs) [] h = elim h [ ]
each_map S f [] [] h = tt
each_map S f (x ∷ xs) (b ∷ bs) h = (h.0, each_map S f xs bs h.1)

-- ---- tier 0: a whole offset is its own mean

pub offset_exact : (x : Float) → Offset x → Bounded x × Within x (whole_mean (x ∷ [])) 0
unfolding aboves belows
offset_exact x h =
    let e : num x ≡ num x / den x * den x = whole-num x h.0 in
    ((h.0.0, h.0.1, omega (arith, mul-le-mul_right (den x) h.1)), (h.0.0, exact (sign x) (num x) (den x) (num x / den x) e))
  where
    exact : (s : Bool) (n d z : ℕ) → n ≡ z * d
        → Near (pos_part s n) (neg_part s n) d (record { above = pos_part s z + 0; below = neg_part s z + 0; over = 1 }) 0 per_tier
    exact true n d z e = (omega arith, omega arith)
    exact false n d z e = (omega arith, omega arith)

-- ---- tier by tier

pub same_sym : (q r : Frac) → Same q r → Same r q
same_sym q r s = (s.1, s.0, omega (arith, s.2))

tier_over : (k : ℕ) (x : Float) (q : Frac) → Tier k x q → 0 < q.over
tier_over zero x q t = t.1.0
tier_over (suc k) x q t = t.mean.0

-- ---- full windows: of parts zss, d offsets each, the mean of the means is the mean of all the offsets

flatten_sum : (d : ℕ) (ys : List Float) (zss : List (List Float)) → 0 < d → All2 (λ y ws. length ws ≡ d) ys zss
    → (length (flatten zss) ≡ d * length zss) × (length ys ≡ length zss)
    × Same (record { above = aboves (flatten zss); below = belows (flatten zss); over = d }) (exact_sum (map whole_mean zss))
unfolding flatten exact_sum aboves belows
flatten_sum d [] (ws ∷ zss) D h = elim h [ ]
flatten_sum d (y ∷ ys) [] D h = elim h [ ]
flatten_sum d [] [] D h = (omega arith, refl, (D, lit< tt, omega arith))
flatten_sum d (y ∷ ys) (ws ∷ zss) D h =
    let r = flatten_sum d ys zss D h.1 in
    let t = exact_sum (map whole_mean zss) in
    let a = append_sums ws (flatten zss) in
    let e = lin (aboves ws) (belows ws) (aboves (flatten zss)) (belows (flatten zss)) t.above t.below t.over r.2.2 in
    (rw (length-append ws (flatten zss)) (omega (arith, h.0)), ap suc r.1, (D, rw h.0 (mul-pos D r.2.1), rw (h.0, a.0, a.1) e))
  where
    lin : (a b a' b' A B D : ℕ) → a' * D + B * d ≡ b' * D + A * d → (a + a') * (d * D) + (b * D + B * d) * d ≡ (b + b') * (d * D) + (a * D + A * d) * d
    lin a b a' b' A B D e = let f : (a' * D + B * d) * d ≡ (b' * D + A * d) * d = ap (λ (z : ℕ). z * d) e in omega arith

flatten_mean : (d : ℕ) (ys : List Float) (zss : List (List Float)) → 0 < d → 0 < length ys → All2 (λ y ws. length ws ≡ d) ys zss
    → Same (whole_mean (flatten zss)) (exact_mean (map whole_mean zss))
unfolding exact_mean
flatten_mean d ys zss D Y h =
    let r = flatten_sum d ys zss D h in
    let t = exact_sum (map whole_mean zss) in
    let Z : 0 < length zss = rw r.1 at Y in
    let e = lin (aboves (flatten zss)) (belows (flatten zss)) t.above t.below t.over (length zss) r.2.2 in
    rw (r.0, length-map zss whole_mean) (mul-pos D Z, mul-pos r.2.1 Z, e)
  where
    lin : (a b A B T c : ℕ) → a * T + B * d ≡ b * T + A * d → a * (T * c) + B * (d * c) ≡ b * (T * c) + A * (d * c)
    lin a b A B T c e = let f : (a * T + B * d) * c ≡ (b * T + A * d) * c = ap (λ (z : ℕ). z * c) e in omega arith

abbrev Part : ℕ → ℕ → Float → List Float → Type 0
Part k d y ws = Tier k y (whole_mean ws) × (length ws ≡ d)

part_pos : (k d : ℕ) (ys : List Float) (zss : List (List Float)) → 0 < length ys → All2 (Part k d) ys zss → 0 < d
part_pos k d (y ∷ ys) [] c h = elim h [ ]
part_pos k d [] zss c h = absurd (lt_irrefl 0 c)
part_pos k d (y ∷ ys) (ws ∷ zss) c h = rw h.0.1 at (tier_over k y (whole_mean ws) h.0.0)

pub flat_tier : (k : ℕ) (x : Float) (zs : List Float) → Flat k x zs → Tier k x (whole_mean zs)
flat_tier zero x zs t = rw t.1 (t.0, (lit< tt, lit< tt, omega arith))
flat_tier (suc k) x zs t =
    let ys = t.values in
    let zss = t.parts in
    let d = t.long in
    let h = each (λ y ws. Flat k y ws × (length ws ≡ d)) (Part k d) (λ y ws g. (flat_tier k y ws g.0, g.1)) ys zss t.each in
    let D = part_pos k d ys zss t.counted.0 h in
    record {
      values = ys;
      exacts = map whole_mean zss;
      counted = t.counted;
      each = each_map (Tier k) whole_mean ys zss (each (Part k d) (λ y ws. Tier k y (whole_mean ws)) (λ y ws g. g.0) ys zss h);
      average = t.average;
      mean = rw t.offsets (flatten_mean d ys zss D t.counted.0 (each (Part k d) (λ y ws. length ws ≡ d) (λ y ws g. g.1) ys zss h));
    }
