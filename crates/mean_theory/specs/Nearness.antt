-- The laws of `Near`, by which a bound is carried from floats to units and back, added up over a list, divided by a count, and restated of an equal
-- exact number. Each is proved of one side: what bounds (h - l) / c - q from above bounds it from below with h and l, and q's two parts, exchanged.
-- Assumes nothing.
use Rattle.std.specs.Prelude.{◌≡◌, ◌↔◌, ℕ, ◌+◌, ◌*◌, ◌≤◌, ◌<◌, Float}
use Rattle.std.proofs.Common.{sym, ap, ◌∙◌, mul_assoc, mul-le-mul_left, mul-le-mul_right, le_of_mul-le-mul_right, arith}
use Rattle.std.specs.Float.Ieee.Positive.{num, den}
use Rattle.mean_theory.specs.Exact.{Frac, Same, add_frac, sign, pos_part, neg_part, Near, Distance}

-- (h - l) / c - (a - b) / d ≤ k / c
abbrev Side : ℕ → ℕ → ℕ → ℕ → ℕ → ℕ → ℕ → Type 0
Side h l c a b d k = h * d + b * c ≤ l * d + a * c + k * d

sides : (h l c : ℕ) (q : Frac) (e n : ℕ)
    → Near h l c q e n
    ↔ (Side (n * h) (n * l) c (n * q.above) (n * q.below) q.over (e * c) × Side (n * l) (n * h) c (n * q.below) (n * q.above) q.over (e * c))
sides h l c q e n = (λ k. (omega (arith, k.0), omega (arith, k.1)), λ k. (omega (arith, k.0), omega (arith, k.1)))

-- (h - l) / c over another denominator
pub near_carry : (h l c h' l' c' : ℕ) (q : Frac) (e n : ℕ) → 0 < c → h * c' ≡ h' * c → l * c' ≡ l' * c → Near h l c q e n → Near h' l' c' q e n
near_carry h l c h' l' c' q e n C x y k =
    let s = (sides h l c q e n).0 k in
    let x' : n * h * c' ≡ n * h' * c = mul_assoc n h c' ∙ ap (λ (z : ℕ). n * z) x ∙ sym (mul_assoc n h' c) in
    let y' : n * l * c' ≡ n * l' * c = mul_assoc n l c' ∙ ap (λ (z : ℕ). n * z) y ∙ sym (mul_assoc n l' c) in
    (sides h' l' c' q e n).1 (
      side (n * h) (n * l) (n * h') (n * l') (n * q.above) (n * q.below) q.over x' y' s.0,
      side (n * l) (n * h) (n * l') (n * h') (n * q.below) (n * q.above) q.over y' x' s.1,
    )
  where
    side : (h l h' l' a b d : ℕ) → h * c' ≡ h' * c → l * c' ≡ l' * c → Side h l c a b d (e * c) → Side h' l' c' a b d (e * c')
    side h l h' l' a b d x y k =
        let u : h * c' * d ≡ h' * c * d = ap (λ (z : ℕ). z * d) x in
        let v : l * c' * d ≡ l' * c * d = ap (λ (z : ℕ). z * d) y in
        le_of_mul-le-mul_right {k = c} (omega (arith, mul-le-mul_right c' k)) C

-- an equal number for q
near_same : (h l c : ℕ) (q r : Frac) (e n : ℕ) → Same q r → Near h l c q e n → Near h l c r e n
near_same h l c q r e n z k =
    let s = (sides h l c q e n).0 k in
    let x : n * q.above * r.over + n * r.below * q.over ≡ n * q.below * r.over + n * r.above * q.over =
    omega (arith, ap (λ (y : ℕ). n * y) z.2) in
    (sides h l c r e n).1 (
      side (n * h) (n * l) (n * q.above) (n * q.below) q.over (n * r.above) (n * r.below) r.over x z.0 s.0,
      side (n * l) (n * h) (n * q.below) (n * q.above) q.over (n * r.below) (n * r.above) r.over (sym x) z.0 s.1,
    )
  where
    side : (h l a b d a' b' d' : ℕ) → a * d' + b' * d ≡ b * d' + a' * d → 0 < d → Side h l c a b d (e * c) → Side h l c a' b' d' (e * c)
    side h l a b d a' b' d' x D k =
        let u : (a * d' + b' * d) * c ≡ (b * d' + a' * d) * c = ap (λ (y : ℕ). y * c) x in
        le_of_mul-le-mul_right {k = d} (omega (arith, mul-le-mul_right d' k)) D

pub distance_same : (x : Float) (q r : Frac) (e n : ℕ) → Same q r → Distance x q e n → Distance x r e n
distance_same x q r e n z k = (k.0, near_same (pos_part (sign x) (num x)) (neg_part (sign x) (num x)) (den x) q r e n z k.1)

-- the sum of two
pub near_add : (h l H L c : ℕ) (q r : Frac) (e E n : ℕ) → Near h l c q e n → Near H L c r E n → Near (h + H) (l + L) c (add_frac q r) (e + E) n
near_add h l H L c q r e E n x y =
    let s = (sides h l c q e n).0 x in
    let t = (sides H L c r E n).0 y in
    let each : (v w : ℕ) → n * (v + w) ≡ n * v + n * w = λ v w. omega arith in
    let both : (v w D d : ℕ) → n * (v * D + w * d) ≡ n * v * D + n * w * d = λ v w D d. omega arith in
    let z : (e + E) * c ≡ e * c + E * c = omega arith in
    (sides (h + H) (l + L) c (add_frac q r) (e + E) n).1
    (rw (each h H, each l L, both q.above r.above r.over q.over, both q.below r.below r.over q.over, z) (
      side (n * h) (n * l) (n * q.above) (n * q.below) q.over (n * H) (n * L) (n * r.above) (n * r.below) r.over (e * c) (E * c) s.0 t.0,
      side (n * l) (n * h) (n * q.below) (n * q.above) q.over (n * L) (n * H) (n * r.below) (n * r.above) r.over (e * c) (E * c) s.1 t.1,
    ))
  where
    side : (h l a b d H L A B D k K : ℕ) → Side h l c a b d k → Side H L c A B D K
        → Side (h + H) (l + L) c (a * D + A * d) (b * D + B * d) (d * D) (k + K)
    side h l a b d H L A B D k K x y = omega (arith, mul-le-mul_right D x, mul-le-mul_right d y)

-- the mean: (H - L) / u is near t, and (h - l) / u is a c-th of (H - L) / u, up to ε / u, which is 1 / 4,096
pub near_mean : (h l H L c u ε : ℕ) (t : Frac) (e n : ℕ) → u ≡ 4096 * ε → h * c + L ≤ l * c + H + c * ε → l * c + H ≤ h * c + L + c * ε
    → Near H L u t (c * e) n → Near h l u (record { above = t.above; below = t.below; over = t.over * c }) (4096 * e + n) (4096 * n)
near_mean h l H L c u ε t e n z x y k =
    let s = (sides H L u t (c * e) n).0 k in
    (side h l H L t.above t.below t.over x s.0, side l h L H t.below t.above t.over y s.1)
  where
    add : (h l H L a b d k m : ℕ) → h * c + L ≤ l * c + H + m → Side H L u a b d k → h * (d * c) + b * u ≤ l * (d * c) + a * u + (k + m) * d
    add h l H L a b d k m x y = omega (arith, mul-le-mul_right d x)

    spread : (h l a b d : ℕ) → u * (n * (d * c)) ≡ 4096 * ε * (n * (d * c))
        → n * h * (d * c) + n * b * u ≤ n * l * (d * c) + n * a * u + (c * e * u + n * (c * ε)) * d
        → 4096 * n * (h * (d * c) + b * u) ≤ 4096 * n * (l * (d * c) + a * u) + (4096 * e + n) * (d * c * u)
    spread h l a b d z k = omega arith

    side : (h l H L a b d : ℕ) → h * c + L ≤ l * c + H + c * ε → Side (n * H) (n * L) u (n * a) (n * b) d (c * e * u)
        → 4096 * n * (h * (d * c) + b * u) ≤ 4096 * n * (l * (d * c) + a * u) + (4096 * e + n) * (d * c * u)
    side h l H L a b d x k =
        spread h l a b d (ap (λ (v : ℕ). v * (n * (d * c))) z)
        (add (n * h) (n * l) (n * H) (n * L) (n * a) (n * b) d (c * e * u) (n * (c * ε)) (omega (arith, mul-le-mul_left n x)) k)
