-- A value of tier k is bounded and within k / 4,096 of the exact mean that it stands for (`tier-within`); where every window is full, that is the mean
-- of all the whole offsets below it (`flat_within`), as the third demand asks. Each tier adds 1 / 4,096, by `average_within`. Assumes nothing.
use Rattle.std.specs.Prelude.{ℕ, zero, suc, ◌+◌, ◌*◌, ◌<◌, length, Float}
use Rattle.std.proofs.Common.{arith}
use mathlib.Core.List.{List, [], ◌∷◌}
use Rattle.std.specs.Float.Ieee.Positive.{num, den}
use Rattle.mean_theory.specs.Exact.{Frac, exact_mean, sign, pos_part, neg_part, Near, Distance, per_tier, Within, Bounded, whole_mean, Tier, Flat}
use Rattle.mean_theory.specs.Nearness.{distance_same}
use Rattle.mean_theory.proofs.Average.{average_within}
use Rattle.mean_theory.specs.Tiers.{each, offset_exact, same_sym, flat_tier}

pub tier-within : (k : ℕ) (x : Float) (q : Frac) → Tier k x q → Bounded x × (0 < q.over) × Within x q k
tier-within zero x q t =
    let w = offset_exact x t.0 in
    (w.0, t.1.0, distance_same x (whole_mean (x ∷ [])) q 0 per_tier (same_sym q (whole_mean (x ∷ [])) t.1) w.1)
tier-within (suc k) x q t =
    let m = exact_mean t.exacts in
    let below = each (Tier k) (λ y r. Bounded y × Within y r k) (λ y r h. let g = tier-within k y r h in (g.0, g.2)) t.values t.exacts t.each in
    let w : Bounded x × Distance x m (4096 * k + per_tier) (4096 * per_tier) =
    rw t.average (average_within t.values t.exacts k per_tier t.counted below) in
    let d = distance_same x m q (4096 * k + per_tier) (4096 * per_tier) (same_sym q m t.mean) w.1 in
    (w.0, t.mean.0, (d.0, cancel (pos_part (sign x) (num x)) (neg_part (sign x) (num x)) (den x) d.1))
  where
    cancel : (h l c : ℕ) → Near h l c q (4096 * k + per_tier) (4096 * per_tier) → Near h l c q (suc k) per_tier
    cancel h l c n = (omega (arith, n.0), omega (arith, n.1))

pub flat_within : (k : ℕ) (x : Float) (zs : List Float) → Flat k x zs → Bounded x × (0 < length zs) × Within x (whole_mean zs) k
flat_within k x zs t = tier-within k x (whole_mean zs) (flat_tier k x zs t)
