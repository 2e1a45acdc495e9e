-- One pair of a run, on the store. The source tier has its numbers of e ticks, the destination and the pair's mark those of f, the ticks at the run before; the
-- ticks go no further than to the end of the coarsest interval after that run's. The pair is not refused, the destination then has its numbers of e ticks, and
-- so has the mark; every other ring and mark stays. Here: what the pair leaves (`Stepped`), and that the source
-- still holds what it reads; proofs/OnePair has the rest. Assumes nothing.
use Prim.Native.Nat.{ℕ, zero, suc, ◌+◌, ◌-◌, ◌*◌, ◌/◌, ◌≤◌, ◌<◌, max}
use Rattle.std.proofs.Math.Nat.{mul_assoc, mul-le-mul_right}
use Rattle.std.proofs.Common.{mul-pos, div-mul-le_self, le-div_iff_mul-le, div-lt_iff_lt-mul, sym, ◌∙◌}
use native.Mathlib.Omega.{arith}
use Rattle.std.specs.Prelude.{◌≡◌, ◌≢◌}
use Rattle.std.proofs.Math.Path.{ap}
use Rattle.model.specs.Lent.{Lent, row, ring}
use Rattle.ring_theory.specs.Hold.{first_held}
use Rattle.ring_theory.proofs.Read.{newest-is, oldest-is}
use Rattle.pair_theory.specs.Windows.{job, home}
use Rattle.pair_theory.specs.Answers.{patterns_of, answer_for}
use Rattle.pair_theory.specs.Fill.{used_below, Full, Given}
use Rattle.pair_theory.specs.Pair.{Paired, pair_is, start_first, start_marked, closed}
use Rattle.pair_theory.proofs.Pair.{paired}
use Rattle.sample_theory.specs.Schedule.{touched}
use Rattle.run_theory.specs.Setup.{Setup, tier_count, slots_of, first_no, Tier, mark_of, Base}

-- ---- the numbers of two neighbouring tiers: L ticks are an interval of the finer, L * r one of the coarser; P ticks are a coarsest interval, p of the finer and
-- p' of the coarser. There are suc x ticks so far, f at the run before

-- the numbers from the start of the destination's newest window on are still held, where the source's n slots span two coarsest intervals
still_held : (a L r p p' P n f x : ℕ) → 0 < L → 0 < r → p ≡ p' * r → P ≡ p * L → 2 * p ≤ n → suc x ≤ suc (touched P f) * P
    → max a (a + suc (x / L) - n) ≤ a + (touched (L * r) f - 1) * r
unfolding touched
still_held a L r p p' P n zero x z_l zr e g s h =
    let c : x / L < p = (div-lt_iff_lt-mul z_l).1 (omega arith) in
    omega arith
still_held a L r p p' P n (suc y) x z_l zr e g s h =
    let b : x < suc (suc (y / P)) * p * L = far (y / P) h in
    let c : x / L < suc (suc (y / P)) * p = (div-lt_iff_lt-mul z_l).1 b in
    let q : y / P * p' * (L * r) ≤ y = rw (lin (y / P)) (div-mul-le_self y P) in
    let w : y / P * p' ≤ y / (L * r) = (le-div_iff_mul-le (mul-pos z_l zr)).1 q in
    let v : y / P * p' * r ≤ y / (L * r) * r = mul-le-mul_right r w in
    let z : suc (y / (L * r)) - 1 ≡ y / (L * r) = omega arith in
    let k : y / P * p ≡ y / P * p' * r = rw e (omega arith) in
    rw z (omega arith)
  where
    far : (z : ℕ) → suc x ≤ suc (suc z) * P → x < suc (suc z) * p * L
    far z h = let t : suc (suc z) * P ≡ suc (suc z) * p * L = rw g (omega arith) in omega arith

    lin : (z : ℕ) → z * p' * (L * r) ≡ z * P
    lin z = rw (g, e) (omega arith)

-- ---- the pair of tiers k and k + 1

-- what the pair made of l
pub record Stepped (S : Setup) (l l' : Lent) (k e : ℕ) : Type 0 where
  pub base : Base S l'
  pub next : Tier S l' (suc k) e
  pub elsewhere : (j : ℕ) → j < tier_count S → j ≢ suc k → ring l' j ≡ ring l j
  pub mark : (row l' k).mark ≡ mark_of S k e
  pub marks : (j : ℕ) → j < tier_count S → j ≢ k → (row l' j).mark ≡ (row l j).mark

-- suc x ticks; f at the run before
module _ {S : Setup} {l : Lent} (b : Base S l) (k : ℕ) (hk : suc k < tier_count S) {f x : ℕ} (up : f ≤ suc x) (by : suc x ≤ suc (touched (S.per 0) f) * S.per 0)
    (end : suc x ≤ S.most) (source : Tier S l k (suc x)) (dest : Tier S l (suc k) f) (old : (row l k).mark ≡ mark_of S k f) (some : 0 < used_below S.is_used S.columns) where
  hk0 : k < tier_count S
  hk0 = omega arith

  abbrev L : ℕ
  L = S.long k

  abbrev r : ℕ
  r = S.ratio k

  abbrev a : ℕ
  a = first_no S k

  abbrev a' : ℕ
  a' = first_no S (suc k)

  -- how many numbers the destination has of f ticks
  abbrev e' : ℕ
  e' = touched (L * r) f

  z_l : 0 < L
  z_l = S.some_long k hk0

  zr : 0 < r
  zr = S.some_ratio k hk

  a-is : a ≡ a' * r
  a-is = ap (λ (v : ℕ). S.first * v) (S.next-per k hk) ∙ sym (mul_assoc S.first (S.per (suc k)) r)

  -- ---- the range that is read: from the start of the destination's newest window

  pub reach : first_held (slots_of S k) a (suc (x / L)) ≤ (a' + (e' - 1)) * r
  unfolding first_held
  reach =
      let s = still_held a L r (S.per k) (S.per (suc k)) (S.per 0) (slots_of S k) f x z_l zr (S.next-per k hk) (S.per-long k hk0) (S.span k hk) by in
      let t : (a' + (e' - 1)) * r ≡ a + (e' - 1) * r = rw a-is (omega arith) in
      rw t s
