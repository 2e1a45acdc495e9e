-- One pair of a run, on the store: what it reads, what it writes and the mark that it leaves (`pair_step`). Assumes nothing.
use Prim.Native.Nat.{ℕ, zero, suc, ◌+◌, ◌-◌, ◌*◌, ◌/◌, ◌^◌, ◌≤◌, ◌<◌, min}
use Rattle.std.proofs.Math.Nat.{mul_assoc, mul-le-mul_right, div-div-eq-div-mul, mul-add-div_right}
use Rattle.std.proofs.Common.{mul-pos, div-mul-le_self, le-div_iff_mul-le, sym, ◌∙◌}
use native.Mathlib.Omega.{arith}
use Rattle.std.specs.Prelude.{◌≡◌, Bool, true, ltb, Some}
use Rattle.std.proofs.Math.Path.{refl, ap, subst}
use Rattle.model.specs.declared.ConsolidationFn.TheVariants.{Average}
use Rattle.model.specs.Words.{function_no}
use Rattle.model.specs.Ring.{Ring, newest}
use Rattle.model.specs.Lent.{Lent, row, ring, with_ring}
use Rattle.model.specs.Consolidate.{Filled, filled, or_zero, start_of, end_after, job_of, with_mark, pair}
use Rattle.laws.specs.Tests.{yes_lt}
use Rattle.ring_theory.specs.Hold.{first_held}
use Rattle.ring_theory.proofs.Read.{newest-is, oldest-is}
use Rattle.pair_theory.specs.Windows.{job, home}
use Rattle.pair_theory.specs.Answers.{patterns_of, answer_for}
use Rattle.pair_theory.specs.Fill.{used_below, Full, Given}
use Rattle.pair_theory.specs.Pair.{Paired, pair_is, start_first, start_marked, closed}
use Rattle.pair_theory.proofs.Pair.{paired}
use Rattle.sample_theory.specs.Schedule.{touched}
use Rattle.run_theory.specs.Setup.{Setup, tier_count, interval_of, slots_of, first_no, Holds, Tier, newest-low, mark_of, Base, interval_fixed, series_fixed, function_fixed, Put, put-ring, put_mark}
use Rattle.run_theory.specs.OnePair.{Stepped, reach}

-- the destination's newest window starts no later than the source's newest number
newest_start : (L r f x : ℕ) → 0 < L → f ≤ suc x → (touched (L * r) f - 1) * r ≤ x / L
unfolding touched
newest_start L r zero x z_l h = omega arith
newest_start L r (suc y) x z_l h =
    let a : y / (L * r) * r ≤ y / L = rw (← div-div-eq-div-mul y L r) (div-mul-le_self (y / L) r) in
    let b : y / L ≤ x / L = (le-div_iff_mul-le z_l).1 (omega (arith, div-mul-le_self y L)) in
    let c : suc (y / (L * r)) - 1 ≡ y / (L * r) = omega arith in
    rw c (omega arith)

-- suc x ticks; f at the run before
module _ {S : Setup} {l : Lent} (b : Base S l) (k : ℕ) (hk : suc k < tier_count S) {f x : ℕ} (up : f ≤ suc x) (by : suc x ≤ suc (touched (S.per 0) f) * S.per 0)
    (end : suc x ≤ S.most) (source : Tier S l k (suc x)) (dest : Tier S l (suc k) f) (old : (row l k).mark ≡ mark_of S k f) (some : 0 < used_below S.is_used S.columns) where
  hk0 : k < tier_count S
  hk0 = omega arith

  abbrev L : ℕ
  L = S.long k

  abbrev r : ℕ
  r = S.ratio k

  abbrev d : ℕ
  d = interval_of S k

  abbrev a : ℕ
  a = first_no S k

  abbrev a' : ℕ
  a' = first_no S (suc k)

  -- how many numbers the destination has of f ticks
  abbrev e' : ℕ
  e' = touched (L * r) f

  z_l : 0 < L
  z_l = S.some_long k hk0

  zr : 0 < r
  zr = S.some_ratio k hk

  zd : 0 < d
  zd = source.state.slab-is.long

  a-is : a ≡ a' * r
  a-is = ap (λ (v : ℕ). S.first * v) (S.next-per k hk) ∙ sym (mul_assoc S.first (S.per (suc k)) r)

  first_pos : 0 < a
  first_pos = mul-pos S.later (S.some_per k hk0)

  first_pos' : 0 < a'
  first_pos' = mul-pos S.later (S.some_per (suc k) hk)

  source' : Full (ring l k) S.is_used (S.value (suc x) k) (slots_of S k) S.columns d a (suc (x / L))
  unfolding touched
  source' = source

  last : ℕ
  last = (a + x / L) * d

  last-low : last < 2 ^ 63
  unfolding last
  last-low = newest-low S k x hk0 (omega arith)

  newest-at : newest (ring l k) ≡ Some last
  unfolding last
  newest-at = newest-is source'.state first_pos

  -- ---- the range that is read: from the start of the destination's newest window

  next : ℕ
  next = (a' + (e' - 1)) * (r * d)

  all_held : first_held (slots_of S k) a (suc (x / L)) ≤ a → first_held (slots_of S k) a (suc (x / L)) ≡ a
  unfolding first_held
  all_held h = omega arith

  start_is : start_of (row l k).mark (row l (suc k)).interval (ring l k) ≡ next
  unfolding next
  start_is = go f refl
    where
      long-is : (row l (suc k)).interval ≡ r * d
      long-is = interval_fixed b (suc k) hk ∙ S.next-interval k hk

      go : (y : ℕ) → f ≡ y → start_of (row l k).mark (row l (suc k)).interval (ring l k) ≡ (a' + (touched (L * r) f - 1)) * (r * d)
      go zero e =
          let held : first_held (slots_of S k) a (suc (x / L)) ≡ a = none e in
          let z : touched (L * r) f ≡ 0 = ap (touched (L * r)) e ∙ unfold touched in refl in
          start_first (row l k).mark (row l (suc k)).interval (first_held (slots_of S k) a (suc (x / L)) * d) (ring l k)
          (old ∙ ap (mark_of S k) e ∙ unfold mark_of in refl) (oldest-is source'.state first_pos)
          ∙ rw (held, z, a-is) (omega arith)
        where
          none : f ≡ 0 → first_held (slots_of S k) a (suc (x / L)) ≡ a
          none e =
              let z : touched (L * r) f ≡ 0 = ap (touched (L * r)) e ∙ unfold touched in refl in
              let t : (a' + (touched (L * r) f - 1)) * r ≡ a = rw (z, a-is) (omega arith) in
              all_held (omega (arith, reach b k hk up by end source dest old some, t))
      go (suc y) e =
          let m : (row l k).mark ≡ (a + y / L) * d = old ∙ ap (mark_of S k) e ∙ unfold mark_of in refl in
          let z : touched (L * r) f - 1 ≡ y / (L * r) = ap (λ (v : ℕ). touched (L * r) v - 1) e ∙ unfold touched in (omega arith) in
          let w : (a + y / L) / r ≡ a' + y / (L * r) = rw a-is (mul-add-div_right zr a' (y / L) ∙ ap (λ (v : ℕ). a' + v) (div-div-eq-div-mul y L r)) in
          rw (m, long-is, z) (start_marked ((a + y / L) * d) (r * d) (ring l k) (mul-pos (omega (arith, first_pos)) zd) ∙ home r d (a + y / L) zd ∙ ap (λ (v : ℕ). v * (r * d)) w)

  -- ---- the windows written

  new : ℕ
  new = suc ((a + x / L) / r - (a' + (e' - 1)))

  result : Filled
  result = filled (job (ring l k) Average (r * d) next (suc last)) (ring l (suc k)) S.columns

  dest' : Full (ring l (suc k)) S.is_used (S.value f (suc k)) (slots_of S (suc k)) S.columns (r * d) a' e'
  dest' = rw (← S.next-interval k hk, ← S.next-long k hk) dest

  result-is : Paired result (ring l (suc k)) S.is_used (S.value (suc x) (suc k)) (slots_of S (suc k)) S.columns (r * d) a' (e' - 1 + new) new
  unfolding result next last new touched
  result-is =
      paired (S.value (suc x) (suc k)) Average r source' dest' zr first_pos first_pos' (reach b k hk up by end source dest old some) start_low
      (λ c q hc hu lo hi. S.closed (suc x) f (suc k) c q up hk (was_closed q hi))
      gives some
    where
      start_low : (a' + (e' - 1)) * r ≤ a + x / L
      start_low =
          let t : (a' + (e' - 1)) * r ≡ a + (e' - 1) * r = rw a-is (omega arith) in
          rw t (omega (arith, newest_start L r f x z_l up))

      -- windows before the newest were closed at the run before
      was_closed : (q : ℕ) → q < a' + (e' - 1) → suc q * S.long (suc k) ≤ S.first * S.per 0 + f
      was_closed q h = go f refl
        where
          go : (y : ℕ) → f ≡ y → suc q * S.long (suc k) ≤ S.first * S.per 0 + f
          go zero e =
              let z : touched (L * r) f ≡ 0 = ap (touched (L * r)) e ∙ unfold touched in refl in
              let s : suc q ≤ a' = omega (arith, z, h) in
              let t : a' * S.long (suc k) ≡ S.first * S.per 0 = mul_assoc S.first (S.per (suc k)) (S.long (suc k)) ∙ ap (λ (v : ℕ). S.first * v) (sym (S.per-long (suc k) hk)) in
              omega (arith, mul-le-mul_right (S.long (suc k)) s, t)
          go (suc y) e =
              let z : touched (L * r) f - 1 ≡ y / (L * r) = ap (λ (v : ℕ). touched (L * r) v - 1) e ∙ unfold touched in (omega arith) in
              let s : suc q ≤ a' + y / (L * r) = omega (arith, z, h) in
              let t : a' * S.long (suc k) ≡ S.first * S.per 0 = mul_assoc S.first (S.per (suc k)) (S.long (suc k)) ∙ ap (λ (v : ℕ). S.first * v) (sym (S.per-long (suc k) hk)) in
              let u : y / (L * r) * S.long (suc k) ≤ y = rw (S.next-long k hk) (div-mul-le_self y (L * r)) in
              omega (arith, mul-le-mul_right (S.long (suc k)) s, t, u, e)

      gives : (c q : ℕ) → c < S.columns → S.is_used c ≡ true → a' + (e' - 1) ≤ q → q * r ≤ a + x / L
          → Given (answer_for Average (patterns_of (S.value (suc x) k c) (q * r) (min (a + suc (x / L)) (suc q * r) - q * r))) (S.value (suc x) (suc k) c q)
      gives c q hc hu lo hi =
          let w : q ≤ (a + x / L) / r = (le-div_iff_mul-le zr).1 hi in
          let v : (a + x / L) / r ≡ a' + x / (L * r) = rw a-is (mul-add-div_right zr a' (x / L) ∙ ap (λ (v : ℕ). a' + v) (div-div-eq-div-mul x L r)) in
          let t : touched (S.long (suc k)) (suc x) ≡ suc (x / (L * r)) = rw (S.next-long k hk) (unfold touched in refl) in
          S.given (suc x) k c q end hk hc hu (omega arith) (omega (arith, t))

  -- the destination has its numbers of suc x ticks then
  full_new : Holds S result.ring (suc k) (suc x)
  unfolding new touched
  full_new =
      let v : (a + x / L) / r ≡ a' + x / (L * r) = rw a-is (mul-add-div_right zr a' (x / L) ∙ ap (λ (v : ℕ). a' + v) (div-div-eq-div-mul x L r)) in
      subst (λ (i : ℕ). Full result.ring S.is_used (S.value (suc x) (suc k)) (slots_of S (suc k)) S.columns i (first_no S (suc k)) (touched (S.long (suc k)) (suc x)))
      (sym (S.next-interval k hk))
      (subst (λ (i : ℕ). Full result.ring S.is_used (S.value (suc x) (suc k)) (slots_of S (suc k)) S.columns (r * d) (first_no S (suc k)) (suc (x / i)))
      (sym (S.next-long k hk)) (rw (sum v) at result-is.full))
    where
      sum : (a + x / L) / r ≡ a' + x / (L * r) → e' - 1 + suc ((a + x / L) / r - (a' + (e' - 1))) ≡ suc (x / (L * r))
      sum v =
          let t : (a' + (e' - 1)) * r ≡ a + (e' - 1) * r = rw a-is (omega arith) in
          let u : a' + (e' - 1) ≤ (a + x / L) / r = (le-div_iff_mul-le zr).1 (rw t (omega (arith, newest_start L r f x z_l up))) in
          omega arith

  -- ---- the pair's call

  lent₁ : Lent
  lent₁ = with_ring l (suc k) result.ring

  lent₂ : Lent
  lent₂ = with_mark true lent₁ k last

  counted : ltb 0 (new * used_below S.is_used S.columns) ≡ true
  unfolding new
  counted = yes_lt 0 (suc ((a + x / L) / r - (a' + (e' - 1))) * used_below S.is_used S.columns) (mul-pos (omega arith) some)

  call-is : (c : ℕ) → pair (record { lent = l; count = c; refusal = 0 }) k
      ≡ record { lent = lent₂; count = c + new * used_below S.is_used S.columns; refusal = 0 }
  unfolding function_no job_of or_zero end_after lent₁ lent₂
  call-is c =
      pair_is (record { lent = l; count = c; refusal = 0 }) k {fn = Average} (rw (function_fixed b (suc k) hk ∙ S.average k hk) refl) source.state.slab-is
      ∙ rw (start_is, newest-at, series_fixed b k hk0, interval_fixed b (suc k) hk ∙ S.next-interval k hk)
      (unfold result in (closed (record { lent = l; count = c; refusal = 0 }) k last result-is
      ∙ ap (λ (v : Bool). record { lent = with_mark v (with_ring l (suc k) result.ring) k last; count = c + new * used_below S.is_used S.columns; refusal = 0 }) counted))

  put_it : Put S l (suc k) result.ring lent₁
  unfolding lent₁
  put_it = put-ring b (suc k) hk result.ring full_new.state.slab-is.sound result-is.header

  stepped : Stepped S l lent₂ k (suc x)
  unfolding lent₂
  stepped =
      let m = put_mark put_it.base k hk0 last last-low in
      record {
        base = m.base;
        next = subst (λ (r : Ring). Holds S r (suc k) (suc x)) (sym (m.rings (suc k) hk ∙ put_it.there)) full_new;
        elsewhere = λ j h ne. m.rings j h ∙ put_it.elsewhere j h ne;
        mark = m.mark ∙ unfold mark_of last in refl;
        marks = λ j h ne. m.marks j ne ∙ put_it.marks j h;
      }

  -- it is not refused
  pub pair_step : (c : ℕ)
      → (n : ℕ) × (l' : Lent) × (pair (record { lent = l; count = c; refusal = 0 }) k ≡ record { lent = l'; count = n; refusal = 0 }) × Stepped S l l' k (suc x)
  pair_step c = (c + new * used_below S.is_used S.columns, lent₂, call-is c, stepped)
