-- One tier pair of a run. A source that took numbers without gaps goes to a destination that goes on with its own numbers: the windows that the range's
-- numbers fall in are written in order, for every used column, and counted; the mark moves where there was a window. `consolidated` is the general law: the
-- range may start and end inside a window, and the first window may be the destination's newest again. `paired` is the case where that window is read again
-- in full, which the third demand's schedule leads to. Assumes nothing.
use Rattle.std.specs.Prelude.{ℕ, suc, ◌+◌, ◌-◌, ◌*◌, ◌/◌, ◌%◌, ◌^◌, ◌≤◌, ◌<◌, max, min, ◌≡◌, Bool, true, false}
use Rattle.std.proofs.Common.{mod-lt, mul-pos, mul_assoc, mul-le-mul_right, mul-div_cancel, le-div_iff_mul-le, div-mul-le_self, arith}
use Rattle.std.proofs.Math.Path.{refl}
use Rattle.model.specs.declared.ConsolidationFn.{ConsolidationFn}
use Rattle.model.specs.declared.WindowAnswer.TheVariants.{Empty}
use Rattle.model.specs.Ring.{Ring, stamp, cell}
use Rattle.model.specs.Window.{Job, window_answer}
use Rattle.model.specs.Consolidate.{filled}
use Rattle.ring_theory.specs.Sound.{some_slots}
use Rattle.ring_theory.specs.Column.{Col}
use Rattle.ring_theory.specs.Hold.{State, first_held}
use Rattle.ring_theory.proofs.Hold.{reads}
use Rattle.ring_theory.specs.Read.{InRange, range_from}
use Rattle.ring_theory.proofs.Read.{held_in_lem}
use Rattle.pair_theory.specs.Windows.{job, Spans, spans_any}
use Rattle.pair_theory.proofs.Windows.{windows_are}
use Rattle.pair_theory.specs.Answers.{patterns_of, answer_for, answer_empty, answer_is}
use Rattle.pair_theory.specs.Fill.{used_below, Full, Given}
use Rattle.pair_theory.proofs.Fill.{fill-windows}
use Rattle.pair_theory.specs.Pair.{Paired}

-- ---- any range of held numbers

-- the source A took e numbers from a on; those from g up to h are in the range, and fall in the j windows from a' + k on. The destination B took e' numbers
-- from a' on, up to that first window (e' is k) or with it (e' is k + 1)
module _ {A B : Ring} {u : ℕ → Bool} {X Y : ℕ → ℕ → ℕ} (Y' : ℕ → ℕ → ℕ) (fn : ConsolidationFn) {n n' m d r a a' e e' lo hi g h j : ℕ} (k : ℕ)
    (source : Full A u X n m d a e) (dest : Full B u Y n' m (r * d) a' e') (za : 0 < a) (za' : 0 < a') (zr : 0 < r) (zl : 0 < lo)
    (rg : InRange d lo hi (first_held n a e) (a + e) g h) (sp : Spans r g h (a' + k) j) (from : k ≤ e') (to : e' ≤ suc k) (last : e' ≤ k + j)
    (below : (x q : ℕ) → x < m → u x ≡ true → a' ≤ q → q < a' + k → Y' x q ≡ Y x q)
    (given : (x y : ℕ) → x < m → u x ≡ true → a' + k ≤ y → y < a' + k + j
    → Given (answer_for fn (patterns_of (X x) (max g (y * r)) (min h (suc y * r) - max g (y * r)))) (Y' x y))
    (some : 0 < used_below u m) where
  pub consolidated : Paired (filled (job A fn (r * d) lo hi) B m) B u Y' n' m (r * d) a' (k + j) j
  unfolding filled
  consolidated =
      rw (windows_are fn st za zr zl rg sp)
      (fill-windows u Y' n' m (r * d) a' some this j k e' Y (record { ring = B; writes = 0; refusal = 0 }) from to last below
      (λ i x y. (mul-pos (omega arith) (mul-pos zr st.slab-is.long), start_low (a' + i) (omega arith) (omega arith))) gives empties refl dest)
    where
      st : State A n m d a e
      st = source.state

      this : Job
      this = job A fn (r * d) lo hi

      -- a window starts no later than a stamp of the source
      start_low : (y : ℕ) → a' + k ≤ y → y < a' + k + j → y * (r * d) < 2 ^ 63
      start_low y l t =
          let z = sp.hit y l t in
          let p = max g (y * r) in
          let i = held_in_lem st (reads st za) rg p (omega arith) (omega (arith, z.1, z.2)) in
          let w : stamp A.slab (p % n) < 2 ^ 63 = st.slab-is.low (p % n) (mod-lt p (some_slots st.slab-is.sound)) in
          let v : y * r * d ≤ p * d = mul-le-mul_right {m = y * r} {n = p} d (omega arith) in
          omega (arith, mul_assoc y r d, i.0)

      gives : (i : ℕ) → k ≤ i → i < k + j → (x : ℕ) → x < m → u x ≡ true → Given (window_answer this ((a' + i) * (r * d)) x) (Y' x (a' + i))
      gives i l t x hx hu =
          let z = sp.hit (a' + i) (omega arith) (omega arith) in
          rw (answer_is st za fn r lo hi zr zl rg x (a' + i) (X x) (rw hu at (source.cols x hx)) (omega (arith, z.0, z.1, z.2)))
          (given x (a' + i) hx hu (omega arith) (omega arith))

      empties : (i : ℕ) → k ≤ i → i < k + j → (x : ℕ) → x < m → u x ≡ false → window_answer this ((a' + i) * (r * d)) x ≡ Empty
      empties i l t x hx hu =
          let c : Col (cell A.slab x) n a 0 (X x) = rw hu at (source.cols x hx) in
          answer_empty st za fn r lo hi ((a' + i) * (r * d)) x (λ s y. c.none s y (λ q z w. absurd (omega arith)))

-- ---- from the destination's newest window on

-- the source took the numbers a to a + k; the destination took e, its newest window, or its first, is read again, and all source numbers from there on are
-- held. It takes the windows up to that of number a + k, which may be open
module _ {A B : Ring} {u : ℕ → Bool} {X Y : ℕ → ℕ → ℕ} (Y' : ℕ → ℕ → ℕ) (fn : ConsolidationFn) {n n' m d a a' k e : ℕ} (r : ℕ) (source : Full A u X n m d a (suc k))
    (dest : Full B u Y n' m (r * d) a' e) (zr : 0 < r) (za : 0 < a) (za' : 0 < a') (reach : first_held n a (suc k) ≤ (a' + (e - 1)) * r) (up : (a' + (e - 1)) * r ≤ a + k)
    (below : (x q : ℕ) → x < m → u x ≡ true → a' ≤ q → q < a' + (e - 1) → Y' x q ≡ Y x q)
    (given : (x y : ℕ) → x < m → u x ≡ true → a' + (e - 1) ≤ y → y * r ≤ a + k → Given (answer_for fn (patterns_of (X x) (y * r) (min (a + suc k) (suc y * r) - y * r))) (Y' x y))
    (some : 0 < used_below u m) where
  pub paired : Paired (filled (job A fn (r * d) ((a' + (e - 1)) * (r * d)) (suc ((a + k) * d))) B m) B u Y' n' m (r * d) a' (e - 1 + suc ((a + k) / r - (a' + (e - 1))))
      (suc ((a + k) / r - (a' + (e - 1))))
  paired =
      consolidated Y' fn (e - 1) source dest za za' zr
      (mul-pos (omega arith) (mul-pos zr zd)) range spans (omega arith) (omega arith) (omega arith) below gives some
    where
      zd : 0 < d
      zd = source.state.slab-is.long

      s : a + suc k ≡ suc (a + k)
      s = omega arith

      range : InRange d ((a' + (e - 1)) * (r * d)) (suc ((a + k) * d)) (first_held n a (suc k)) (a + suc k) ((a' + (e - 1)) * r) (a + suc k)
      range = rw (s, ← mul_assoc (a' + (e - 1)) r d) (range_from d (first_held n a (suc k)) (a + k) ((a' + (e - 1)) * r) zd reach (omega arith))

      spans : Spans r ((a' + (e - 1)) * r) (a + suc k) (a' + (e - 1)) (suc ((a + k) / r - (a' + (e - 1))))
      spans = rw s (rw (mul-div_cancel (a' + (e - 1)) zr) at (spans_any r ((a' + (e - 1)) * r) (a + k) zr up))

      last_window : (y : ℕ) → y < a' + (e - 1) + suc ((a + k) / r - (a' + (e - 1))) → y * r ≤ a + k
      last_window y t =
          let w : a' + (e - 1) ≤ (a + k) / r = (le-div_iff_mul-le zr).1 up in
          let v : y ≤ (a + k) / r = omega arith in
          omega (arith, mul-le-mul_right r v, div-mul-le_self (a + k) r)

      gives : (x y : ℕ) → x < m → u x ≡ true → a' + (e - 1) ≤ y → y < a' + (e - 1) + suc ((a + k) / r - (a' + (e - 1)))
          → Given (answer_for fn (patterns_of (X x) (max ((a' + (e - 1)) * r) (y * r)) (min (a + suc k) (suc y * r) - max ((a' + (e - 1)) * r) (y * r)))) (Y' x y)
      gives x y hx hu l t =
          let b : (a' + (e - 1)) * r ≤ y * r = mul-le-mul_right r l in
          let v : max ((a' + (e - 1)) * r) (y * r) ≡ y * r = omega arith in
          rw v (given x y hx hu l (last_window y t))
