-- The search of the model finds the consecutive windows. Assumes nothing.
use Prim.Native.Nat.{ℕ, zero, suc, ◌+◌, ◌-◌, ◌*◌, ◌/◌, ◌%◌, ◌≤◌, ◌<◌, max}
use Rattle.std.proofs.Common.{mul-pos, le-div_iff_mul-le, div-lt_iff_lt-mul, sym, ◌∙◌}
use Rattle.std.proofs.Math.Nat.{mul-le-mul_right}
use native.Mathlib.Omega.{arith}
use Rattle.std.proofs.Math.Decide.{dec_lt}
use Rattle.std.specs.Prelude.{◌≡◌, false, ◌&&◌, leb, ltb, Option, Some, None}
use Rattle.std.proofs.Math.Path.{refl, ap}
use mathlib.Core.List.{List, [], ◌∷◌, ◌++◌, append-nil}
use Rattle.model.specs.declared.ConsolidationFn.{ConsolidationFn}
use Rattle.model.specs.Ring.{Ring, stamp}
use Rattle.model.specs.Window.{Job, window_of}
use Rattle.model.specs.Consolidate.{lower, lower_if, is_next, least_from, next_window, windows_from, windows}
use Rattle.laws.specs.Tests.{yes_le, yes_lt, no_le, no_lt}
use Rattle.ring_theory.specs.Numbers.{slots_of, div_is, mul-lt}
use Rattle.ring_theory.specs.Hold.{State, first_held, Reads}
use Rattle.ring_theory.proofs.Hold.{reads}
use Rattle.ring_theory.specs.Read.{InRange}
use Rattle.ring_theory.proofs.Read.{read_cut, early_out, late_out, held_in_lem}
use Rattle.pair_theory.specs.Windows.{job, wins, Spans, spans_few, home}

module _ {A : Ring} (fn : ConsolidationFn) {n m d a e r lo hi g h x j : ℕ} (st : State A n m d a e) (pa : 0 < a) (zr : 0 < r) (zl : 0 < lo)
    (rg : InRange d lo hi (first_held n a e) (a + e) g h) (sp : Spans r g h x j) where
  abbrev this : Job
  this = job A fn (r * d) lo hi

  R : Reads A n a e
  R = reads st pa

  z_d : 0 < r * d
  z_d = mul-pos zr st.slab-is.long

  -- the least start after a slot
  abbrev after : ℕ → Option ℕ → ℕ → Option ℕ
  after b best i = lower_if (is_next this b (stamp A.slab i)) best (window_of (r * d) (stamp A.slab i))

  skip : (b : ℕ) (best : Option ℕ) (q k : ℕ) (rest : List ℕ) → ((p : ℕ) → q ≤ p → p < q + k → after b best (p % n) ≡ best)
      → least_from this b best (slots_of n q k ++ rest) ≡ least_from this b best rest
  unfolding least_from slots_of
  skip b best q zero rest f = refl
  skip b best q (suc k) rest f =
      ap (λ (o : Option ℕ). least_from this b o (slots_of n (suc q) k ++ rest)) (f q (omega arith) (omega arith))
      ∙ skip b best (suc q) k rest (λ p l u. f p (omega arith) (omega arith))

  skip_last : (b : ℕ) (best : Option ℕ) (q k : ℕ) → ((p : ℕ) → q ≤ p → p < q + k → after b best (p % n) ≡ best) → least_from this b best (slots_of n q k) ≡ best
  skip_last b best q k f = ap (least_from this b best) (sym (append-nil (slots_of n q k))) ∙ skip b best q k [] f ∙ unfold least_from in refl

  out_of_range : (b : ℕ) (best : Option ℕ) (i : ℕ) → (leb lo (stamp A.slab i) && ltb (stamp A.slab i) hi) ≡ false → after b best i ≡ best
  unfolding is_next lower_if
  out_of_range b best i f = rw f

  -- the search from bound b on, for window y
  module _ (b y : ℕ) (above : (z : ℕ) → x ≤ z → z < y → z * (r * d) < b) (up_to : b ≤ y * (r * d)) where
    early : (best : Option ℕ) (p : ℕ) → g ≤ p → p < h → p < y * r → after b best (p % n) ≡ best
    unfolding is_next lower_if
    early best p l u w =
        let f = held_in_lem st R rg p l u in
        let k : p / r * (r * d) < b = above (p / r) ((le-div_iff_mul-le zr).1 (sp.inside p l u).0) ((div-lt_iff_lt-mul zr).1 w) in
        rw (f.0, yes_le lo (p * d) f.1, yes_lt (p * d) hi f.2, home r d p st.slab-is.long, no_le b (p / r * (r * d)) k)

    not_yet : (best : Option ℕ) (p : ℕ) → R.from ≤ p → p < max g (y * r) → p < h → after b best (p % n) ≡ best
    not_yet best p l u w = go (dec_lt p g)
      where
        go : Dec (p < g) → after b best (p % n) ≡ best
        go (yes q) = out_of_range b best (p % n) (early_out st R rg zl p l q)
        go (no q) = early best p (omega arith) w (omega arith)

    found_at : (best : Option ℕ) (p : ℕ) → g ≤ p → p < h → y * r ≤ p → after b best (p % n) ≡ lower best (p / r * (r * d))
    unfolding is_next lower_if
    found_at best p l u w =
        let f = held_in_lem st R rg p l u in
        let k : y ≤ p / r = (le-div_iff_mul-le zr).1 w in
        rw (f.0, yes_le lo (p * d) f.1, yes_lt (p * d) hi f.2, home r d p st.slab-is.long, yes_le b (p / r * (r * d)) (omega (arith, mul-le-mul_right (r * d) k)))

    -- later numbers do not lower it
    stays : (p : ℕ) → max g (y * r) ≤ p → p < a + e → after b (Some (y * (r * d))) (p % n) ≡ Some (y * (r * d))
    unfolding lower
    stays p l u = go (dec_lt p h)
      where
        go : Dec (p < h) → after b (Some (y * (r * d))) (p % n) ≡ Some (y * (r * d))
        go (yes q) =
            let k : y ≤ p / r = (le-div_iff_mul-le zr).1 (omega arith) in
            found_at (Some (y * (r * d))) p (omega arith) q (omega arith) ∙ rw (no_lt (p / r * (r * d)) (y * (r * d)) (mul-le-mul_right (r * d) k))
        go (no q) = out_of_range b (Some (y * (r * d))) (p % n) (late_out st R rg p (omega arith) u)

    at_first : (f : ℕ) (rest : List ℕ) → g ≤ f → f < h → y * r ≤ f → f < suc y * r → least_from this b None (slots_of n f 1 ++ rest) ≡ least_from this b (Some (y * (r * d))) rest
    unfolding least_from slots_of lower
    at_first f rest l u v w =
        let q : f / r ≡ y = div_is y r f v w in
        ap (λ (o : Option ℕ). least_from this b o rest) (found_at None f l u v ∙ rw q)

    next-at : x ≤ y → y < x + j → next_window this b ≡ Some (y * (r * d))
    unfolding next_window
    next-at l u =
        let f = max g (y * r) in
        let t = sp.hit y l u in
        let k : f < h = omega (arith, t.1, t.2) in
        let top : f < a + e = omega (arith, rg.last) in
        let one : suc f - f ≡ 1 = omega arith in
        ap (least_from this b None) (read_cut st R f (suc f) (omega (arith, rg.first)) (omega arith) top)
        ∙ skip b None R.from (f - R.from) (slots_of n f (suc f - f) ++ slots_of n (suc f) (a + e - suc f)) (λ p v w. not_yet None p v (omega arith) (omega arith))
        ∙ rw one (at_first f (slots_of n (suc f) (a + e - suc f)) (omega arith) k (omega arith) (omega (arith, t.0))
        ∙ skip_last b (Some (y * (r * d))) (suc f) (a + e - suc f) (λ p v w. stays p (omega arith) (omega arith)))

    next_none : x + j ≤ y → next_window this b ≡ None
    unfolding next_window
    next_none l =
        ap (least_from this b None) R.order_is
        ∙ skip_last b None R.from R.many (λ p v w. go p v (omega (arith, R.ends)) (dec_lt p h))
      where
        go : (p : ℕ) → R.from ≤ p → p < a + e → Dec (p < h) → after b None (p % n) ≡ None
        go p v w (yes q) = inner (dec_lt p g)
          where
            inner : Dec (p < g) → after b None (p % n) ≡ None
            inner (yes k) = out_of_range b None (p % n) (early_out st R rg zl p v k)
            inner (no k) = early None p (omega arith) q (omega (arith, (sp.inside p (omega arith) q).1, mul-le-mul_right r l))
        go p v w (no q) = out_of_range b None (p % n) (late_out st R rg p (omega arith) w)

  -- from window y on
  rest_found : (i k y b : ℕ) → ((z : ℕ) → x ≤ z → z < y → z * (r * d) < b) → b ≤ y * (r * d) → x ≤ y → y + i ≡ x + j → i ≤ k
      → windows_from this k (next_window this b) ≡ wins (r * d) y i
  unfolding windows_from wins
  rest_found zero zero y b v u l f w = refl
  rest_found zero (suc k) y b v u l f w = rw (next_none b y v u (omega arith))
  rest_found (suc i) zero y b v u l f w = absurd (omega arith)
  rest_found (suc i) (suc k) y b v u l f w =
      ap (windows_from this (suc k)) (next-at b y v u l (omega arith))
      ∙ ap (λ (ws : List ℕ). y * (r * d) ∷ ws)
      (rest_found i k (suc y) (suc (y * (r * d))) (λ z o q. below z q) (mul-lt y (suc y) (r * d) z_d (omega arith)) (omega arith) (omega arith) (omega arith))
    where
      below : (z : ℕ) → z < suc y → z * (r * d) < suc (y * (r * d))
      below z q = let p : z ≤ y = omega arith in omega (arith, mul-le-mul_right (r * d) p)

  -- the windows of the this
  pub windows_are : windows (job A fn (r * d) lo hi) ≡ wins (r * d) x j
  unfolding windows first_held
  windows_are =
      rw st.slab-is.sound.slots-is
      (rest_found j n x 0 (λ z o y. absurd (omega arith)) (omega arith) (omega arith) refl (omega (arith, spans_few zr sp, rg.first, rg.last)))
