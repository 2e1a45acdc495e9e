-- The last window that is due, and the last point: with a point for each window the last stands for the last. Assumes nothing.
use Rattle.std.specs.Prelude.{ℕ, zero, suc, ◌+◌, ◌-◌, ◌*◌, ◌/◌, ◌<◌, min, ◌≢◌, Bool, true, false, not, ◌||◌, eqb, Some, None}
use Rattle.std.proofs.Common.{arith, ap, ◌∙◌}
use Rattle.std.proofs.Math.Path.{◌≡◌, refl}
use Rattle.std.proofs.lemmas.Bool.{false≢true}
use mathlib.Core.List.{List, [], ◌∷◌}
use Rattle.std.specs.Float.Ieee.{binary64, of_bits}
use Rattle.model.specs.declared.Point.{Point}
use Rattle.model.specs.Figure.{last_after}
use Rattle.demand.specs.Demand.{Sample, first_of, last_of, starts, begun, newest_windows, is_closed, in_window, sum_of, count, within, each}
use Rattle.demand.specs.PanelBound.{last_start}
use Rattle.laws.specs.Tests.{split3}

-- ---- windows

-- of n + 1 windows from t on
last_start_lem : (i t n x : ℕ) → last_start x (starts i t (suc n)) ≡ t + i * n
unfolding last_start starts
last_start_lem i t zero x = omega arith
last_start_lem i t (suc n) x = last_start_lem i (t + i) n t ∙ omega arith

-- the last window that is due is the last that has begun, where there is a slot
pub last_window : (i n : ℕ) (xs : List Sample) → 0 < n → last_start 0 (newest_windows i n xs) ≡ first_of xs + i * ((last_of xs - first_of xs) / i)
unfolding newest_windows begun
last_window i n xs z = go ((last_of xs - first_of xs) / i) (min (suc ((last_of xs - first_of xs) / i)) n) refl
  where
    go : (y k : ℕ) → k ≡ min (suc y) n → last_start 0 (starts i (first_of xs + i * (suc y - k)) k) ≡ first_of xs + i * y
    go y zero e = absurd (omega arith)
    go y (suc k) e =
        let f : suc y - suc k + k ≡ y = omega arith in
        last_start_lem i (first_of xs + i * (suc y - suc k)) k 0 ∙ sum (suc y - suc k) k ∙ ap (λ (v : ℕ). first_of xs + i * v) f
      where
        sum : (u v : ℕ) → first_of xs + i * u + i * v ≡ first_of xs + i * (u + v)
        sum u v = omega arith

-- there is one
pub some_window : (i n : ℕ) (xs : List Sample) → 0 < n → newest_windows i n xs ≢ []
unfolding newest_windows begun
some_window i n xs z = go (min (suc ((last_of xs - first_of xs) / i)) n) refl
  where
    go : (k : ℕ) → k ≡ min (suc ((last_of xs - first_of xs) / i)) n → starts i (first_of xs + i * (suc ((last_of xs - first_of xs) / i) - k)) k ≢ []
    go zero e = absurd (omega arith)
    go (suc k) e = unfold starts in (λ f. let u : ◌≡◌ {A = ℕ} 0 1 = cc in omega arith)

-- ---- points

module _ (d c i k : ℕ) (xs : List Sample) where
  -- where window w is closed, point p is near its mean
  abbrev pub NearIn : ℕ → Point → Type 0
  NearIn w p = is_closed d i xs w ≡ true → within k (of_bits binary64 p.value) (sum_of (in_window c i w) xs) (count (in_window c i w) xs) ≡ true

  closed_near : (b a : Bool) → not b || a ≡ true → b ≡ true → a ≡ true
  closed_near true a h e = h
  closed_near false a h e = absurd (false≢true e)

  -- of a window and its point the test says both
  each-parts : (w : ℕ) (ws : List ℕ) (p : Point) (ps : List Point) → each d c i k xs (w ∷ ws) (p ∷ ps) ≡ true → NearIn w p × (each d c i k xs ws ps ≡ true)
  unfolding each
  each-parts w ws p ps h =
      let a = within k (of_bits binary64 p.value) (sum_of (in_window c i w) xs) (count (in_window c i w) xs) in
      let u = split3 (eqb p.stamp w) (not (is_closed d i xs w) || a) (each d c i k xs ws ps) h in
      (closed_near (is_closed d i xs w) a u.1, u.2)

  last-from : (w : ℕ) (ws : List ℕ) (p : Point) (ps : List Point) → NearIn w p → each d c i k xs ws ps ≡ true
      → (q : Point) × (last_after (Some p) ps ≡ Some q) × NearIn (last_start w ws) q
  unfolding last_after last_start
  last-from w [] p [] n h = (p, refl, n)
  last-from w [] p (q ∷ ps) n h = absurd (unfold each in (false≢true h))
  last-from w (v ∷ ws) p [] n h = absurd (unfold each in (false≢true h))
  last-from w (v ∷ ws) p (q ∷ ps) n h = let u = each-parts v ws q ps h in last-from v ws q ps u.0 u.1

  -- points, one for each window of which there is one: the last is near the last window's mean
  pub last_near : (w : ℕ) (ws : List ℕ) (ps : List Point) → each d c i k xs (w ∷ ws) ps ≡ true
      → (q : Point) × (last_after None ps ≡ Some q) × NearIn (last_start 0 (w ∷ ws)) q
  unfolding last_after last_start
  last_near w ws [] h = absurd (unfold each in (false≢true h))
  last_near w ws (p ∷ ps) h = let u = each-parts w ws p ps h in last-from w ws p ps u.0 u.1
