-- One turn of the loop over a window's columns; where a refusal ends them, and where nothing is left. Assumes nothing.
use Prim.Native.Nat.{ℕ, zero, suc, ◌+◌, ◌-◌, ◌<◌}
use native.Mathlib.Omega.{arith}
use native.Mathlib.Numerals.{add-one}
use mathlib.Core.Path.{◌≡◌, refl, sym, ap, ◌∙◌}
use mathlib.Core.Logic.{◌≢◌}
use mathlib.Core.List.{List, [], ◌∷◌}
use Rattle.model.specs.Window.{Job, window_answer}
use Rattle.model.specs.Consolidate.{Filled, write_answer, unless_refused, fill_window, fill}

-- ---- the columns of a window

module _ (q : Job) (w : ℕ) where
  refused_rest : (f : Filled) (c j : ℕ) → f.refusal ≢ 0 → fill_window q f w c j ≡ f
  unfolding fill_window
  refused_rest f c zero h = refl
  refused_rest f c (suc j) h =
      ap (λ (g : Filled). fill_window q g w (suc c) j) (stays f.refusal h (write_answer (window_answer q w c) f w c)) ∙ refused_rest f (suc c) j h
    where
      stays : (r : ℕ) → r ≢ 0 → (g : Filled) → unless_refused r f g ≡ f
      stays zero h g = absurd (h refl)
      stays (suc r) h g = unfold unless_refused in refl

  module _ (f : Filled) (m c : ℕ) (h : c < m) (e : f.refusal ≡ 0) {g total : Filled} (k : g ≡ write_answer (window_answer q w c) f w c)
      (i : fill_window q f w c (m - c) ≡ total) where
    pub column_turn : fill_window q g w (c + 1) (m - (c + 1)) ≡ total
    unfolding fill_window unless_refused
    column_turn = rw k (sym first_column ∙ i)
      where
        first_column : fill_window q f w c (m - c) ≡ fill_window q (write_answer (window_answer q w c) f w c) w (c + 1) (m - (c + 1))
        first_column = let l : m - c ≡ suc (m - (c + 1)) = omega arith in rw (l, e, add-one c)

    pub column_last : g.refusal ≢ 0 → g ≡ total
    column_last z = sym (refused_rest g (c + 1) (m - (c + 1)) z) ∙ column_turn

  pub columns_done : (f : Filled) (c j : ℕ) {total : Filled} → j ≡ 0 → fill_window q f w c j ≡ total → f ≡ total
  unfolding fill_window
  columns_done f c j e i = rw e at i

-- ---- the windows

pub refused_windows : (q : Job) (m : ℕ) (ws : List ℕ) (f : Filled) → f.refusal ≢ 0 → fill q f ws m ≡ f
unfolding fill
refused_windows q m [] f h = refl
refused_windows q m (w ∷ ws) f h = ap (λ (g : Filled). fill q g ws m) (refused_rest q w f 0 m h) ∙ refused_windows q m ws f h
