-- What the panel shows of a value depends only on its sign and on the fraction that it equals: `HasValue x s a c` says that x has the sign s and is a / c in
-- size. Assumes nothing.
use Rattle.std.specs.Prelude.{ℕ, ◌*◌, ◌^◌, ◌≤◌, ◌<◌, ◌≡◌, refl, Bool, true, false, T, leb, Float}
use Rattle.std.proofs.Common.{le_trans, le_of_eq, mul_right_comm, mul-le-mul_right, le_of_mul-le-mul_right, sym, ap₂, leb→le, le→leb}
use Rattle.std.specs.Float.{nan, inf, fin}
use Rattle.std.specs.Float.Ieee.{up, down}
use Rattle.std.specs.Float.Ieee.Exact.{HasValue}
use Rattle.std.specs.Float.Ieee.Fits.{down_pos}
use Rattle.std.specs.Float.Ieee.Nearest.{closest, closest_same}
use Rattle.model.specs.Words.{signed}
use Rattle.model.specs.Figure.{on_panel, nearest_whole}

-- the nearest whole number is that of any fraction that the value equals
pub whole_of : (x : Float) (s : Bool) (a c : ℕ) → 0 < c → HasValue x s a c → nearest_whole x ≡ signed s (closest a c)
unfolding nearest_whole
whole_of nan s a c C v = absurd v
whole_of (inf t) s a c C v = absurd v
whole_of (fin t m e) s a c C v = ap₂ signed v.0 (closest_same (m * up e) (down e) a c (down_pos e) C v.1)

same_test : (p q : Bool) → (T p → T q) → (T q → T p) → p ≡ q
same_test true true f g = refl
same_test true false f g = absurd (f tt)
same_test false true f g = absurd (g tt)
same_test false false f g = refl

-- x / d is a / c: where one is at most k, so is the other
carries : (x d a c k : ℕ) → 0 < d → x * c ≡ a * d → x ≤ k * d → a ≤ k * c
carries x d a c k D e h =
    le_of_mul-le-mul_right (le_trans (le_of_eq (sym e)) (le_trans (mul-le-mul_right c h) (le_of_eq (mul_right_comm k d c)))) D

-- and so is the bound
pub on-panel_of : (x : Float) (s : Bool) (a c : ℕ) → 0 < c → HasValue x s a c → on_panel x ≡ leb a (2 ^ 53 * c)
unfolding on_panel
on-panel_of nan s a c C v = absurd v
on-panel_of (inf t) s a c C v = absurd v
on-panel_of (fin t m e) s a c C v =
    same_test (leb (m * up e) (2 ^ 53 * down e)) (leb a (2 ^ 53 * c))
    (λ h. le→leb a (2 ^ 53 * c) (carries (m * up e) (down e) a c (2 ^ 53) (down_pos e) v.1 (leb→le (m * up e) (2 ^ 53 * down e) h)))
    (λ h. le→leb (m * up e) (2 ^ 53 * down e) (carries a c (m * up e) (down e) (2 ^ 53) C (sym v.1) (leb→le a (2 ^ 53 * c) h)))
