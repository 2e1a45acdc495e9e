-- Two stores that agree in the last point's value show the same on the panel: `same-on-panel : SameOnPanel`. What is shown depends on the number alone, so not on
-- how it is written nor on the sign of zero. Assumes nothing.
use Rattle.std.specs.Prelude.{ℕ, ◌*◌, ◌<◌, ◌≡◌, refl, ◌≢◌, Bool, true, false, ◌&&◌, ◌||◌, cond, eqb, Float, Option, Some, None}
use Rattle.std.proofs.Common.{zero-mul, arith, sym, ap, ◌∙◌}
use Rattle.std.proofs.Math.Nat.{eq_of_mul-eq-mul_right}
use Rattle.std.specs.Bool.{beq}
use Rattle.std.proofs.lemmas.Bool.{false≢true}
use Rattle.std.specs.Float.{nan, inf, fin, binary64}
use Rattle.std.specs.Float.Ieee.{of_bits, eq, up, down}
use Rattle.std.specs.Float.Ieee.Fits.{down_pos}
use Rattle.std.specs.Float.Ieee.Nearest.{closest, closest_same}
use Rattle.model.specs.Query.{QueryReply, found, not_found}
use Rattle.model.specs.Words.{signed}
use Rattle.model.specs.Figure.{shows, not_shown, on_panel, nearest_whole, shown_value, shown_point, panel_on, last_on, reading, panel, agree, SameOnPanel}
use Rattle.laws.specs.Tests.{and_left, and_right, eq_is}
use Rattle.model.specs.declared.Point.{Point}

-- ---- one number, one whole number

same_sign : (s t : Bool) (w : ℕ) → beq s t ≡ true → signed s w ≡ signed t w
same_sign true true w e = refl
same_sign true false w e = absurd (false≢true e)
same_sign false true w e = absurd (false≢true e)
same_sign false false w e = refl

zero_sign : (s t : Bool) → signed s 0 ≡ signed t 0
unfolding signed
zero_sign true true = refl
zero_sign true false = refl
zero_sign false true = refl
zero_sign false false = refl

-- ±a / b and ±c / d, equal as numbers
same_size : (s t : Bool) (a b c d : ℕ) → 0 < b → 0 < d → eqb (a * d) (c * b) && (beq s t || eqb (a * d) 0) ≡ true → signed s (closest a b) ≡ signed t (closest c d)
same_size s t a b c d B D h = go (beq s t) refl (and_right (eqb (a * d) (c * b)) (beq s t || eqb (a * d) 0) h)
  where
    cross : a * d ≡ c * b
    cross = eq_is (a * d) (c * b) (and_left (eqb (a * d) (c * b)) (beq s t || eqb (a * d) 0) h)

    same : closest a b ≡ closest c d
    same = closest_same a b c d B D cross

    go : (z : Bool) → beq s t ≡ z → z || eqb (a * d) 0 ≡ true → signed s (closest a b) ≡ signed t (closest c d)
    go true e g = rw same (same_sign s t (closest c d) e)
    go false e g =
        let nil : a ≡ 0 = eq_of_mul-eq-mul_right d D a 0 (eq_is (a * d) 0 g ∙ sym (zero-mul d)) in
        let none : closest a b ≡ 0 = closest_same a b 0 1 B (omega arith) (omega arith) in
        rw (← same, none) (zero_sign s t)

same_whole : (x y : Float) → eq x y ≡ true → nearest_whole x ≡ nearest_whole y
unfolding eq nearest_whole
same_whole nan y e = absurd (false≢true e)
same_whole (inf s) nan e = absurd (false≢true e)
same_whole (inf s) (inf t) e = refl
same_whole (inf s) (fin t n d) e = absurd (false≢true e)
same_whole (fin s m i) nan e = absurd (false≢true e)
same_whole (fin s m i) (inf t) e = absurd (false≢true e)
same_whole (fin s m i) (fin t n j) e = same_size s t (m * up i) (down i) (n * up j) (down j) (down_pos i) (down_pos j) e

-- ---- from the value to the store

same_value : (x y : Float) → ((n : ℕ) → shown_value x ≢ not_shown n) → ((n : ℕ) → shown_value y ≢ not_shown n) → eq x y ≡ true → shown_value x ≡ shown_value y
unfolding shown_value
same_value x y h h' e = go (on_panel x) (on_panel y) (h 17) (h' 17)
  where
    go : (a b : Bool) → cond a (shows (nearest_whole x)) (not_shown 17) ≢ not_shown 17 → cond b (shows (nearest_whole y)) (not_shown 17) ≢ not_shown 17
        → cond a (shows (nearest_whole x)) (not_shown 17) ≡ cond b (shows (nearest_whole y)) (not_shown 17)
    go true true f f' = ap shows (same_whole x y e)
    go true false f f' = absurd (f' refl)
    go false b f f' = absurd (f refl)

same_point : (x y : Option Point) → ((n : ℕ) → shown_point x ≢ not_shown n) → ((n : ℕ) → shown_point y ≢ not_shown n) → agree x y ≡ true → shown_point x ≡ shown_point y
unfolding shown_point agree
same_point None None h h' e = refl
same_point None (Some q) h h' e = absurd (false≢true e)
same_point (Some p) None h h' e = absurd (false≢true e)
same_point (Some p) (Some q) h h' e = same_value (of_bits binary64 p.value) (of_bits binary64 q.value) h h' e

same-reading : (q r : QueryReply) → ((n : ℕ) → panel_on q ≢ not_shown n) → ((n : ℕ) → panel_on r ≢ not_shown n) → agree (last_on q) (last_on r) ≡ true → panel_on q ≡ panel_on r
unfolding panel_on
same-reading (not_found n) r h h' e = absurd (h n refl)
same-reading (found a) (not_found n) h h' e = absurd (h' n refl)
same-reading (found a) (found b) h h' e = same_point (last_on (found a)) (last_on (found b)) h h' e

pub same-on-panel : SameOnPanel
unfolding SameOnPanel panel
same-on-panel l l' k c j k' c' j' h h' e = same-reading (reading l k c j) (reading l' k' c' j') h h' e
