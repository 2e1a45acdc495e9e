-- A value within k / 4,096 of a mean of at most 2^30 in size is shown within k / 4,096 + 1 / 2 of it. Assumes nothing.
use Rattle.std.specs.Prelude.{ℕ, ◌+◌, ◌*◌, ◌^◌, ◌≤◌, ◌<◌, ◌≡◌, true, ℤ, nat_abs, ◌-ℤ◌, ◌*ℤ◌, Float}
use Rattle.std.proofs.lemmas.Bool.{false≢true}
use Rattle.std.proofs.Math.IntN.{pos}
use Rattle.std.specs.Float.Ieee.{nan, up, down}
use Rattle.std.specs.Float.{inf, fin}
use Rattle.std.specs.Float.Ieee.Fits.{down_pos}
use Rattle.std.specs.Float.Ieee.Nearest.{closest}
use Rattle.model.specs.Words.{signed}
use Rattle.model.specs.Figure.{on_panel, nearest_whole, shown_value}
use Rattle.demand.specs.Demand.{within}
use Rattle.demand.specs.PanelBound.{shown_within}
use Rattle.laws.specs.Tests.{yes_le, le_is}
use Rattle.figure_bound.specs.Near.{shown}

module _ (k n : ℕ) (z : ℤ) (N : 0 < n) (K : k ≤ 4096) (small : nat_abs z ≤ 2 ^ 30 * n) where
  -- a value within k / 4,096 of z / n is shown within k / 4,096 + 1 / 2 of it
  pub shown_near : (x : Float) → within k x z n ≡ true → shown_within k (shown_value x) z n ≡ true
  unfolding within shown_within shown_value on_panel nearest_whole
  shown_near nan h = absurd (false≢true h)
  shown_near (inf s) h = absurd (false≢true h)
  shown_near (fin s m e) h =
      let a = m * up e in
      let b = down e in
      let r = shown k n z N K small s a b (down_pos e) (le_is (nat_abs (signed s a *ℤ pos n -ℤ z *ℤ pos b) * 4096) (k * (n * b)) h) in
      rw (yes_le a (2 ^ 53 * b) r.1, yes_le (nat_abs (signed s (closest a b) *ℤ pos n -ℤ z) * 4096) ((k + 2048) * n) r.0)
