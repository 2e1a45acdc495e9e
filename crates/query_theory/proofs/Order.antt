-- The points of a wrapped reading, in its order (specs/Order.antt). Assumes nothing.
use Prim.Native.Nat.{ℕ, suc, ◌-◌}
use Rattle.std.specs.Prelude.{◌≡◌, ◌≢◌, true, ◌++◌}
use Rattle.model.specs.Ring.{Ring, cursor, stamp}
use Rattle.ring_theory.specs.Numbers.{upto}
use Rattle.ring_theory.specs.Sound.{Sound}
use Rattle.ring_theory.specs.Points.{points_in, points}
use Rattle.ring_theory.proofs.Points.{points-append}
use Rattle.query_theory.specs.Order.{order_wrapped}

module _ (r : Ring) {n m d : ℕ} (h : Sound r.slab n m d) (some : stamp r.slab (cursor r.slab) ≢ 0) where
  -- its points are those of the slots after the cursor, then of those up to it
  pub points_wrapped : r.wrapped ≡ true → (c start end : ℕ) → points r c start end
      ≡ points_in r.slab c start end (upto (suc (cursor r.slab)) (n - suc (cursor r.slab))) ++ points_in r.slab c start end (upto 0 (suc (cursor r.slab)))
  unfolding points
  points_wrapped w c start end =
      rw (order_wrapped r h some w) (points-append r.slab c start end (upto (suc (cursor r.slab)) (n - suc (cursor r.slab))) (upto 0 (suc (cursor r.slab))))
