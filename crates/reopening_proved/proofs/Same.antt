-- Two flags, one reading: where a ring is tidy with either, its ends and the points of every column and range are the same. The flags differ only where no
-- slot above the cursor has a stamp; a wrapped reading begins with those slots, and they give neither an end nor a point. Assumes nothing.
use Prim.Native.Nat.{ℕ, zero, suc, ◌+◌, ◌-◌, ◌≤◌, ◌<◌}
use Rattle.std.proofs.Common.{arith, ap, ◌∙◌}
use Rattle.std.proofs.Math.Decide.{ℕ_discrete}
use Rattle.std.specs.Prelude.{◌≡◌, ◌≢◌, Bool, true, false, List, [], ◌++◌}
use Rattle.std.proofs.Math.Path.{refl, sym}
use Rattle.model.specs.Ring.{Ring, cursor, stamp, order, end_of, or_stamp, first_stamp, oldest, newest}
use Rattle.model.specs.Read.{is_handed}
use Rattle.ring_theory.specs.Numbers.{upto}
use Rattle.ring_theory.specs.Sound.{Sound}
use Rattle.ring_theory.specs.Points.{keep, points_in, points}
use Rattle.ring_theory.specs.Hold.{order_none}
use Rattle.ring_theory.proofs.Read.{out_fresh}
use Rattle.query_theory.specs.Order.{order_plain, order_wrapped}
use Rattle.query_theory.proofs.Order.{points_wrapped}
use Rattle.reopening_proved.specs.Tidy.{Tidy}

-- of m columns
pub record Same (m : ℕ) (r r' : Ring) : Type 0 where
  pub oldest-is : oldest r ≡ oldest r'
  pub newest-is : newest r ≡ newest r'
  pub points_are : (c start end : ℕ) → c < m → points r c start end ≡ points r' c start end

same_refl : (m : ℕ) (r : Ring) → Same m r r
same_refl m r = record { oldest-is = refl; newest-is = refl; points_are = λ c start end h. refl }

same_sym : {m : ℕ} {r r' : Ring} → Same m r r' → Same m r' r
same_sym h = record { oldest-is = sym h.oldest-is; newest-is = sym h.newest-is; points_are = λ c start end k. sym (h.points_are c start end k) }

-- ---- k slots from slot q on that give nothing

first_skips : (s : List ℕ) (q k : ℕ) (rest : List ℕ) → ((i : ℕ) → q ≤ i → i < q + k → stamp s i ≡ 0) → first_stamp s (upto q k ++ rest) ≡ first_stamp s rest
unfolding first_stamp upto or_stamp
first_skips s q zero rest h = refl
first_skips s q (suc k) rest h = rw (h q (omega arith) (omega arith)) (first_skips s (suc q) k rest (λ i x y. h i (omega arith) (omega arith)))

none_handed : (s : List ℕ) (c start end q k : ℕ) → ((i : ℕ) → q ≤ i → i < q + k → is_handed s c start end i ≡ false) → points_in s c start end (upto q k) ≡ []
unfolding points_in upto keep
none_handed s c start end q zero h = refl
none_handed s c start end q (suc k) h = rw (h q (omega arith) (omega arith)) (none_handed s c start end (suc q) k (λ i x y. h i (omega arith) (omega arith)))

-- ---- the two readings of a slab

module _ (s : List ℕ) {n m d : ℕ} (h : Sound s n m d) where
  abbrev with : Bool → Ring
  with w = record { slab = s; wrapped = w }

  -- an empty ring's
  same-empty : stamp s (cursor s) ≡ 0 → Same m (with true) (with false)
  unfolding oldest newest points
  same-empty e = record {
    oldest-is = rw (order_none (with true) e, order_none (with false) e);
    newest-is = refl;
    points_are = λ c start end k. rw (order_none (with true) e, order_none (with false) e);
  }

  module _ (some : stamp s (cursor s) ≢ 0) (ty : Tidy n m (with false)) where
    zero_above : (i : ℕ) → suc (cursor s) ≤ i → i < suc (cursor s) + (n - suc (cursor s)) → (i < n) × (stamp s i ≡ 0)
    zero_above i lo hi = let k : i < n = omega (arith, h.cursor_in) in (k, ty.above refl i lo k)

    same_some : Same m (with true) (with false)
    unfolding oldest newest points
    same_some = record {
      oldest-is = rw (order_wrapped (with true) h some refl, order_plain (with false) h some refl)
          (ap end_of (first_skips s (suc (cursor s)) (n - suc (cursor s)) (upto 0 (suc (cursor s))) (λ i lo hi. (zero_above i lo hi).1)));
      newest-is = refl;
      points_are = λ c start end k. wrapped c start end k ∙ sym (ap (points_in s c start end) (order_plain (with false) h some refl));
    }
      where
        wrapped : (c start end : ℕ) → c < m → points_in s c start end (order (with true)) ≡ points_in s c start end (upto 0 (suc (cursor s)))
        wrapped c start end k =
            unfold points in (points_wrapped (with true) h some refl c start end)
            ∙ rw (none_handed s c start end (suc (cursor s)) (n - suc (cursor s))
            (λ i lo hi. let z = zero_above i lo hi in out_fresh s n c start end i (ty.unstamped i c z.0 k z.1)))

  other_flag : Tidy n m (with false) → Same m (with true) (with false)
  other_flag ty = go (ℕ_discrete (stamp s (cursor s)) 0)
    where
      go : Dec (stamp s (cursor s) ≡ 0) → Same m (with true) (with false)
      go (yes e) = same-empty e
      go (no e) = same_some e ty

  pub same-reading : (w v : Bool) → Tidy n m (with w) → Tidy n m (with v) → Same m (with w) (with v)
  same-reading true true t u = same_refl m (with true)
  same-reading false false t u = same_refl m (with false)
  same-reading true false t u = other_flag u
  same-reading false true t u = same_sym (other_flag t)
