-- Both ends of a ring exist or neither does: the cursor's slot is the last that a reading comes to, so where its stamp is not 0, some stamp is found.
-- Assumes nothing.
use Prim.Native.Nat.{ℕ, zero, suc, ◌-◌}
use Rattle.std.proofs.Common.{zero-add, arith, append_assoc}
use Rattle.std.specs.Prelude.{◌≡◌, ◌≢◌, Bool, true, false, List, [], ◌∷◌, ◌++◌, Some}
use Rattle.std.proofs.Math.Path.{refl}
use Rattle.model.specs.Ring.{Ring, cursor, stamp, order, end_of, or_stamp, first_stamp, oldest, newest}
use Rattle.ring_theory.specs.Numbers.{upto}
use Rattle.ring_theory.specs.Sound.{Sound}
use Rattle.ring_theory.specs.Hold.{order_none}
use Rattle.query_theory.specs.Order.{order_plain, order_wrapped, upto-last}
use Rattle.query_theory.specs.Ends.{BothOrNeither, both, neither}

-- a stamp is found where the last slot has one
found_last : (s xs : List ℕ) (i : ℕ) → stamp s i ≢ 0 → first_stamp s (xs ++ (i ∷ [])) ≢ 0
unfolding first_stamp
found_last s [] i h = go (stamp s i) h
  where
    go : (t : ℕ) → t ≢ 0 → or_stamp t 0 ≢ 0
    go zero h = unfold or_stamp in h
    go (suc t) h = unfold or_stamp in h
found_last s (x ∷ xs) i h = go (stamp s x) (found_last s xs i h)
  where
    go : (t : ℕ) → first_stamp s (xs ++ (i ∷ [])) ≢ 0 → or_stamp t (first_stamp s (xs ++ (i ∷ []))) ≢ 0
    go zero l = unfold or_stamp in l
    go (suc t) l = unfold or_stamp in (λ e. omega (arith, e))

-- an end by its stamp
end_there : (t : ℕ) → t ≢ 0 → end_of t ≡ Some t
unfolding end_of
end_there zero h = absurd (h refl)
end_there (suc t) h = refl

module _ (r : Ring) {n m d : ℕ} (h : Sound r.slab n m d) where
  abbrev s : List ℕ
  s = r.slab

  abbrev k : ℕ
  k = cursor r.slab

  -- the cursor's slot is read last
  last_slot : (w : Bool) → r.wrapped ≡ w → stamp s k ≢ 0 → first_stamp s (order r) ≢ 0
  last_slot false w some = rw (order_plain r h some w, upto-last 0 k, zero-add k) (found_last s (upto 0 k) k some)
  last_slot true w some =
      rw (order_wrapped r h some w, upto-last 0 k, zero-add k, ← append_assoc (upto (suc k) (n - suc k)) (upto 0 k) (k ∷ []))
      (found_last s (upto (suc k) (n - suc k) ++ upto 0 k) k some)

  pub ends-agree : BothOrNeither (oldest r) (newest r)
  unfolding oldest newest
  ends-agree = go (stamp s k) refl
    where
      go : (t : ℕ) → stamp s k ≡ t → BothOrNeither (end_of (first_stamp s (order r))) (end_of (stamp s k))
      go zero e = neither (unfold first_stamp end_of in (rw (order_none r e))) (unfold end_of in (rw e))
      go (suc t) e =
          let some : stamp s k ≢ 0 = λ z. omega (arith, e, z) in
          both (end_there _ (last_slot r.wrapped refl some)) (end_there _ some)
