-- The reading order of a ring that is not empty: the slots up to the cursor; when wrapped, the slots after the cursor before them. Assumes nothing.
use Prim.Native.Nat.{ℕ, zero, suc, ◌+◌, ◌-◌, ◌%◌, ◌≤◌, ◌<◌}
use Rattle.std.proofs.Common.{add-zero, mod-eq_of_lt, arith, sym, ap, ◌∙◌}
use Rattle.std.proofs.Math.Nat.{mod_self}
use Rattle.std.specs.Prelude.{◌≡◌, refl, ◌≢◌, true, false, [], ◌∷◌, ◌++◌}
use Rattle.model.specs.Ring.{Ring, cursor, stamp, walk, is_empty, first_place, order}
use Rattle.laws.specs.Tests.{no_eq}
use Rattle.ring_theory.specs.Numbers.{upto, slots_of, slots-append, walk_is}
use Rattle.ring_theory.specs.Sound.{Sound}

-- the slots of numbers below n are these numbers
slots-low : (n q k : ℕ) → q + k ≤ n → slots_of n q k ≡ upto q k
unfolding slots_of upto
slots-low n q zero h = refl
slots-low n q (suc k) h =
    let l : q < n = omega arith in
    rw (mod-eq_of_lt l, slots-low n (suc q) k (omega arith))

-- k slots from slot 0 on
walk-low : (n k : ℕ) → 0 < n → k ≤ n → walk n 0 k ≡ upto 0 k
walk-low n k h l = ap (λ (i : ℕ). walk n i k) (sym (mod-eq_of_lt h)) ∙ walk_is n 0 k ∙ slots-low n 0 k (omega arith)

-- once round, from slot k on
walk_round : (n k : ℕ) → k ≤ n → 0 < n → walk n (k % n) n ≡ upto k (n - k) ++ upto 0 k
walk_round n k h z =
    let e : n ≡ (n - k) + k = omega arith in
    let f : k + (n - k) ≡ n = omega arith in
    let tail : slots_of n n k ≡ upto 0 k = sym (walk_is n n k) ∙ ap (λ (i : ℕ). walk n i k) (mod_self n) ∙ walk-low n k z h in
    walk_is n k n ∙ ap (slots_of n k) e ∙ slots-append n k (n - k) k ∙ rw (f, tail, slots-low n k (n - k) (omega arith))

module _ (r : Ring) {n m d : ℕ} (h : Sound r.slab n m d) (some : stamp r.slab (cursor r.slab) ≢ 0) where
  pub order_plain : r.wrapped ≡ false → order r ≡ upto 0 (suc (cursor r.slab))
  unfolding order first_place is_empty
  order_plain w = rw (no_eq (stamp r.slab (cursor r.slab)) 0 some, w, h.slots-is) (walk-low n (suc (cursor r.slab)) (omega (arith, h.cursor_in)) h.cursor_in)

  -- a wrapped reading is the slots after the cursor, then those up to it
  pub order_wrapped : r.wrapped ≡ true → order r ≡ upto (suc (cursor r.slab)) (n - suc (cursor r.slab)) ++ upto 0 (suc (cursor r.slab))
  unfolding order first_place is_empty
  order_wrapped w = rw (no_eq (stamp r.slab (cursor r.slab)) 0 some, w, h.slots-is) (walk_round n (suc (cursor r.slab)) h.cursor_in (omega (arith, h.cursor_in)))

-- the last of k numbers
pub upto-last : (q k : ℕ) → upto q (suc k) ≡ upto q k ++ ((q + k) ∷ [])
unfolding upto
upto-last q zero = rw (add-zero q)
upto-last q (suc k) = let e : q + suc k ≡ suc q + k = omega arith in rw (upto-last (suc q) k, e)
