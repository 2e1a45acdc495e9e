-- What a ring holds after writes without gaps (specs/Hold.antt): the flag after each write, and the order of reading: the held numbers, ascending. So it
-- is with the flag that opening works out, too. Assumes nothing.
use Prim.Native.Nat.{ℕ, zero, suc, ◌+◌, ◌-◌, ◌*◌, ◌/◌, ◌%◌, ◌≤◌, ◌<◌, max}
use Rattle.std.proofs.Math.Nat.{suc-mod, mod-le, mod-add-div', mod-eq-sub-mod, mul-mod_left, div-eq_of_lt-le, div-mul-le_self, mod-eq_of_lt, mul-add-mod_self_right}
use Rattle.std.proofs.Common.{mod-lt, mul-pos, sym, ap, ◌∙◌}
use native.Mathlib.Omega.{arith}
use Rattle.std.proofs.Math.Decide.{dec_lt}
use Rattle.std.specs.Prelude.{◌≡◌, refl, ◌≢◌, Bool, ◌||◌, List, ltb}
use Rattle.std.proofs.Math.Bool.{true, false}
use Rattle.model.specs.Ring.{Ring, slots, cursor, stamp, is_empty, first_place, order, walk, any_stamp, wrap_flag}
use Rattle.laws.specs.Tests.{yes_lt, no_lt, no_eq}
use Rattle.ring_theory.specs.Numbers.{slots_of, walk_is, next-mod, next_zero}
use Rattle.ring_theory.specs.Sound.{some_slots}
use Rattle.ring_theory.specs.Column.{Keeps, keeps_start}
use Rattle.ring_theory.specs.Above.{any_none, any_some}
use Rattle.ring_theory.specs.Hold.{Slab, newest_slot, Flag, State, Blank, order_none, first_held, Reads}

-- ---- the flag

flag_none : (n a : ℕ) → Flag n a 0 false
flag_none n a = record { wrapped_far = λ t. absurd t; else_near = λ t. omega (arith, div-mul-le_self (a + 0 - 1) n) }

-- any number may be its first
pub blank_state : {r : Ring} {n m d : ℕ} (a : ℕ) → Blank r n m d → State r n m d a 0
unfolding newest_slot
blank_state {r} {n} {m} {d} a h = record {
  slab-is = h.slab-is;
  cursor-is = h.cursor-is;
  stamps = keeps_start 0 (stamp r.slab) n a (λ (q : ℕ). q * d) h.stamps;
  flag = rw h.flag (flag_none n a);
}

same_quot : (b n : ℕ) → suc (b % n) < n → suc b / n ≡ b / n
same_quot b n h = div-eq_of_lt-le n (lin (b / n * n) (b % n) b (mod-add-div' b n)) (lin2 (b / n) (b % n) b n (mod-add-div' b n) h)
  where
    lin : (x r b : ℕ) → r + x ≡ b → x ≤ suc b
    lin x r b e = omega arith

    lin2 : (x r b n : ℕ) → r + x * n ≡ b → suc r < n → suc b < (x + 1) * n
    lin2 x r b n e h = omega arith

-- the next number
flag_next : (n a k : ℕ) (w : Bool) → 0 < n → Flag n a (suc k) w → Flag n a (suc (suc k)) (w || ltb ((a + suc k) % n) ((a + k) % n))
flag_next n a k true z f = record { wrapped_far = λ t. omega (arith, f.wrapped_far tt); else_near = λ t. absurd t }
flag_next n a k false z f =
    let s : a + suc k ≡ suc (a + k) = omega arith in
    let t : a + suc (suc k) - 1 ≡ suc (a + k) = omega arith in
    let u : a + suc k - 1 ≡ a + k = omega arith in
    rw s (go (a + k) s t (rw u at (f.else_near tt)) (dec_lt (suc ((a + k) % n)) n))
  where
    go : (b : ℕ) → a + suc k ≡ suc b → a + suc (suc k) - 1 ≡ suc b → b / n * n ≤ max a (a + suc k - n) → Dec (suc (b % n) < n) → Flag n a (suc (suc k)) (ltb (suc b % n) (b % n))
    go b s t near (yes h) =
        let e : suc b % n ≡ suc (b % n) = next-mod b n h in
        let g : suc b / n ≡ b / n = same_quot b n h in
        rw (e, no_lt (suc (b % n)) (b % n) (omega arith)) (record { wrapped_far = λ x. absurd x; else_near = λ x. rw (t, g) (omega arith) })
    go b s t near (no h) =
        let m : b % n < n = mod-lt b z in
        let e : suc b % n ≡ 0 = next_zero b n (omega arith) in
        last e (dec_lt 0 (b % n))
      where
        last : suc b % n ≡ 0 → Dec (0 < b % n) → Flag n a (suc (suc k)) (ltb (suc b % n) (b % n))
        last e (yes p) = rw (e, yes_lt 0 (b % n) p) (record { wrapped_far = λ x. omega (arith, mod-le b n); else_near = λ x. absurd x })
        last e (no p) = rw (e, no_lt 0 (b % n) (omega arith)) (record { wrapped_far = λ x. absurd x; else_near = λ x. rw t (omega (arith, div-mul-le_self (suc b) n)) })

-- a write of number a + k, the next (e is k) or the newest again (e is k + 1)
pub flag_step : (n a e k : ℕ) (w : Bool) → 0 < n → k ≤ e → e ≤ suc k → Flag n a e w → Flag n a (suc k) (w || ltb ((a + k) % n) (newest_slot n a e))
unfolding newest_slot
flag_step n a zero zero true z l u f = record { wrapped_far = λ t. omega (arith, f.wrapped_far tt); else_near = λ t. absurd t }
flag_step n a zero zero false z l u f =
    rw (no_lt ((a + 0) % n) 0 (omega arith)) (record { wrapped_far = λ t. absurd t; else_near = λ t. omega (arith, div-mul-le_self (a + 1 - 1) n) })
flag_step n a zero (suc k) w z l u f = absurd (omega arith)
flag_step n a (suc j) k w z l u f = go (dec_lt j k)
  where
    same : (v : Bool) → Flag n a (suc j) v → Flag n a (suc j) (v || ltb ((a + j) % n) ((a + j) % n))
    same true g = g
    same false g = rw (no_lt ((a + j) % n) ((a + j) % n) (omega arith)) g

    go : Dec (j < k) → Flag n a (suc k) (w || ltb ((a + k) % n) ((a + j) % n))
    go (yes p) = let e : k ≡ suc j = omega arith in rw e (flag_next n a j w z f)
    go (no p) = let e : k ≡ j = omega arith in rw e (same w f)

-- ---- the order of reading

order_round : (r : Ring) (n k : ℕ) → cursor r.slab ≡ k → stamp r.slab k ≢ 0 → r.wrapped ≡ true → slots r.slab ≡ n → order r ≡ walk n (suc k % n) n
unfolding order first_place is_empty
order_round r n k e f w g = rw (e, no_eq (stamp r.slab k) 0 f, w, g)

order_line : (r : Ring) (n k : ℕ) → cursor r.slab ≡ k → stamp r.slab k ≢ 0 → r.wrapped ≡ false → slots r.slab ≡ n → order r ≡ walk n 0 (suc k)
unfolding order first_place is_empty
order_line r n k e f w g = rw (e, no_eq (stamp r.slab k) 0 f, w, g)

pub reads : {r : Ring} {n m d a e : ℕ} → State r n m d a e → 0 < a → Reads r n a e
unfolding newest_slot first_held
reads {r} {n} {m} {d} {a} {e = zero} h z = record {
  from = a;
  many = 0;
  order_is = order_none r (rw h.cursor-is (h.stamps.none 0 (some_slots h.slab-is.sound) (λ q x y. absurd (omega arith)))) ∙ unfold slots_of in refl;
  ends = refl;
  fits = omega arith;
  back = omega arith;
}
reads {r} {n} {m} {d} {a} {e = suc k} h z = go r.wrapped refl
  where
    zn : 0 < n
    zn = some_slots h.slab-is.sound

    full : stamp r.slab ((a + k) % n) ≢ 0
    full e =
        let p : 0 < (a + k) * d = mul-pos (omega arith) h.slab-is.long in
        omega (arith, sym (h.stamps.has (a + k) (omega arith) (omega arith) (omega (arith, zn))) ∙ e)

    go : (w : Bool) → r.wrapped ≡ w → Reads r n a (suc k)
    go true e =
        let far : n ≤ a + suc k = h.flag.wrapped_far (rw e tt) in
        let near : n ≤ suc (a + k) = omega arith in
        let st : suc ((a + k) % n) % n ≡ (suc (a + k) - n) % n = sym (suc-mod (a + k) n) ∙ mod-eq-sub-mod near in
        record {
          from = suc (a + k) - n;
          many = n;
          order_is = order_round r n ((a + k) % n) h.cursor-is full e h.slab-is.sound.slots-is ∙ rw st (walk_is n (suc (a + k) - n) n);
          ends = omega arith;
          fits = omega arith;
          back = omega arith;
        }
    go false e =
        let u : a + suc k - 1 ≡ a + k = omega arith in
        let near : (a + k) / n * n ≤ max a (a + suc k - n) = rw u at (h.flag.else_near (rw e tt)) in
        record {
          from = (a + k) / n * n;
          many = suc ((a + k) % n);
          order_is = order_line r n ((a + k) % n) h.cursor-is full e h.slab-is.sound.slots-is
              ∙ ap (λ (i : ℕ). walk n i (suc ((a + k) % n))) (sym (mul-mod_left ((a + k) / n) n)) ∙ walk_is n ((a + k) / n * n) (suc ((a + k) % n));
          ends = omega (arith, mod-add-div' (a + k) n);
          fits = mod-lt (a + k) zn;
          back = near;
        }

-- ---- the flag that opening works out does as well: it follows from the cursor and the stamps alone, whatever the flag was

module _ {s : List ℕ} {n m d : ℕ} (a : ℕ) (h : Slab s n m d) where
  -- the cursor and the stamps after the e numbers from a on
  abbrev Has : ℕ → Type 0
  Has e = (cursor s ≡ newest_slot n a e) × Keeps 0 (stamp s) n a e (λ (q : ℕ). q * d)

  -- a stamp above the cursor is a number's of the lap before
  some_above : (e : ℕ) → Has e → (i : ℕ) → cursor s < i → i < n → stamp s i ≢ 0 → n ≤ a + e
  unfolding newest_slot
  some_above zero g i lo hi ne = absurd (ne (g.1.none i hi (λ q x y. absurd (omega arith))))
  some_above (suc k) g i lo hi ne = go (dec_lt (a + k) n)
    where
      first_lap : a + k < n → (q : ℕ) → a ≤ q → q < a + suc k → q % n ≢ i
      first_lap x q y z e =
          let f : (a + k) % n ≡ a + k = mod-eq_of_lt x in
          let j : q % n ≡ q = mod-eq_of_lt (omega arith) in
          omega (arith, g.0)

      go : Dec (a + k < n) → n ≤ a + suc k
      go (yes x) = absurd (ne (g.1.none i hi (first_lap x)))
      go (no x) = omega arith

  -- without one, the slots up to the cursor have every held number: the last number of the lap before would stand in the last slot
  none_above : (e : ℕ) → Has e → ((i : ℕ) → cursor s < i → i < n → stamp s i ≡ 0) → (a + e - 1) / n * n ≤ max a (a + e - n)
  unfolding newest_slot
  none_above zero g f = omega (arith, div-mul-le_self (a + 0 - 1) n)
  none_above (suc k) g f = let u : a + suc k - 1 ≡ a + k = omega arith in rw u (go ((a + k) / n) (mod-add-div' (a + k) n))
    where
      zn : 0 < n
      zn = some_slots h.sound

      slot : (x : ℕ) → (x * n + (n - 1)) % n ≡ n - 1
      slot x = mul-add-mod_self_right x n (n - 1) ∙ mod-eq_of_lt (omega (arith, zn))

      go : (x : ℕ) → (a + k) % n + x * n ≡ a + k → x * n ≤ max a (a + suc k - n)
      go zero e = omega arith
      go (suc x) e = last (dec_lt (max a (a + suc k - n)) (suc x * n))
        where
          last : Dec (max a (a + suc k - n) < suc x * n) → suc x * n ≤ max a (a + suc k - n)
          last (no l) = omega arith
          last (yes l) =
              let t : stamp s (n - 1) ≡ (x * n + (n - 1)) * d = rw (slot x) at (g.1.has (x * n + (n - 1)) (omega (arith, zn)) (omega (arith, zn)) (omega (arith, zn))) in
              let p : 0 < (x * n + (n - 1)) * d = mul-pos (omega (arith, zn)) h.long in
              absurd (omega (arith, f (n - 1) (omega (arith, zn, g.0)) (omega (arith, zn))))

  flag_opened : (e : ℕ) → Has e → Flag n a e (wrap_flag s)
  unfolding wrap_flag
  flag_opened e g = rw h.sound.slots-is (go (any_stamp s (suc (cursor s)) (n - suc (cursor s))) refl)
    where
      go : (w : Bool) → any_stamp s (suc (cursor s)) (n - suc (cursor s)) ≡ w → Flag n a e w
      go true f = let i = any_some s (suc (cursor s)) (n - suc (cursor s)) f in
          record { wrapped_far = λ t. some_above e g i.0 i.1 (omega (arith, i.1, i.2)) i.3; else_near = λ t. absurd t }
      go false f = record {
        wrapped_far = λ t. absurd t;
        else_near = λ t. none_above e g (λ i lo hi. any_none s (suc (cursor s)) (n - suc (cursor s)) f i lo (omega arith));
      }

-- the ring as opening leaves it
pub state_opened : {r : Ring} {n m d a e : ℕ} → State r n m d a e → State (record { slab = r.slab; wrapped = wrap_flag r.slab }) n m d a e
state_opened {a = a} {e = e} h = record { slab-is = h.slab-is; cursor-is = h.cursor-is; stamps = h.stamps; flag = flag_opened a h.slab-is e (h.cursor-is, h.stamps) }
