-- One write to a ring that took numbers without gaps: at the next number, or at the newest one again, as where several columns share a number or a window
-- is rewritten. The ring then holds what Hold says, with one number more or as many as before. Assumes nothing.
use Rattle.std.specs.Prelude.{ℕ, suc, ◌+◌, ◌-◌, ◌*◌, ◌/◌, ◌%◌, ◌^◌, ◌≤◌, ◌<◌, ◌≡◌, false, ◌||◌, List}
use Rattle.std.proofs.Common.{mul-div_cancel, mul-le-mul_right, mod-lt, arith, sym, ◌∙◌}
use Rattle.std.proofs.Math.Nat.{add-mod_right}
use Rattle.std.proofs.Math.Decide.{ℕ_discrete, dec_lt}
use Rattle.std.proofs.Math.Path.{refl, ap, subst}
use Rattle.std.proofs.Math.Dec.{ltb}
use Rattle.model.specs.Ring.{Ring, ColumnValue, cursor, stamp, is_old, write}
use Rattle.laws.specs.Tests.{no_lt}
use Rattle.ring_theory.specs.Numbers.{mod_ne}
use Rattle.ring_theory.specs.Write.{Fit, Wrote, flag_is}
use Rattle.ring_theory.specs.Sound.{some_slots, slot_is, sound-write}
use Rattle.ring_theory.proofs.Sound.{wrote_sound}
use Rattle.ring_theory.specs.Column.{Keeps, keeps_put}
use Rattle.ring_theory.specs.Hold.{Slab, Flag, State, newest_slot}
use Rattle.ring_theory.proofs.Hold.{flag_step}

module _ (r : Ring) (es : List ColumnValue) (q : ℕ) {n m d : ℕ} (h : Slab r.slab n m d) where
  slot_at : q * d / d % n ≡ q % n
  slot_at = rw (mul-div_cancel q h.long)

  -- what number q leaves
  pub at-number : Fit m es → q * d < 2 ^ 63 → Wrote r.slab (q % n) (q * d) es (write r es (q * d)).slab
  at-number f b = rw slot_at at (wrote_sound r es (q * d) n m d h.sound (omega arith) f)

  pub flag_at : (write r es (q * d)).wrapped ≡ (r.wrapped || ltb (q % n) (cursor r.slab))
  flag_at = flag_is r es (q * d) ∙ ap (λ (i : ℕ). r.wrapped || ltb i (cursor r.slab)) (slot_is h.sound (q * d) ∙ slot_at)

  pub slab-at : Fit m es → q * d < 2 ^ 63 → Slab (write r es (q * d)).slab n m d
  slab-at f b = record { sound = sound-write r es (q * d) n m d h.sound; long = h.long; low = λ i hi. go i hi (ℕ_discrete i (q % n)) }
    where
      go : (i : ℕ) → i < n → Dec (i ≡ q % n) → stamp (write r es (q * d)).slab i < 2 ^ 63
      go i hi (yes e) = rw (e, (at-number f b).stamp-is) b
      go i hi (no e) = rw ((at-number f b).stamp-other i (rw h.sound.slots-is hi) e) (h.low i hi)

module _ {r : Ring} (es : List ColumnValue) {n m d : ℕ} (f : Fit m es) where
  -- number a + k, the next (e is k) or the newest again (e is k + 1)
  pub step-at : {a e : ℕ} (k : ℕ) → k ≤ e → e ≤ suc k → State r n m d a e → (a + k) * d < 2 ^ 63 → State (write r es ((a + k) * d)) n m d a (suc k)
  unfolding newest_slot
  step-at {a} {e} k from to h b =
      let s = h.slab-is in
      let w = at-number r es (a + k) s f b in
      let z : 0 < n = some_slots s.sound in
      record {
        slab-is = slab-at r es (a + k) s f b;
        cursor-is = w.rest.cursor-is;
        stamps = keeps_put 0 (stamp r.slab) (stamp (write r es ((a + k) * d)).slab) n a e k ((a + k) * d) (λ (q : ℕ). q * d) (λ (q : ℕ). q * d) z from to
            w.stamp-is (λ i hi ne. w.stamp-other i (rw s.sound.slots-is hi) ne) refl (λ q x y. refl) h.stamps;
        flag = subst (Flag n a (suc k)) (sym (flag_at r es (a + k) s ∙ ap (λ (i : ℕ). r.wrapped || ltb ((a + k) % n) i) h.cursor-is))
            (flag_step n a e k r.wrapped z from to h.flag);
      }

  -- the next number
  pub step_new : {a e : ℕ} → State r n m d a e → (a + e) * d < 2 ^ 63 → State (write r es ((a + e) * d)) n m d a (suc e)
  step_new {a} {e} h b = step-at e (omega arith) (omega arith) h b

  -- the number that the ring is at
  pub step_same : {a e : ℕ} → State r n m d a (suc e) → (a + e) * d < 2 ^ 63 → State (write r es ((a + e) * d)) n m d a (suc e)
  step_same {a} {e} h b = step-at e (omega arith) (omega arith) h b

-- ---- such a write is never old: the slot has no stamp, one a lap behind, or this number's own

-- the slot of number a + k, where the numbers from a on were taken up to it or with it
kept_by : {C : ℕ → ℕ} {n a e : ℕ} (d k : ℕ) → 0 < n → k ≤ e → e ≤ suc k → Keeps 0 C n a e (λ (q : ℕ). q * d) → C ((a + k) % n) ≤ (a + k) * d
kept_by {C} {n} {a} {e} d k z from to h = go (dec_lt k e) (dec_lt k n)
  where
    go : Dec (k < e) → Dec (k < n) → C ((a + k) % n) ≤ (a + k) * d
    go (yes p) l = rw (h.has (a + k) (omega arith) (omega arith) (omega arith)) (omega arith)
    go (no p) (yes l) = rw (h.none ((a + k) % n) (mod-lt (a + k) z) (λ q x y. mod_ne q (a + k) n (omega arith) (omega arith))) (omega arith)
    go (no p) (no l) =
        let q = a + k - n in
        let e : a + k ≡ q + n = omega arith in
        let m : (a + k) % n ≡ q % n = ap (λ (x : ℕ). x % n) e ∙ add-mod_right q n in
        let s : q ≤ a + k = omega arith in
        rw (m, h.has q (omega arith) (omega arith) (omega arith)) (mul-le-mul_right d s)

pub taken_at : {r : Ring} {n m d a e : ℕ} (k : ℕ) → k ≤ e → e ≤ suc k → State r n m d a e → is_old r.slab ((a + k) * d) ≡ false
unfolding is_old
taken_at {r} {n} {m} {d} {a} {e} k from to h =
    let s = h.slab-is in
    let t = (a + k) * d in
    rw (slot_is s.sound t ∙ ap (λ (x : ℕ). x % n) (mul-div_cancel (a + k) s.long))
    (no_lt t (stamp r.slab ((a + k) % n)) (kept_by d k (some_slots s.sound) from to h.stamps))
