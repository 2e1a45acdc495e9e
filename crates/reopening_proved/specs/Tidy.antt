-- What a ring keeps that only this library wrote, whatever was written, in whatever order: a slot without a stamp has fresh cells alone; and while the flag is
-- not set, no slot above the cursor has a stamp, since every write moves the cursor to its slot and a lower one sets the flag. An accepted write keeps it, and
-- so does opening. Assumes nothing.
use Rattle.std.specs.Prelude.{ℕ, suc, ◌-◌, ◌/◌, ◌%◌, ◌^◌, ◌≤◌, ◌<◌, ◌≡◌, false, List, ltb}
use Rattle.std.proofs.Common.{arith, sym, ap, ◌∙◌, subst, ltb-false}
use Rattle.std.proofs.Math.Decide.{ℕ_discrete}
use Rattle.model.specs.Layout.{fresh_value}
use Rattle.model.specs.Ring.{Ring, ColumnValue, slots, cursor, stamp, cell, slot_of, wrap_flag, write}
use Rattle.laws.specs.Tests.{or_none}
use Rattle.ring_theory.specs.Write.{Elsewhere, flag_is}
use Rattle.ring_theory.specs.Sound.{Sound, slot_is, cursor-write, elsewhere_sound}
use Rattle.ring_theory.specs.Hold.{Blank}
use Rattle.ring_theory.specs.Above.{any_none}

-- n slots, m series
pub record Tidy (n m : ℕ) (r : Ring) : Type 0 where
  pub unstamped : (i c : ℕ) → i < n → c < m → stamp r.slab i ≡ 0 → cell r.slab c i ≡ fresh_value
  pub above : r.wrapped ≡ false → (i : ℕ) → cursor r.slab < i → i < n → stamp r.slab i ≡ 0

-- a ring that took nothing
pub tidy_blank : (n m d : ℕ) (r : Ring) → Blank r n m d → ((c i : ℕ) → c < m → i < n → cell r.slab c i ≡ fresh_value) → Tidy n m r
tidy_blank n m d r b f = record { unstamped = λ i c hi hc z. f c i hc hi; above = λ w i lo hi. b.stamps i hi }

-- ---- a write

pub tidy_write : (n m d : ℕ) (r : Ring) (es : List ColumnValue) (t : ℕ) → Sound r.slab n m d → 0 < t → t < 2 ^ 63 → Tidy n m r → Tidy n m (write r es t)
tidy_write n m d r es t h pos low ty = record { unstamped = λ i c hi hc z. fresh i c hi hc z (ℕ_discrete i slot); above = λ w i lo hi. beyond i (or_none r.wrapped _ (sym (flag_is r es t) ∙ w)) (rw cur at lo) hi }
  where
    slot : ℕ
    slot = t / d % n

    u : List ℕ
    u = (write r es t).slab

    e : Elsewhere r.slab slot t u
    e = elsewhere_sound r es t n m d h (omega arith)

    cur : cursor u ≡ slot
    cur = cursor-write r es t n m d h

    there : (i : ℕ) → i < n → i < slots r.slab
    there i hi = rw h.slots-is hi

    fresh : (i c : ℕ) → i < n → c < m → stamp u i ≡ 0 → Dec (i ≡ slot) → cell u c i ≡ fresh_value
    fresh i c hi hc z (yes p) = absurd (omega (arith, sym e.stamp-is ∙ ap (stamp u) (sym p) ∙ z))
    fresh i c hi hc z (no p) = e.cell_other c i (there i hi) p ∙ ty.unstamped i c hi hc (sym (e.stamp-other i (there i hi) p) ∙ z)

    -- the flag is still not set: the cursor did not go back
    beyond : (i : ℕ) → (r.wrapped ≡ false) × (ltb (slot_of r.slab t) (cursor r.slab) ≡ false) → slot < i → i < n → stamp u i ≡ 0
    beyond i f lo hi =
        let back : cursor r.slab ≤ slot = subst (λ (x : ℕ). cursor r.slab ≤ x) (slot_is h t) (ltb-false (slot_of r.slab t) (cursor r.slab) f.1) in
        e.stamp-other i (there i hi) (λ q. omega (arith, q)) ∙ ty.above f.0 i (omega arith) hi

-- ---- opening

pub tidy_opened : (n m d : ℕ) (r : Ring) → Sound r.slab n m d → Tidy n m r → Tidy n m (record { slab = r.slab; wrapped = wrap_flag r.slab })
unfolding wrap_flag
tidy_opened n m d r h ty = record {
  unstamped = ty.unstamped;
  above = λ w i lo hi. any_none r.slab (suc (cursor r.slab)) (slots r.slab - suc (cursor r.slab)) w i lo (rw h.slots-is (omega arith));
}
