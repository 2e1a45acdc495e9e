-- Every stamp stands in its own slot: so it is in a ring that took nothing, and every accepted write keeps it, whatever is written and in whatever order.
-- Assumes nothing.
use Rattle.std.specs.Prelude.{ℕ, ◌/◌, ◌%◌, ◌^◌, ◌<◌, ◌≡◌, List}
use Rattle.std.proofs.Common.{arith, sym, ap, ◌∙◌}
use Rattle.std.proofs.Math.Decide.{ℕ_discrete}
use Rattle.model.specs.Ring.{Ring, ColumnValue, slots, stamp, slot_of, wrap_flag, write}
use Rattle.ring_theory.specs.Write.{Elsewhere}
use Rattle.ring_theory.specs.Sound.{Sound, slot_is, sound-write, elsewhere_sound}
use Rattle.ring_theory.specs.Hold.{Blank}
use Rattle.strand_theory.specs.Cuts.{Homed}

-- as a property of a ring, whatever its sizes
abbrev pub Home : ℕ → ℕ → Ring → Type 0
Home n m r = Homed r.slab

pub home_blank : (n m d : ℕ) (r : Ring) → Blank r n m d → Home n m r
home_blank n m d r b i hi some = absurd (some (b.stamps i (rw b.slab-is.sound.slots-is at hi)))

pub home_write : (n m d : ℕ) (r : Ring) (es : List ColumnValue) (t : ℕ) → Sound r.slab n m d → 0 < t → t < 2 ^ 63 → Home n m r → Home n m (write r es t)
home_write n m d r es t h pos low home i hi some = go (ℕ_discrete i slot)
  where
    slot : ℕ
    slot = t / d % n

    u : List ℕ
    u = (write r es t).slab

    e : Elsewhere r.slab slot t u
    e = elsewhere_sound r es t n m d h (omega arith)

    after : Sound u n m d
    after = sound-write r es t n m d h

    there : i < slots r.slab
    there = rw (h.slots-is, ← after.slots-is) hi

    -- slots are the same before and after
    same : (x : ℕ) → slot_of u x ≡ slot_of r.slab x
    same x = slot_is after x ∙ sym (slot_is h x)

    go : Dec (i ≡ slot) → slot_of u (stamp u i) ≡ i
    go (yes p) = ap (λ (j : ℕ). slot_of u (stamp u j)) p ∙ ap (slot_of u) e.stamp-is ∙ slot_is after t ∙ sym p
    go (no p) = let o = e.stamp-other i there p in ap (slot_of u) o ∙ same (stamp r.slab i) ∙ home i there (λ z. some (o ∙ z))

-- opening works out the flag alone
pub home_opened : (n m d : ℕ) (r : Ring) → Sound r.slab n m d → Home n m r → Home n m (record { slab = r.slab; wrapped = wrap_flag r.slab })
home_opened n m d r h home = home
