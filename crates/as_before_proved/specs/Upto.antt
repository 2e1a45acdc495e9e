-- A slab whose stamps are at most b: a stamp from b on is not old there, and once it is written the stamps are at most that. Assumes nothing.
use Rattle.std.specs.Prelude.{ℕ, ◌/◌, ◌%◌, ◌^◌, ◌≤◌, ◌<◌, ◌≡◌, false, List}
use Rattle.std.proofs.Common.{arith, ap, ◌∙◌}
use Rattle.std.proofs.Math.Decide.{ℕ_discrete}
use Rattle.model.specs.Ring.{Ring, ColumnValue, stamp, slot_of, is_old, write}
use Rattle.laws.specs.Tests.{no_lt}
use Rattle.ring_theory.specs.Write.{Elsewhere}
use Rattle.ring_theory.specs.Sound.{Sound, slot_in, elsewhere_sound}

-- n slots
abbrev pub Upto : ℕ → ℕ → List ℕ → Type 0
Upto n b s = (i : ℕ) → i < n → stamp s i ≤ b

pub upto_more : (n b c : ℕ) (s : List ℕ) → b ≤ c → Upto n b s → Upto n c s
upto_more n b c s h u i hi = omega (arith, u i hi)

module _ {n m d : ℕ} where
  pub not_old : (s : List ℕ) (b t : ℕ) → Sound s n m d → Upto n b s → b ≤ t → is_old s t ≡ false
  unfolding is_old
  not_old s b t h u l = no_lt t (stamp s (slot_of s t)) (omega (arith, u (slot_of s t) (slot_in h t)))

  -- t and the stamps before it are at most c
  pub upto-write : (r : Ring) (es : List ColumnValue) (t c : ℕ) → Sound r.slab n m d → t < 2 ^ 63 → t ≤ c → Upto n c r.slab → Upto n c (write r es t).slab
  upto-write r es t c h low l u i hi = go (ℕ_discrete i (t / d % n))
    where
      e : Elsewhere r.slab (t / d % n) t (write r es t).slab
      e = elsewhere_sound r es t n m d h (omega arith)

      go : Dec (i ≡ t / d % n) → stamp (write r es t).slab i ≤ c
      go (yes p) = omega (arith, ap (stamp (write r es t).slab) p ∙ e.stamp-is)
      go (no p) = omega (arith, e.stamp-other i (rw h.slots-is hi) p, u i hi)
