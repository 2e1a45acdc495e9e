-- The cells that a write leaves of a slab in good order (specs/Sound.antt). Assumes nothing.
use Rattle.std.specs.Prelude.{ℕ, ◌/◌, ◌%◌, ◌^◌, ◌<◌, List}
use Rattle.std.proofs.Common.{subst}
use Rattle.model.specs.Ring.{Ring, ColumnValue, write}
use Rattle.ring_theory.specs.Write.{Fit, Wrote}
use Rattle.ring_theory.proofs.Write.{wrote}
use Rattle.ring_theory.specs.Sound.{Sound, as_long, slot_is, slot_in}

module _ (r : Ring) (es : List ColumnValue) (t n m d : ℕ) (h : Sound r.slab n m d) where
  pub wrote_sound : t < 2 ^ 64 → Fit m es → Wrote r.slab (t / d % n) t es (write r es t).slab
  wrote_sound ht f =
      subst (λ (i : ℕ). Wrote r.slab i t es (write r es t).slab) (slot_is h t)
      (wrote r es t (as_long h) (rw h.slots-is h.few_slots) (rw h.slots-is (slot_in h t)) ht (rw h.series-is f))
