-- The words of the ring's contracts: a slab of n slots and m series, a ring from a lent slab and a flag, a list of one value. Assumes nothing.
use Rattle.std.specs.Prelude.{ℕ, refl, Bool, List, [], ◌∷◌}
use Rattle.model.specs.Ring.{Ring, ColumnValue, interval}
use Rattle.ring_theory.specs.Sound.{Sound}

-- in good order, whatever its interval
abbrev pub Sized : List ℕ → ℕ → ℕ → Type 0
Sized s n m = Sound s n m (interval s)

pub sized : {s : List ℕ} {n m d : ℕ} → Sound s n m d → Sized s n m
sized h = record {
  whole = h.whole;
  slots-is = h.slots-is;
  series-is = h.series-is;
  interval-is = refl;
  cursor_in = h.cursor_in;
  few_slots = h.few_slots;
}

abbrev pub ring_of : List ℕ → Bool → Ring
ring_of s w = record { slab = s; wrapped = w }

abbrev pub one : ℕ → ℕ → List ColumnValue
one c v = record { column = c; value = v } ∷ []
