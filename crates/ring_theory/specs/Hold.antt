-- What a ring holds after writes without gaps: their numbers never fall and grow by at most one, from a first number a on. The cursor is the newest
-- number's slot, the slots of the newest numbers hold their stamps, every other slot is fresh, and the flag tells whether the reading goes round. For any
-- number of slots, one among them, and any first number. The laws stand in proofs/Hold.antt. Assumes nothing.
use Prim.Native.Nat.{ℕ, zero, suc, ◌+◌, ◌-◌, ◌*◌, ◌/◌, ◌%◌, ◌^◌, ◌≤◌, ◌<◌, max}
use Rattle.std.specs.Prelude.{◌≡◌, Bool, not, List, [], T}
use Rattle.std.proofs.Math.Bool.{false}
use Rattle.model.specs.Ring.{Ring, cursor, stamp, is_empty, first_place, order, walk}
use Rattle.ring_theory.specs.Numbers.{slots_of}
use Rattle.ring_theory.specs.Sound.{Sound}
use Rattle.ring_theory.specs.Column.{Keeps}

-- a sound slab with a nonzero interval, whose stamps pass consolidation's check
pub record Slab (s : List ℕ) (n m d : ℕ) : Type 0 where
  pub sound : Sound s n m d
  pub long : 0 < d
  pub low : (i : ℕ) → i < n → stamp s i < 2 ^ 63

-- the slot of the newest of the e numbers from a on; 0 before the first
unfoldable pub newest_slot : ℕ → ℕ → ℕ → ℕ
newest_slot n a zero = 0
newest_slot n a (suc k) = (a + k) % n

-- the flag after the e numbers from a on: where it is set, the n slots from the one behind the cursor on are those of the n numbers up to the newest; where
-- it is not, the slots from 0 to the cursor have every held number
pub record Flag (n a e : ℕ) (w : Bool) : Type 0 where
  pub wrapped_far : T w → n ≤ a + e
  pub else_near : T (not w) → (a + e - 1) / n * n ≤ max a (a + e - n)

-- a ring that took the e numbers from a on
pub record State (r : Ring) (n m d a e : ℕ) : Type 0 where
  pub slab-is : Slab r.slab n m d
  pub cursor-is : cursor r.slab ≡ newest_slot n a e
  pub stamps : Keeps 0 (stamp r.slab) n a e (λ (q : ℕ). q * d)
  pub flag : Flag n a e r.wrapped

-- a ring that took nothing
pub record Blank (r : Ring) (n m d : ℕ) : Type 0 where
  pub slab-is : Slab r.slab n m d
  pub cursor-is : cursor r.slab ≡ 0
  pub stamps : (i : ℕ) → i < n → stamp r.slab i ≡ 0
  pub flag : r.wrapped ≡ false

-- ---- the order of reading

-- nothing, where the stamp at the cursor is 0
pub order_none : (r : Ring) → stamp r.slab (cursor r.slab) ≡ 0 → order r ≡ []
unfolding order first_place is_empty walk
order_none r e = rw e

-- the first number that a ring of n slots still holds, of the e from a on
unfoldable pub first_held : ℕ → ℕ → ℕ → ℕ
first_held n a e = max a (a + e - n)

-- the slots of the numbers from `from` on are read in this order. They end with the newest number, and begin at the first held one or before it, where
-- the slots are fresh
pub record Reads (r : Ring) (n a e : ℕ) : Type 0 where
  pub from : ℕ
  pub many : ℕ
  pub order_is : order r ≡ slots_of n from many
  pub ends : from + many ≡ a + e
  pub fits : many ≤ n
  pub back : from ≤ first_held n a e
