-- The words of the contracts about what a call is lent: the lent record from an image and its flags, a row's slab, the row of a handle's finest tier, one
-- flag set. Assumes nothing.
use Rattle.std.specs.Prelude.{ℕ, ◌+◌, ◌≤◌, ◌<◌, ◌≡◌, Bool, ◌&&◌, cond, List, ltb, length, set, Option, Some, None}
use Rattle.model.specs.declared.Flags.{Flags}
use Rattle.model.specs.Image.{schemas, row_at, rows, row_slots, tiers_of, slab_of}
use Rattle.model.specs.Lent.{Lent, first_row}
use Rattle.model.specs.Record.{series_of}
use Rattle.ring_theory.specs.Sound.{Sound}

abbrev pub lent_of : List ℕ → Flags → Lent
lent_of s f = record { image = s; flags = f.wrapped }

unfoldable pub with_flag : Flags → ℕ → Bool → Flags
with_flag f i w = record { wrapped = set f.wrapped i w }

-- the slab of row i of s: its bytes from `from` up to `to`, in good order
pub record SlabAt (s : List ℕ) (i from to n m d : ℕ) : Type 0 where
  pub from_is : from ≡ (row_at s i).offset
  pub to_is : to ≡ from + (row_at s i).len
  pub inside : to ≤ length s
  pub slots-is : n ≡ row_slots (row_at s i)
  pub series-is : m ≡ (row_at s i).series
  pub interval-is : d ≡ (row_at s i).interval
  pub some_interval : 0 < d
  pub few_rows : i < 32
  pub sound : Sound (slab_of s (row_at s i)) n m d

-- 11 InvalidHandle
unfoldable pub finest_of : List ℕ → ℕ → ℕ → Option ℕ
finest_of s k c = cond (ltb k (schemas s) && ltb c (series_of (tiers_of k (rows s)))) (Some (first_row k (rows s))) None
