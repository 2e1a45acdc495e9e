-- The words of the writers' contracts: what the store of a stamp leaves, and columns that a slab has. Assumes nothing.
use Rattle.std.specs.Prelude.{ℕ, ◌/◌, ◌%◌, ◌<◌, ◌≡◌, Bool, ◌||◌, List, [], ◌∷◌, ltb}
use Rattle.model.specs.Bytes.{put}
use Rattle.model.specs.Ring.{ColumnValue, cursor, stamp_at}
use Rattle.ring_theory.specs.Sound.{Sound}

-- stamp t stored in its slot i of s, which leaves u, and the flag after the write
pub record Stamp (s : List ℕ) (n m d t : ℕ) (w : Bool) (i : ℕ) (flag : Bool) (u : List ℕ) : Type 0 where
  pub slot_is : i ≡ t / d % n
  pub slot_in : i < n
  pub flag_is : flag ≡ (w || ltb i (cursor s))
  pub slab-is : u ≡ put 8 s (stamp_at s i) t
  pub sound : Sound u n m d

-- each column is below m
abbrev pub Columns : ℕ → List ColumnValue → Type 0
Columns m [] = Unit {0}
Columns m (e ∷ es) = (e.column < m) × Columns m es
