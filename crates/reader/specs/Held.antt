-- What the reader's loop asks of a slab: it is at least as long as its header says. Assumes nothing.
use Rattle.std.specs.Prelude.{ℕ, ◌≤◌, ◌≡◌, List, length}
use Rattle.model.specs.Layout.{slab_length}
use Rattle.model.specs.Ring.{slots, series}

-- n slots and m series are held whole
pub record Held (s : List ℕ) (n m : ℕ) : Type 0 where
  pub whole : slab_length n m ≤ length s
  pub slots-is : slots s ≡ n
  pub series-is : series s ≡ m
