-- Where a reading of a source has to be cut, so that its windows never fall in reading order: in how many parts a run reads a source. Assumes nothing.
use Rattle.std.specs.Prelude.{ℕ, suc, ◌/◌, ◌≤◌, ◌<◌, ◌≡◌, ◌⊎◌, ◌≢◌, List, [], ◌∷◌}
use Rattle.model.specs.Ring.{slots, interval, stamp, slot_of, order}
use Rattle.model.specs.Window.{Job, window_of}

-- x is one of these
abbrev pub In : ℕ → List ℕ → Type 0
In x [] = ⊥
In x (y ∷ ys) = (x ≡ y) ⊎ In x ys

-- x stands before y among these
abbrev pub Before : ℕ → ℕ → List ℕ → Type 0
Before x y [] = ⊥
Before x y (z ∷ zs) = ((x ≡ z) × In y zs) ⊎ Before x y zs

-- these slots, read from the stamp `start` on, are cut at e: a slot of the window e, its stamp below the range's end, is read before a slot of a lower window
pub record Cut (q : Job) (is : List ℕ) (start e : ℕ) : Type 0 where
  pub high : ℕ
  pub low : ℕ
  pub before : Before high low is
  pub high_is : window_of q.long (stamp q.source.slab high) ≡ e
  pub high_below : stamp q.source.slab high < q.end
  pub low-from : start ≤ stamp q.source.slab low
  pub low-under : window_of q.long (stamp q.source.slab low) < e

-- k cuts of the reading order, the last at e
pub data Cuts (q : Job) : ℕ → ℕ → Type 0 where
  none : Cuts q 0 q.start
  more : {k b e : ℕ} → Cuts q k b → Cut q (order q.source) b e → Cuts q (suc k) e

-- n parts of the source, each looked for in one pass over the stamps: no more than one, and one for each of some cuts
pub record Passes (q : Job) (n : ℕ) : Type 0 where
  pub cuts : ℕ
  pub last : ℕ
  pub cut : Cuts q cuts last
  pub few : n ≤ suc cuts

-- every stamp stands in its own slot: so it is in every ring that this library wrote
abbrev pub Homed : List ℕ → Type 0
Homed s = (i : ℕ) → i < slots s → stamp s i ≢ 0 → slot_of s (stamp s i) ≡ i

-- the lap of a stamp: how often the ring went round before it
unfoldable pub lap_of : List ℕ → ℕ → ℕ
lap_of s t = t / interval s / slots s

-- these laps are all that the range has
abbrev pub Laps : Job → List ℕ → Type 0
Laps q ls = (i : ℕ) → In i (order q.source) → q.start ≤ stamp q.source.slab i → stamp q.source.slab i < q.end → In (lap_of q.source.slab (stamp q.source.slab i)) ls
