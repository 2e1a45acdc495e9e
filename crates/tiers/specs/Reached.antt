-- The words of the contracts about a row's ring as a query finds it, whatever the other flags; about the choice of a tier; about the answer. Assumes nothing.
use Rattle.std.specs.Prelude.{ℕ, ◌+◌, ◌<◌, ◌≡◌, Bool, false, List, length, get_or, Ok}
use Rattle.model.specs.declared.Found.{Found}
use Rattle.model.specs.declared.Place.{Place}
use Rattle.model.specs.Image.{row_at, rows, tiers_of, slab_of}
use Rattle.model.specs.Ring.{Ring, first_place, oldest, newest}
use Rattle.model.specs.Read.{full, incomplete}
use Rattle.model.specs.Lent.{Lent, first_row, ring, row}
use Rattle.model.specs.Query.{choose, answered, replied_by, found}
use Rattle.ring.specs.Parts.{ring_of}
use Rattle.flag_bits.specs.Bits.{bits}
use Rattle.flag_bits.specs.One.{lent_at}
use Rattle.tiers.specs.declared.Reach.{Reach}
use Rattle.tiers.specs.declared.Chosen.{Chosen}

abbrev pub lent_by : List ℕ → List Bool → Lent
lent_by s bs = record { image = s; flags = bs }

-- the ring of row i of s, if its flag is w
abbrev pub row_ring : List ℕ → ℕ → Bool → Ring
row_ring s i w = ring_of (slab_of s (row_at s i)) w

-- whatever the other flags
pub row-ring : (s : List ℕ) (bs : List Bool) (i : ℕ) {w : Bool} → w ≡ get_or bs i false → row_ring s i w ≡ ring (lent_by s bs) i
unfolding ring row
row-ring s bs i e = rw e

-- where its reading starts
abbrev pub place_of : Reach → Place
place_of r = record { slot = r.slot; left = r.left }

-- what is found there
pub record Reached (s : List ℕ) (i : ℕ) (w : Bool) (r : Reach) : Type 0 where
  pub oldest-is : r.oldest ≡ oldest (row_ring s i w)
  pub newest-is : r.newest ≡ newest (row_ring s i w)
  pub place_is : place_of r ≡ first_place (row_ring s i w)
  pub from_is : r.from ≡ (row_at s i).offset
  pub to_is : r.to ≡ r.from + (row_at s i).len

-- ---- the answer

abbrev pub found_by : Reach → ℕ → ℕ → ℕ → ℕ → Found
found_by r c j start end = record {
  tier = j;
  oldest = r.oldest;
  newest = r.newest;
  start = start;
  end = end;
  incomplete = incomplete r.oldest r.newest start end;
  column = c;
  from = r.from;
  to = r.to;
  place = place_of r;
}

-- f is the answer of row i, which is tier j, whatever the other flags
abbrev pub AnswerIs : List ℕ → ℕ → Bool → ℕ → ℕ → ℕ → ℕ → Found → Type 0
AnswerIs s i w c j start end f = (bs : List Bool) → w ≡ get_or bs i false → replied_by s (Ok f) ≡ found (answered (lent_by s bs) i c j start end)

-- ---- the choice, by a number of flags

-- the flag of the row of tier j
abbrev pub flag_of : ℕ → ℕ → ℕ → Bool
flag_of x first j = get_or (bits 32 x) (first + j) false

pub record ChosenIs (s : List ℕ) (x k first start end : ℕ) (r : Chosen) : Type 0 where
  pub tier-is : r.tier ≡ choose (lent_at s x) k start end
  pub tier_in_lem : r.tier < length (tiers_of k (rows s))
  pub reached : Reached s (first + r.tier) (flag_of x first r.tier) r.reach

-- tier 0, whose ring is r, is not chosen at once
pub record NotFirst (s : List ℕ) (x k first : ℕ) (r : Reach) (start end : ℕ) : Type 0 where
  pub first-is : first ≡ first_row k (rows s)
  pub some_tier : 0 < length (tiers_of k (rows s))
  pub reached : Reached s (first + 0) (flag_of x first 0) r
  pub not_full : full r.oldest r.newest start end ≡ false
