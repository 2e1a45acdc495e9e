-- The words of the contracts: the slots from a limit on, windows that never fall, what is passed over, and a run. Assumes nothing.
use Rattle.std.specs.Prelude.{ℕ, suc, ◌+◌, ◌-◌, ◌%◌, ◌≤◌, ◌<◌, ◌≡◌, Bool, true, false, ◌&&◌, cond, List, [], ◌∷◌, ◌++◌, leb, ltb}
use Rattle.model.specs.declared.Place.{Place}
use Rattle.model.specs.Ring.{stamp, walk}
use Rattle.model.specs.Window.{Job, window_of}
use Rattle.window_runs.specs.declared.Run.{Run}
use Rattle.window_runs.specs.declared.Skipping.{Skipping}

-- a stamp from start up to end
unfoldable pub in_range : ℕ → ℕ → ℕ → Bool
in_range start end t = leb start t && ltb t end

-- one that is not below the limit besides
unfoldable pub is_from : ℕ → ℕ → ℕ → ℕ → Bool
is_from start end limit t = in_range start end t && leb limit t

-- these slots, from the first on whose stamp lies in the range and not below the limit
unfoldable pub from : Job → ℕ → List ℕ → List ℕ
from q limit [] = []
from q limit (i ∷ is) = cond (is_from q.start q.end limit (stamp q.source.slab i)) (i ∷ is) (from q limit is)

-- of these slots' stamps, those in the range have windows that never fall, and the first is not below `low`
unfoldable pub rising : Job → ℕ → List ℕ → Bool
rising q low [] = true
rising q low (i ∷ is) =
    let t = stamp q.source.slab i in
    cond (in_range q.start q.end t) (leb low (window_of q.long t) && rising q (window_of q.long t) is) (rising q low is)

-- none of these slots' stamps lies in the range
abbrev pub NoneIn : Job → List ℕ → Type 0
NoneIn q [] = Unit {0}
NoneIn q (i ∷ is) = (in_range q.start q.end (stamp q.source.slab i) ≡ false) × NoneIn q is

-- these slots are a run, then some that are not in the range, then the rest
pub record Parted (q : Job) (n : ℕ) (is : List ℕ) (run rest : Place) : Type 0 where
  pub gap : List ℕ
  pub none_in : NoneIn q gap
  pub split : is ≡ walk n run.slot run.left ++ (gap ++ walk n rest.slot rest.left)

-- of the slots at the place p, those before the limit are passed over; the last of them in the range has `last` slots behind it
pub record Skipped (q : Job) (n limit : ℕ) (p : Place) (r : Skipping) : Type 0 where
  pub slot_in : r.rest.slot < n
  pub fewer : r.rest.left ≤ p.left
  pub last_few : r.last ≤ p.left
  pub rest-is : walk n r.rest.slot r.rest.left ≡ from q limit (walk n p.slot p.left)
  pub parted : Parted q n (walk n p.slot p.left) (record { slot = p.slot; left = p.left - r.last }) r.rest

-- at a place p whose first slot is i: its window, the run of slots that has all of it, and the place of the rest
pub record Ran (q : Job) (n : ℕ) (p : Place) (r : Run) : Type 0 where
  pub window_is : r.window ≡ window_of q.long (stamp q.source.slab p.slot)
  pub run_in : r.run.slot < n
  pub run_few : r.run.left ≤ p.left
  pub rest_in : r.rest.slot < n
  pub fewer : r.rest.left < p.left
  pub rest-is : walk n r.rest.slot r.rest.left ≡ from q (r.window + q.long) (walk n (suc p.slot % n) (p.left - 1))
  pub parted : Parted q n (walk n p.slot p.left) r.run r.rest
