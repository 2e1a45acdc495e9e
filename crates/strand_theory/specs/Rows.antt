-- Rings of interval 1 that are cut as often as a range of so many laps can be, as writes in this order leave them. By computation, in proofs/Rows.antt. Assumes nothing.
use Rattle.std.specs.Prelude.{ℕ, ◌<◌, false, List, [], ◌∷◌}
use Rattle.model.specs.declared.ConsolidationFn.TheVariants.{Last}
use Rattle.model.specs.Layout.{fresh_slab}
use Rattle.model.specs.Ring.{Ring, slots, cursor, write}
use Rattle.model.specs.Window.{Job}
use Rattle.strand_theory.specs.Cuts.{Cuts, Homed, Laps}

-- n slots, after writes with these stamps
unfoldable pub after : Ring → List ℕ → Ring
after r [] = r
after r (t ∷ ts) = after (write r [] t) ts

unfoldable pub ring_of : ℕ → List ℕ → Ring
ring_of n ts = after (record { slab = fresh_slab 0 n 1 1; wrapped = false }) ts

-- into windows of this length, from start up to end
unfoldable pub job : Ring → ℕ → ℕ → ℕ → Job
job r long start end = record { source = r; function = Last; long = long; start = start; end = end }

-- with these laps in its range, q has k cuts, the last at b
pub record Reached (q : Job) (ls : List ℕ) (k b : ℕ) : Type 0 where
  pub cursor_in : cursor q.source.slab < slots q.source.slab
  pub home : Homed q.source.slab
  pub laps : Laps q ls
  pub cuts : Cuts q k b

-- two cuts in one lap: 11 12 13 7 8 9 10 in reading order, windows of 4: cut at 8, 11 before 7, and at 12, 12 before 8
unfoldable pub one_lap : Job
one_lap = job (ring_of 7 (11 ∷ 12 ∷ 13 ∷ 7 ∷ 8 ∷ 9 ∷ 10 ∷ [])) 4 7 14

-- three in one lap from 0 on: 5 6 7 8 9, none, 1 2, none, 4, windows of 2: cut at 2, 2 before none, at 4, 5 before 2, and at 6, 6 before 4
unfoldable pub from_zero : Job
from_zero = job (ring_of 10 (5 ∷ 6 ∷ 7 ∷ 8 ∷ 9 ∷ 1 ∷ 2 ∷ 4 ∷ [])) 2 0 10

-- two in two laps up to the newest, 20: 14 8 16 17 18 12 20, windows of 4: cut at 12, 14 before 8, and at 16, 16 before 12
unfoldable pub two_laps : Job
two_laps = job (ring_of 7 (8 ∷ 12 ∷ 14 ∷ 16 ∷ 17 ∷ 18 ∷ 20 ∷ [])) 4 8 21

-- one in one lap from 0 up to the newest, 4: none, 1 2, none, 4, windows of 2: cut at 2, 2 before none
unfoldable pub unwritten : Job
unwritten = job (ring_of 5 (1 ∷ 2 ∷ 4 ∷ [])) 2 0 5
