-- The words of the filling's contracts: a pair that lies in an image, its job, its destination so far, and what its writes keep. Assumes nothing.
use Rattle.std.specs.Prelude.{ℕ, ◌-◌, ◌^◌, ◌≤◌, ◌<◌, ◌≡◌, List, length}
use Rattle.model.specs.Bytes.{part, splice}
use Rattle.model.specs.declared.Place.{Place}
use Rattle.model.specs.Ring.{walk, order}
use Rattle.model.specs.Window.{Job, window_of, window_answer}
use Rattle.model.specs.Consolidate.{Filled}
use Rattle.ring_theory.specs.Sound.{Sound}
use Rattle.window.specs.declared.Reading.{Reading}
use Rattle.window.specs.Parts.{Readable, job_in, along}
use Rattle.window_write.specs.declared.Filling.{Filling}
use Rattle.window_write.specs.Parts.{filled_of}
use Rattle.pair_fill.specs.declared.Pair.{Pair}

-- the bytes of the source, and of the destination
abbrev pub source_in : List ℕ → Pair → List ℕ
source_in s p = part s p.from (p.to - p.from)

abbrev pub dest_in : List ℕ → Pair → List ℕ
dest_in s p = part s p.dest.from (p.dest.to - p.dest.from)

abbrev pub pair_job : List ℕ → Pair → Job
pair_job s p = job_in (source_in s p) p.reading

abbrev pub filled_in : List ℕ → Pair → Filling → Filled
filled_in s p r = filled_of (dest_in s p) r

-- the source, then the destination, both in good order
pub record Lies (s : List ℕ) (p : Pair) : Type 0 where
  pub source_forth : p.from ≤ p.to
  pub apart : p.to ≤ p.dest.from
  pub dest_forth : p.dest.from ≤ p.dest.to
  pub inside : p.dest.to ≤ length s
  pub readable : Readable (source_in s p) p.reading
  pub sound : Sound (dest_in s p) p.dest.sizes.slots p.dest.sizes.series p.dest.sizes.interval
  pub some_interval : 0 < p.dest.sizes.interval
  pub end_low : p.reading.end < 2 ^ 64
  pub same-series : p.dest.sizes.series ≡ p.reading.series

-- slots of the source s that have all of a window
pub record Covers (s : List ℕ) (q : Reading) (window : ℕ) (place : Place) : Type 0 where
  pub slot_in : place.slot < q.slots
  pub few_left : place.left ≤ q.slots
  pub starts : window_of q.long window ≡ window
  pub same : (c : ℕ) → window_answer (job_in s q) window c ≡ along (job_in s q) window c (walk q.slots place.slot place.left)

-- the whole reading order
pub record WholeOrder (s : List ℕ) (q : Reading) (place : Place) : Type 0 where
  pub slot_in : place.slot < q.slots
  pub few_left : place.left ≤ q.slots
  pub order_is : walk q.slots place.slot place.left ≡ order (job_in s q).source

-- t is s but for the destination's bytes, and the pair lies in it as well
pub record Keeps (s t : List ℕ) (p : Pair) : Type 0 where
  pub long : length t ≡ length s
  pub only : t ≡ splice s p.dest.from (dest_in t p)
  pub source_is : source_in t p ≡ source_in s p
  pub lies : Lies t p
