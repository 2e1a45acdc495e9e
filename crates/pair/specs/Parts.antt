-- The words of a pair's contracts: a run so far, two rows that are a pair, the pair that the code makes of them, and a mark stored or not. Assumes nothing.
use Rattle.std.specs.Prelude.{ℕ, suc, ◌*◌, ◌^◌, ◌≤◌, ◌<◌, ◌≡◌, Bool, true, false, List}
use Rattle.model.specs.declared.ConsolidationFn.{ConsolidationFn}
use Rattle.model.specs.declared.Flags.{Flags}
use Rattle.model.specs.Words.{outcome_no}
use Rattle.model.specs.Bytes.{put64}
use Rattle.model.specs.Image.{row_count, row_at, mark_at, open_check, slab_of}
use Rattle.model.specs.Consolidate.{Run}
use Rattle.model.specs.Consolidate as C
use Rattle.lookup.specs.Parts.{lent_of}
use Rattle.pair_fill.specs.declared.Pair.{Pair}
use Rattle.pair_fill.specs.Parts.{Lies, dest_in, pair_job}
use Rattle.pair.specs.declared.Progress.{Progress}

abbrev pub run_of : List ℕ → Progress → Run
run_of s u = record { lent = lent_of s u.flags; count = u.count; refusal = outcome_no u.outcome }

-- the rows i and i + 1 of an image in good order are of one schema
pub record Adjacent (s : List ℕ) (i : ℕ) : Type 0 where
  pub opened : open_check s ≡ 0
  pub next_in : suc i < row_count s
  pub same_schema_lem : (row_at s i).schema ≡ (row_at s (suc i)).schema

-- the pair of these rows
pub record PairAt (s : List ℕ) (flags : Flags) (i : ℕ) (f : ConsolidationFn) (p : Pair) : Type 0 where
  pub lies : Lies s p
  pub job_is : pair_job s p ≡ C.job_of (lent_of s flags) i f
  pub dest_is : dest_in s p ≡ slab_of s (row_at s (suc i))
  pub start_is : p.dest.from ≡ (row_at s (suc i)).offset
  pub series-is : p.reading.series ≡ (row_at s i).series
  pub few : p.reading.series * p.reading.slots ≤ 2 ^ 40

-- the mark of row i becomes t, or stays
unfoldable pub marked_if : Bool → List ℕ → ℕ → ℕ → List ℕ
marked_if true s i t = put64 s (mark_at i) t
marked_if false s i t = s
