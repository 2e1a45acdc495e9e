-- How often a run begins anew in a source, by how long the range is. A range no longer than the ring holds, interval × slots, is read in one part; one no longer
-- than two rings in three; one no longer than m in 2 m - 1; one more where the mark lies in the first window of all time. However many samples were missed or came late:
-- for every list of calls from creation on, and for each pair of a run, whose source the pair before may just have written. Assumes nothing.
use Rattle.std.specs.Prelude.{ℕ, suc, ◌+◌, ◌-◌, ◌*◌, ◌≤◌, ◌<◌, ◌≡◌, Some}
use Rattle.model.specs.declared.ConsolidationFn.{ConsolidationFn}
use Rattle.model.specs.Image.{row_count, create_check, open_check}
use Rattle.model.specs.Ring.{slots, interval, newest, oldest}
use Rattle.model.specs.Lent.{Lent, row, ring}
use Rattle.model.specs.Consolidate.{start_of, end_after, job_of}
use Rattle.reopening.specs.Reopening.{History, left}
use Rattle.strand_theory.specs.Cuts.{Cuts}
use Rattle.strands_proved.specs.Theorem.{midway}

-- ---- the claim

-- what the ring of row i spans
abbrev pub span : Lent → ℕ → ℕ
span l i = interval (ring l i).slab * slots (ring l i).slab

-- the range that a run reads there is at most m rings long
abbrev pub Within : Lent → ℕ → ℕ → Type 0
Within l i m = end_after (newest (ring l i)) ≤ start_of (row l i).mark (row l (suc i)).interval (ring l i) + m * span l i

-- the source of the rows i and i + 1 is cut k times
pub record Short (l : Lent) (i k : ℕ) : Type 0 where
  pub at_most : (m : ℕ) → Within l i m → k ≤ suc (2 * (m - 1))
  -- with no mark, or one behind the first window
  pub at_most_marked : (0 < (row l i).mark → (row l (suc i)).interval ≤ (row l i).mark) → (m : ℕ) → Within l i m → k ≤ 2 * (m - 1)
  -- one part is enough with no mark, where the newest stamp u is less than a ring behind the oldest t
  pub once_unmarked : (row l i).mark ≡ 0 → (t u : ℕ) → oldest (ring l i) ≡ Some t → newest (ring l i) ≡ Some u → u < t + span l i → k ≡ 0
  -- and with a mark, where u lies behind it by no more than a ring less a window
  pub once_marked : (row l (suc i)).interval ≤ (row l i).mark → (u : ℕ) → newest (ring l i) ≡ Some u → u + (row l (suc i)).interval ≤ (row l i).mark + span l i → k ≡ 0

-- For every plan that creation accepts, every list of calls from there on, refused ones and openings among them, whatever they record and in whatever order, that
-- leaves an image which passes opening's check: in a run behind them, the source of each row but the last is cut so often at most.
unfoldable pub RunsReadShort : Type 0
RunsReadShort =
    (h : History) → create_check h.plan h.buf ≡ 0 → open_check (left h).image ≡ 0 → (i : ℕ) → suc i < row_count (left h).image
    → (f : ConsolidationFn) (k b : ℕ) → Cuts (job_of (midway (left h) i).lent i f) k b → Short (midway (left h) i).lent i k
