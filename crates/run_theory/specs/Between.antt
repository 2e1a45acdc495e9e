-- The store between two calls, as the set-up has it: what it holds of the samples so far and of the last run, and that the events to come are on schedule.
-- It is what the induction over the calls keeps; an opening keeps it (proofs/Between). Assumes nothing.
use Rattle.std.specs.Prelude.{ℕ, suc, ◌*◌, ◌≤◌, ◌<◌, ◌≡◌, true, List}
use Rattle.std.proofs.Common.{arith}
use Rattle.std.proofs.Math.Decide.{dec_lt}
use Rattle.model.specs.Ring.{cell}
use Rattle.model.specs.Lent.{Lent, row, ring}
use Rattle.demand.specs.Demand.{Sample, Event, last_of, count, used, scheduled}
use Rattle.ring_theory.specs.Column.{Col}
use Rattle.ring_theory.specs.Hold.{State}
use Rattle.sample_theory.specs.Lists.{of_column, value_at}
use Rattle.sample_theory.specs.Ticks.{Steady, Regular, Reached}
use Rattle.sample_theory.specs.Schedule.{touched, last_stamp}
use Rattle.run_theory.specs.Setup.{Setup, tier_count, interval_of, slots_of, first_no, Tier, mark_of, Base}

-- the set-up is that of the samples xs
pub record Fits (S : Setup) (xs : List Sample) : Type 0 where
  pub steady : Steady (interval_of S 0) (first_no S 0) S.most xs
  pub used-is : (c : ℕ) → S.is_used c ≡ used c xs
  pub value_is : (c q : ℕ) → S.tick c q ≡ value_at c (q * interval_of S 0) xs

-- the columns of a finest ring with the cells C took the samples ys
abbrev pub Taken : Setup → (ℕ → ℕ → ℕ) → List Sample → Type 0
Taken S C ys = (x : ℕ) → x < S.columns → Col (C x) (slots_of S 0) (first_no S 0) (count (of_column x) ys) (S.tick x)

-- after the samples ys, which reach tick e; f of the ticks were in at the last run. The finest ring took e ticks, each column its own samples, at its first
-- ticks; the coarser tiers and all marks have their numbers of f ticks; the ticks go no further than to the end of the coarsest interval after that of the
-- last run; no sample is of a column past the last
pub record Between (S : Setup) (l : Lent) (ys : List Sample) (e f : ℕ) : Type 0 where
  pub base : Base S l
  pub state : State (ring l 0) (slots_of S 0) S.columns (interval_of S 0) (first_no S 0) e
  pub cols : Taken S (cell (ring l 0).slab) ys
  pub tiers : (j : ℕ) → 0 < j → j < tier_count S → Tier S l j f
  pub marks : (j : ℕ) → suc j < tier_count S → (row l j).mark ≡ mark_of S j f
  pub regular : (c : ℕ) → Regular (interval_of S 0) (first_no S 0) ys c
  pub reached : Reached (interval_of S 0) (first_no S 0) S.most ys e
  pub low : f ≤ e
  pub high : e ≤ suc (touched (S.per 0) f) * S.per 0
  pub known : (c : ℕ) → S.columns ≤ c → count (of_column c) ys ≡ 0

-- a column with a sample is one of the store's
pub column_in : {S : Setup} {l : Lent} {ys : List Sample} {e f : ℕ} → Between S l ys e f → (c : ℕ) → 0 < count (of_column c) ys → c < S.columns
column_in {S} {l} {ys} h c z = go (dec_lt c S.columns)
  where
    go : Dec (c < S.columns) → c < S.columns
    go (yes p) = p
    go (no p) = absurd (omega (arith, h.known c (omega arith)))

-- such a store, where the events to come are on schedule
pub record Next (S : Setup) (l : Lent) (ys : List Sample) (rest : List Event) : Type 0 where
  pub e : ℕ
  pub f : ℕ
  pub store : Between S l ys e f
  pub on_schedule : scheduled S.coarsest (last_of ys) (last_stamp (interval_of S 0) (first_no S 0) f) rest ≡ true
