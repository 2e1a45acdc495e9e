-- What `seek` leaves: the row that a query reads, which has the column, or its refusal, whatever the flags. Assumes nothing.
use Rattle.std.specs.Prelude.{ℕ, ◌<◌, ◌≡◌, Bool, List, Result, Ok, Err}
use Rattle.model.specs.declared.Refusal.{Refusal}
use Rattle.model.specs.Image.{row_at, row_count}
use Rattle.model.specs.Query.{query, answered, found, replied_by}
use Rattle.tiers.specs.Reached.{lent_by}

-- the query of schema k's column c in tier j is answered by row i
pub record SoughtAt (s : List ℕ) (k c j start end i : ℕ) : Type 0 where
  pub there : i < row_count s
  pub few_rows : i < 32
  pub column_there : c < (row_at s i).series
  pub replies : (bs : List Bool) → found (answered (lent_by s bs) i c j start end) ≡ query (lent_by s bs) k c j start end

abbrev pub SoughtIs : List ℕ → ℕ → ℕ → ℕ → ℕ → ℕ → Result ℕ Refusal → Type 0
SoughtIs s k c j start end (Ok i) = SoughtAt s k c j start end i
SoughtIs s k c j start end (Err w) = (bs : List Bool) → replied_by s (Err w) ≡ query (lent_by s bs) k c j start end

-- by the answer's case
pub row_sought : {s : List ℕ} {k c j start end i : ℕ} {r : Result ℕ Refusal} → r ≡ Ok i → SoughtIs s k c j start end r → SoughtAt s k c j start end i
row_sought e h = rw e at h

pub refusal_sought : (s : List ℕ) (k c j start end : ℕ) {r : Result ℕ Refusal} {w : Refusal} → r ≡ Err w → SoughtIs s k c j start end r → SoughtIs s k c j start end (Err w)
refusal_sought s k c j start end e h = rw e at h
