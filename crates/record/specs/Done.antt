-- The one outcome of `record`: its answer's number and what it leaves lent are the definition's, refusals included. Assumes nothing.
use Rattle.std.specs.Prelude.{ℕ, ◌≡◌}
use Rattle.model.specs.Lent.{Lent}
use Rattle.model.specs.Record.{record_check, record_on}

-- of the value v for column c of schema k at stamp t, recorded on l: the answer's number, and what is lent then
pub record RecordDone (l : Lent) (k c v t number : ℕ) (after : Lent) : Type 0 where
  pub answer_is : number ≡ record_check l k c v t
  pub lent_is : after ≡ record_on (record_check l k c v t) l k c v t
