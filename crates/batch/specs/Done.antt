-- The one outcome of `record_batch`: its answer's number and what it leaves lent are the definition's, refusals included; its check, by the image alone. Assumes
-- nothing.
use Rattle.std.specs.Prelude.{ℕ, ◌≡◌, Bool, List}
use Rattle.model.specs.Lent.{Lent}
use Rattle.model.specs.Record.{Entry, batch_check, batch_on}

-- n is the check's number of the entries es at stamp t on the image s, whatever the flags
pub record Checked (s : List ℕ) (es : List Entry) (t n : ℕ) : Type 0 where
  pub number_is : (bs : List Bool) → n ≡ batch_check (record { image = s; flags = bs }) es t

-- of the entries es at stamp t, recorded on l: the answer's number, and what is lent then
pub record BatchDone (l : Lent) (es : List Entry) (t number : ℕ) (after : Lent) : Type 0 where
  pub answer_is : number ≡ batch_check l es t
  pub lent_is : after ≡ batch_on (batch_check l es t) l es t

-- with the same flags lent otherwise
pub same_done : {l m u w : Lent} {es : List Entry} {t n : ℕ} → l ≡ m → u ≡ w → BatchDone m es t n w → BatchDone l es t n u
same_done e f d = rw (e, f) d
