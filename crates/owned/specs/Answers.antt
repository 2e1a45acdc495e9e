-- What the calls of a store answer, in the model's words: a refusal is its number, a query's points are the model's reader; and what a store lends. Assumes
-- nothing.
use Rattle.std.specs.Prelude.{ℕ, ◌≡◌, List, Result, Ok, Err, IfOk}
use Rattle.model.specs.declared.Found.{Found}
use Rattle.model.specs.Lent.{Lent}
use Rattle.model.specs.Store.{Call, Reply, refused, done, wrote, call, queried_reply}
use Rattle.store_reads.specs.Reads.{reader_of}
use Rattle.store_reads.specs.Answers.{reply_reader}
use Rattle.owned.specs.declared.Refused.{Refused}
use Rattle.owned.specs.declared.Store.{Store}
use Rattle.owned.specs.declared.Points.{Points}

-- what a store lends: its image's bytes and its flags
abbrev pub lent : Store → Lent
lent s = record { image = s.image.items; flags = s.flags.wrapped }

-- the number of an answer: 0, or the refusal's
abbrev pub answer_no : Result (Unit {0}) Refused → ℕ
answer_no (Ok tt) = 0
answer_no (Err e) = e.0

abbrev pub answer_reply : Result (Unit {0}) Refused → Reply
answer_reply (Ok tt) = done
answer_reply (Err e) = refused e.0

abbrev pub run_reply : Result ℕ Refused → Reply
run_reply (Ok k) = wrote k
run_reply (Err e) = refused e.0

-- a query's, on the image that it was lent
abbrev pub query_reply : List ℕ → Result (Found × Points) Refused → Reply
query_reply s (Ok a) = queried_reply s (Ok a.0)
query_reply s (Err e) = refused e.0

-- query c on l answers this, with the points of the model's reader
pub record Asked (l : Lent) (c : Call) (r : Result (Found × Points) Refused) : Type 0 where
  pub reply_is : query_reply l.image r ≡ (call l c).reply
  pub points_are : IfOk r (λ a. reader_of a.1.0 ≡ reply_reader (call l c).reply)
