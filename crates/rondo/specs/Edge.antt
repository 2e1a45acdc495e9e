-- The words of the edge's contracts, where flags are one number and answers are numbers: what a call is lent, how it is done, the size that a plan needs, a
-- query's answer, a reader's step. Assumes nothing.
use Rattle.std.specs.Prelude.{ℕ, zero, suc, List, [], ◌∷◌, get_or, Option, Some, None, Result, Ok, Err}
use Rattle.model.specs.declared.Place.{Place}
use Rattle.model.specs.declared.Stepped.{Stepped}
use Rattle.model.specs.declared.Found.{Found}
use Rattle.model.specs.Words.{number_of}
use Rattle.model.specs.Lent.{Lent}
use Rattle.model.specs.Query.{QueryReply, found, not_found}
use Rattle.model.specs.Read.{step}
use Rattle.model.specs.Store.{Done, Reply, refused, done, wrote, read, done_or}
use Rattle.flag_bits.specs.Bits.{bit_of}
use Rattle.fetch.specs.Fetch.{Fetch, fetch_up_to}
use Rattle.model.specs.declared.Point.{Point}
use Rattle.model.specs.declared.Refusal.{Refusal}

-- done with the number n as its answer: 0 is accepted, another is refused
abbrev pub done_as : ℕ → Lent → Done
done_as n l = record { reply = done_or n; lent = l }

-- the old number where n is a refusal's, else the new one
unfoldable pub stored_unless_refused : ℕ → ℕ → ℕ → ℕ
stored_unless_refused zero old new = new
stored_unless_refused (suc n) old new = old

-- ---- consolidation's answer

-- the answer's number
unfoldable pub reply_no : Reply → ℕ
reply_no (refused n) = n
reply_no done = 0
reply_no (wrote k) = 0
reply_no (read a) = 0

-- how many values were written; a refusal leaves the old number
unfoldable pub count_on : Reply → ℕ → ℕ
count_on (refused n) old = old
count_on done old = old
count_on (wrote k) old = k
count_on (read a) old = old

-- ---- a query's answer

-- an end's stamp; none is 0, which is no end's stamp
abbrev pub end_no : Option ℕ → ℕ
end_no None = 0
end_no (Some t) = t

-- the answer's number
unfoldable pub query_no : QueryReply → ℕ
query_no (found a) = 0
query_no (not_found n) = n

-- tier, oldest, newest, start, end, incomplete, column, where the slab starts and ends in the image, the reader's slot and how many are left. A refusal
-- leaves the old ones
unfoldable pub query_words : QueryReply → List ℕ → List ℕ
query_words (not_found n) old = old
query_words (found a) old =
    a.tier ∷ end_no a.oldest ∷ end_no a.newest ∷ a.start ∷ a.end ∷ bit_of a.incomplete ∷ a.reader.column ∷ a.from ∷ a.to
    ∷ a.reader.place.slot ∷ a.reader.place.left ∷ []

-- of the code's answer
abbrev pub found_words : Found → List ℕ
found_words f =
    f.tier ∷ end_no f.oldest ∷ end_no f.newest ∷ f.start ∷ f.end ∷ bit_of f.incomplete ∷ f.column ∷ f.from ∷ f.to
    ∷ f.place.slot ∷ f.place.left ∷ []

unfoldable pub queried_no : Result Found Refusal → ℕ
queried_no (Ok f) = 0
queried_no (Err r) = number_of r

unfoldable pub queried_words : Result Found Refusal → List ℕ → List ℕ
queried_words (Ok f) old = found_words f
queried_words (Err r) old = old

-- ---- a reader's step, the place as two numbers

abbrev pub step_at : List ℕ → ℕ → ℕ → ℕ → List ℕ → Stepped
step_at s c start end p = step s c start end (record { slot = get_or p 0 0; left = get_or p 1 0 })

abbrev pub place_words : Place → List ℕ
place_words p = p.slot ∷ p.left ∷ []

-- up to k steps from the place on
abbrev pub fetch_at : ℕ → List ℕ → ℕ → ℕ → ℕ → List ℕ → Fetch
fetch_at k s c start end p = fetch_up_to k s c start end (record { slot = get_or p 0 0; left = get_or p 1 0 })

-- 1 for a point, 0 at the end
unfoldable pub next_no : Option Point → ℕ
next_no None = 0
next_no (Some p) = 1

-- the point's stamp and value; the end leaves the old ones
unfoldable pub point_words : Option Point → List ℕ → List ℕ
point_words None old = old
point_words (Some p) old = p.stamp ∷ p.value ∷ []
