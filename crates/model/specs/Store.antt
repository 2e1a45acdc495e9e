-- One call: what it answers and what it leaves lent; and a list of them (document 01, "Words of the third demand", and request 2026-02, which lets openings
-- stand in it). Creation stands beside, in Lent. Assumes nothing.
use Rattle.std.specs.Prelude.{ℕ, zero, suc, Bool, List, [], ◌∷◌, Option, Result, Ok, Err}
use Rattle.model.specs.declared.Point.{Point}
use Rattle.model.specs.Words.{number_of}
use Rattle.model.specs.Image.{open_check}
use Rattle.model.specs.Read.{points_of}
use Rattle.model.specs.Lent.{Lent, opening}
use Rattle.model.specs.Record.{Entry, record_check, record_on, batch_check, batch_on}
use Rattle.model.specs.Query.{Answered, QueryReply, found, not_found, query, query_auto, replied_by}
use Rattle.model.specs.Consolidate.{Run, run}
use Rattle.model.specs.declared.Found.{Found}
use Rattle.model.specs.declared.Refusal.{Refusal}

pub data Call : Type 0 where
  record_call : (schema column value stamp : ℕ) → Call
  batch_call : List Entry → (stamp : ℕ) → Call
  query_call : (schema column tier start end : ℕ) → Call
  auto_call : (schema column start end : ℕ) → Call
  consolidate_call : Call
  -- opening, handed the image as left and these flags, whatever they are
  open_call : (handed : List Bool) → Call

pub data Reply : Type 0 where
  refused : ℕ → Reply
  done : Reply
  wrote : ℕ → Reply
  read : Answered → Reply

-- by a check's number
unfoldable pub done_or : ℕ → Reply
done_or zero = done
done_or (suc n) = refused (suc n)

-- a refused run answers its number alone
unfoldable pub wrote_or : ℕ → ℕ → Reply
wrote_or zero k = wrote k
wrote_or (suc n) k = refused (suc n)

unfoldable pub read_or : QueryReply → Reply
read_or (found a) = read a
read_or (not_found n) = refused n

pub record Done : Type 0 where
  pub reply : Reply
  pub lent : Lent

unfoldable pub finished : Run → Done
finished u = record { reply = wrote_or u.refusal u.count; lent = u.lent }

-- what a call does to the store: it reads it and leaves it as it is; it records a value, or a batch; it runs; it opens it with these flags. A further call that
-- only reads is one line more in `deed`
pub data Deed : Type 0 where
  reads : (reply : Lent → Reply) → Deed
  records : (schema column value stamp : ℕ) → Deed
  records_all : List Entry → (stamp : ℕ) → Deed
  runs : Deed
  opens : (handed : List Bool) → Deed

abbrev pub deed : Call → Deed
deed (record_call k c v t) = records k c v t
deed (batch_call es t) = records_all es t
deed (query_call k c j start end) = reads (λ l. read_or (query l k c j start end))
deed (auto_call k c start end) = reads (λ l. read_or (query_auto l k c start end))
deed consolidate_call = runs
deed (open_call fs) = opens fs

abbrev pub doing : Lent → Deed → Done
doing l (reads reply) = record { reply = reply l; lent = l }
doing l (records k c v t) = let n = record_check l k c v t in record { reply = done_or n; lent = record_on n l k c v t }
doing l (records_all es t) = let n = batch_check l es t in record { reply = done_or n; lent = batch_on n l es t }
doing l runs = finished (run l)
doing l (opens fs) = record { reply = done_or (open_check l.image); lent = opening (record { image = l.image; flags = fs }) }

unfoldable pub call : Lent → Call → Done
call l c = doing l (deed c)

-- what a list of calls leaves, and what they reply
unfoldable pub after : Lent → List Call → Lent
after l [] = l
after l (c ∷ cs) = after (call l c).lent cs

unfoldable pub replies : Lent → List Call → List Reply
replies l [] = []
replies l (c ∷ cs) = let d = call l c in d.reply ∷ replies d.lent cs

-- ---- what a caller sees of a reply: of an answer, in its reader's stead, the points that the reader hands out up to its end

pub data Shown : Type 0 where
  refusal : ℕ → Shown
  accepted : Shown
  writes : ℕ → Shown
  points : (tier : ℕ) (oldest newest : Option ℕ) (start end : ℕ) (incomplete : Bool) → List Point → Shown

unfoldable pub shown : Reply → Shown
shown (refused n) = refusal n
shown done = accepted
shown (wrote k) = writes k
shown (read a) = points a.tier a.oldest a.newest a.start a.end a.incomplete (points_of a.reader)

-- ---- the code's answers as replies, so that a promise says `.. ≡ call .. .reply`

unfoldable pub outcome_reply : Result (Unit {0}) Refusal → Reply
outcome_reply (Ok tt) = done
outcome_reply (Err r) = refused (number_of r)

unfoldable pub consolidated_reply : Result ℕ Refusal → Reply
consolidated_reply (Ok k) = wrote k
consolidated_reply (Err r) = refused (number_of r)

-- a query's, on the image that it was lent
unfoldable pub queried_reply : List ℕ → Result Found Refusal → Reply
queried_reply s q = read_or (replied_by s q)

-- names every definition of this module, for a proof by computation: `unfolding Store-defs`
unfoldable pub Store-defs : Unit {0}
unfolding done_or wrote_or read_or finished call after replies shown outcome_reply consolidated_reply queried_reply
Store-defs = tt
