-- The promise of a query: its reply is the model's, and its reader is that of the reply; and how the by-value core's promise gives it. Assumes nothing.
use Rattle.std.specs.Prelude.{ℕ, ◌-◌, ◌≡◌, refl, List, [], Result, Ok, Err}
use Rattle.std.proofs.Common.{sym, ap, ◌∙◌}
use Rattle.model.specs.Bytes.{part}
use Rattle.model.specs.Read.{Reader}
use Rattle.model.specs.Lent.{Lent}
use Rattle.model.specs.Query.{QueryReply, replied_by}
use Rattle.model.specs.Store.{Call, Reply, refused, done, wrote, read, read_or, call, queried_reply}
use Rattle.store_reads.specs.declared.Start.{Start}
use Rattle.model.specs.declared.Found.{Found}
use Rattle.model.specs.declared.Refusal.{Refusal}

-- a reader at its end, over no bytes
unfoldable pub no_reader : Reader
no_reader = record { slab = []; column = 0; start = 0; end = 0; place = record { slot = 0; left = 0 } }

-- the reader of a reply
unfoldable pub reply_reader : Reply → Reader
reply_reader (read a) = a.reader
reply_reader (refused n) = no_reader
reply_reader done = no_reader
reply_reader (wrote k) = no_reader

-- query c on l answers q and the reader r
pub record Answers (l : Lent) (c : Call) (q : Result Found Refusal) (r : Reader) : Type 0 where
  pub reply_is : queried_reply l.image q ≡ (call l c).reply
  pub reader_is : r ≡ reply_reader (call l c).reply

-- ---- where the reader of an answer starts

unfoldable pub start_of : Result Found Refusal → Start
start_of (Err r) = record { queried = Err r; from = 0; to = 0; column = 0; start = 0; end = 0; slot = 0; left = 0 }
start_of (Ok f) = record { queried = Ok f; from = f.from; to = f.to; column = f.column; start = f.start; end = f.end; slot = f.place.slot; left = f.place.left }

kept : (q : Result Found Refusal) → (start_of q).queried ≡ q
unfolding start_of
kept (Err r) = refl
kept (Ok f) = refl

-- a start of q's is one of its own answer, which replies the same
pub starts : (s : List ℕ) (t : Start) (p : QueryReply) (q : Result Found Refusal) → t ≡ start_of q → replied_by s q ≡ p → (replied_by s t.queried ≡ p) × (t ≡ start_of t.queried)
starts s t p q e r = let same : t.queried ≡ q = ap (λ (u : Start). u.queried) e ∙ kept q in (ap (replied_by s) same ∙ r, e ∙ ap start_of (sym same))

-- the reader over an image s that starts there
abbrev pub reader_at : List ℕ → Start → Reader
reader_at s t = record { slab = part s t.from (t.to - t.from); column = t.column; start = t.start; end = t.end; place = record { slot = t.slot; left = t.left } }

pub started : (s : List ℕ) (q : Result Found Refusal) → reader_at s (start_of q) ≡ reply_reader (queried_reply s q)
unfolding part start_of reply_reader no_reader queried_reply read_or replied_by
started s (Err r) = refl
started s (Ok f) = refl
