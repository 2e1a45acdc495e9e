-- How the by-value core's promise gives the promise of a query. Assumes nothing.
use Rattle.std.specs.Prelude.{ℕ, ◌≡◌}
use Rattle.std.proofs.Common.{ap, ◌∙◌}
use Rattle.model.specs.Lent.{Lent}
use Rattle.model.specs.Query.{query, query_auto, replied_by}
use Rattle.model.specs.Store.{Call, query_call, auto_call, read_or, call, queried_reply}
use Rattle.store_reads.specs.declared.Start.{Start}
use Rattle.store_reads.specs.Answers.{start_of, Answers, reply_reader, reader_at, started}

-- ---- the cores' promises

answers-from : (l : Lent) (c : Call) {t : Start} → queried_reply l.image t.queried ≡ (call l c).reply → t ≡ start_of t.queried → Answers l c t.queried (reader_at l.image t)
answers-from l c {t} e st = record { reply_is = e; reader_is = ap (reader_at l.image) st ∙ started l.image t.queried ∙ ap reply_reader e }

pub query-answers : {l : Lent} {k c j a e : ℕ} {t : Start} → replied_by l.image t.queried ≡ query l k c j a e → t ≡ start_of t.queried → Answers l (query_call k c j a e) t.queried (reader_at l.image t)
unfolding call queried_reply
query-answers {l} {k} {c} {j} {a} {e} p st = answers-from l (query_call k c j a e) (ap read_or p) st

pub auto_answers : {l : Lent} {k c a e : ℕ} {t : Start} → replied_by l.image t.queried ≡ query_auto l k c a e → t ≡ start_of t.queried → Answers l (auto_call k c a e) t.queried (reader_at l.image t)
unfolding call queried_reply
auto_answers {l} {k} {c} {a} {e} p st = answers-from l (auto_call k c a e) (ap read_or p) st
