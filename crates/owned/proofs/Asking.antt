-- A query's answer with its points, from what store_reads promises. Assumes nothing.
use Rattle.std.specs.Prelude.{◌≡◌, Result, Ok, Err, IfOk, MatchResult, IsErrOf}
use Rattle.std.proofs.Common.{sym, ap, ◌∙◌, subst}
use Rattle.model.specs.declared.Found.{Found}
use Rattle.model.specs.declared.Refusal.{Refusal}
use Rattle.model.specs.Words.{number_of}
use Rattle.model.specs.Lent.{Lent}
use Rattle.model.specs.Query.{replied_by}
use Rattle.model.specs.Store.{Call, call, read_or, queried_reply}
use Rattle.store_reads.specs.declared.Reader.{Reader}
use Rattle.store_reads.specs.Reads.{reader_of}
use Rattle.store_reads.specs.Answers.{reply_reader, Answers}
use Rattle.owned.specs.declared.Refused.{Refused}
use Rattle.owned.specs.declared.Points.{Points}
use Rattle.owned.specs.Answers.{query_reply, Asked}

module _ (l : Lent) (k : Call) (to : Reader) (r : Result (Found × Points) Refused) where
  PointsOf : Result (Found × Points) Refused → Type 0
  PointsOf o = IfOk o (λ a. reader_of a.1.0 ≡ reply_reader (call l k).reply)

  pub asked : (q : Result Found Refusal) → MatchResult q (λ f. r ≡ Ok (f, record { 0 = to })) (λ n. IsErrOf r (record { 0 = number_of n })) → Answers l k q (reader_of to) → Asked l k r
  unfolding queried_reply read_or replied_by PointsOf
  asked (Ok f) is h = record { reply_is = ap (query_reply l.image) is ∙ h.reply_is; points_are = subst PointsOf (sym is) h.reader_is }
  asked (Err n) is h = record { reply_is = ap (query_reply l.image) is ∙ h.reply_is; points_are = subst PointsOf (sym is) tt }
