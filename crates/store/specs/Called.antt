-- The promise of a call that changes what it was lent: its reply, and image and flags after it, are the model's; and how the by-value cores' promises give it.
-- Assumes nothing.
use Rattle.std.specs.Prelude.{ℕ, ◌≡◌, refl, List, Result, Ok, Err}
use Rattle.std.proofs.Common.{◌∙◌, ap}
use Rattle.model.specs.declared.Refusal.{Refusal}
use Rattle.model.specs.Words.{number_of, number_pos, outcome_no}
use Rattle.model.specs.Lent.{Lent}
use Rattle.model.specs.Record.{Entry}
use Rattle.model.specs.Store.{Done, record_call, batch_call, Reply, refused, done_or, call, outcome_reply}
use Rattle.record.specs.Done.{RecordDone}
use Rattle.batch.specs.Done.{BatchDone}

-- what a call answered and left
abbrev pub done_of : Reply → Lent → Done
done_of reply after = record { reply = reply; lent = after }

-- ---- from a check's number to the reply

refused_reply : (r : Refusal) → refused (number_of r) ≡ done_or (number_of r)
unfolding done_or
refused_reply r = rw (number_pos r) refl

outcome_reply_lem : (o : Result (Unit {0}) Refusal) → outcome_reply o ≡ done_or (outcome_no o)
unfolding done_or outcome_reply
outcome_reply_lem (Ok tt) = refl
outcome_reply_lem (Err r) = refused_reply r

-- ---- the cores' promises

pub record_called : {l : Lent} {k c v t : ℕ} (o : Result (Unit {0}) Refusal) {after : Lent} → RecordDone l k c v t (outcome_no o) after → done_of (outcome_reply o) after ≡ call l (record_call k c v t)
unfolding call
record_called o d = λ i. record { reply = (outcome_reply_lem o ∙ ap done_or d.answer_is) i; lent = d.lent_is i }

pub batch_called : {l : Lent} {es : List Entry} {t : ℕ} (o : Result (Unit {0}) Refusal) {after : Lent} → BatchDone l es t (outcome_no o) after → done_of (outcome_reply o) after ≡ call l (batch_call es t)
unfolding call
batch_called o d = λ i. record { reply = (outcome_reply_lem o ∙ ap done_or d.answer_is) i; lent = d.lent_is i }
