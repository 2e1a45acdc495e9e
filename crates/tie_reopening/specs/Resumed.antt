-- What `tie_reopening::ask_after` promises: the claim that an opening changes nothing, of what the code leaves and answers. The function creates a store, carries out calls,
-- opens, carries out further calls and queries, each by its proved core; so the checker holds their contracts together. Assumes nothing.
use Rattle.std.specs.Prelude.{ℕ, ◌/◌, ◌≡◌, cond, List, length, take}
use Rattle.std.proofs.Common.{ap, ◌∙◌}
use Rattle.std.proofs.lemmas.List.Edits.{sets}
use Rattle.model.specs.declared.Flags.{Flags}
use Rattle.model.specs.Image.{create_check}
use Rattle.model.specs.Lent.{Lent}
use Rattle.model.specs.Store.{Call, query_call, auto_call, Reply, call, after, shown, queried_reply}
use Rattle.demand.specs.Demand.{handed_out}
use Rattle.reopening.specs.Reopening.{History, left, reopened, OpeningChangesNothing}
use Rattle.reopening_proved.proofs.Theorem.{proof}
use Rattle.fetch.specs.Fetch.{words}
use Rattle.lookup.specs.Parts.{lent_of}
use Rattle.tie_calls.specs.Encoded.{calls_in}
use Rattle.tie_reopening.specs.declared.Question.{Question}
use Rattle.tie_reopening.specs.declared.Answer.{Answer}

-- the history that the function is called with; the calls stand in bytes
abbrev pub history : List ℕ → List ℕ → Flags → List ℕ → Flags → History
history plan buf flags before handed = record { plan = plan; buf = buf; flags = flags.wrapped; calls = calls_in before; handed = handed.wrapped }

-- the call that a question is
unfoldable pub asks : Question → Call
asks q =
    cond q.automatic (auto_call q.handle.schema q.handle.column q.start q.end)
    (query_call q.handle.schema q.handle.column q.tier q.start q.end)

-- l is left, the query c is answered by `reply`, the words lent go from `old` to `out`, and n is answered
pub record Resumed (h : History) (next : List Call) (c : Call) (l : Lent) (reply : Reply) (old out : List ℕ) (n : ℕ) : Type 0 where
  -- for every history: image and flags are what the calls and the opening leave, and the reply is the query's
  pub lent_is : l ≡ after (reopened h) next
  pub reply_is : reply ≡ (call (after (reopened h) next) c).reply
  -- n is how many points; they stand at the start of `out`, as many as there is room for; the words past them are as before
  pub counted : n ≡ length (take (length old / 2) (handed_out reply))
  pub stored : out ≡ sets old 0 (words (take (length old / 2) (handed_out reply)))
  -- where creation accepts the plan: every byte of the image, and all that is seen of the reply, is as it is without the opening
  pub same_image : create_check h.plan h.buf ≡ 0 → l.image ≡ (after (left h) next).image
  pub same_answer : create_check h.plan h.buf ≡ 0 → shown reply ≡ shown (call (after (left h) next) c).reply

-- the same of the function's answer, the further calls in bytes
abbrev pub AsWithout : History → List ℕ → Question → List ℕ → Answer → List ℕ → List ℕ → Type 0
AsWithout h next q image r old out = Resumed h (calls_in next) (asks q) (lent_of image r.flags) (queried_reply image r.queried) old out r.count

-- by what the calls ensure, and the theorem
pub resumed : (h : History) (next : List Call) (c : Call) {l : Lent} {reply : Reply} {old out : List ℕ} {n : ℕ} → l ≡ after (reopened h) next → reply ≡ (call l c).reply
    → (n ≡ length (take (length old / 2) (handed_out reply))) × (out ≡ sets old 0 (words (take (length old / 2) (handed_out reply)))) → Resumed h next c l reply old out n
unfolding OpeningChangesNothing
resumed h next c {l} {reply} e a s =
    let there : reply ≡ (call (after (reopened h) next) c).reply = a ∙ ap (λ (x : Lent). (call x c).reply) e in
    record {
      lent_is = e;
      reply_is = there;
      counted = s.0;
      stored = s.1;
      same_image = λ ok. ap (λ (x : Lent). x.image) e ∙ (proof h ok next).0;
      same_answer = λ ok. ap shown there ∙ (proof h ok next).1 c;
    }
