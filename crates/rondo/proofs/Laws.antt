-- How the cores' contracts become the edge's: the flags cross as a number, a call's outcome is a step of the model's `call`; what a good plan's check says
-- of its size. Assumes nothing.
use Rattle.std.specs.Prelude.{Option, unwrap_or, Some, None, Result, Ok, Err}
use Prim.Native.Nat.{ℕ, zero, suc}
use mathlib.Core.Path.{◌≡◌, refl, ap, ◌∙◌}
use mathlib.Core.Bool.{Bool, true, false}
use mathlib.Core.List.{List, [], ◌∷◌}
use mir.Val.{bool_byte}
use Rattle.model.specs.declared.Flags.{Flags}
use Rattle.model.specs.declared.Point.{Point}
use Rattle.model.specs.declared.Stepped.{Stepped}
use Rattle.model.specs.declared.Found.{Found}
use Rattle.model.specs.declared.Refusal.{Refusal}
use Rattle.model.specs.Words.{number_of}
use Rattle.model.specs.Query.{QueryReply, not_found, replied_by}
use Rattle.model.specs.Lent.{Lent}
use Rattle.model.specs.Record.{Entry}
use Rattle.model.specs.Store.{Done, call, record_call, batch_call, consolidate_call, consolidated_reply}
use Rattle.lookup.specs.Parts.{lent_of}
use Rattle.record.specs.Done.{RecordDone}
use Rattle.batch.specs.Done.{BatchDone}
use Rattle.flag_bits.specs.Bits.{bits, bit_of}
use Rattle.flag_bits.specs.One.{lent_at}
use Rattle.rondo.specs.Edge.{done_as, stored_unless_refused, reply_no, count_on, end_no, found_words, query_no, query_words, queried_no, queried_words, place_words, next_no, point_words}

-- ---- the flags cross as a number

-- what is lent
pub lent_in : (s : List ℕ) (f : Flags) (x : ℕ) → f.wrapped ≡ bits 32 x → lent_of s f ≡ lent_at s x
lent_in s f x e = ap (λ w. record { image = s; flags = w }) e

-- what is left
pub lent_out : (s : List ℕ) (f : Flags) (x : ℕ) → bits 32 x ≡ f.wrapped → lent_at s x ≡ lent_of s f
lent_out s f x e = ap (λ w. record { image = s; flags = w }) e

-- a step on what is lent, with the flags f before it and g after it
pub crossed : {s t : List ℕ} (x y : ℕ) (step : Lent → Lent) (f g : Flags) → f.wrapped ≡ bits 32 x → bits 32 y ≡ g.wrapped → lent_of t g ≡ step (lent_of s f)
    → lent_at t y ≡ step (lent_at s x)
crossed {s} {t} x y step f g into out e = lent_out t g y out ∙ e ∙ ap step (lent_in s f x into)

-- ---- a call's outcome

pub record_call_lem : (l a : Lent) (k c v t n : ℕ) → RecordDone l k c v t n a → done_as n a ≡ call l (record_call k c v t)
unfolding call
record_call_lem l a k c v t n d = rw (d.answer_is, d.lent_is)

pub batch_call_lem : (l a : Lent) (es : List Entry) (t n : ℕ) → BatchDone l es t n a → done_as n a ≡ call l (batch_call es t)
unfolding call
batch_call_lem l a es t n d = rw (d.answer_is, d.lent_is)

abbrev pub done_after : Result ℕ Refusal → Lent → Done
done_after a l = record { reply = consolidated_reply a; lent = l }

-- ---- consolidation's outcome, a being the code's answer

module _ (s t : List ℕ) (x y : ℕ) (a : Result ℕ Refusal) where
  pub ran : (f g : Flags) → f.wrapped ≡ bits 32 x → bits 32 y ≡ g.wrapped → done_after a (lent_of t g) ≡ call (lent_of s f) consolidate_call
      → done_after a (lent_at t y) ≡ call (lent_at s x) consolidate_call
  ran f g into out e = rw (lent_out t g y out, ← lent_in s f x into) e

  module _ (old : ℕ) (e : done_after a (lent_at t y) ≡ call (lent_at s x) consolidate_call) where
    pub run_wrote : {k : ℕ} → a ≡ Ok k
        → (0 ≡ reply_no (call (lent_at s x) consolidate_call).reply)
        × ((k ≡ count_on (call (lent_at s x) consolidate_call).reply old) × (lent_at t y ≡ (call (lent_at s x) consolidate_call).lent))
    unfolding reply_no count_on consolidated_reply
    run_wrote h = rw (← e, h) (refl, (refl, refl))

    pub run_refused : {r : Refusal} {m : ℕ} → a ≡ Err r → m ≡ number_of r
        → (m ≡ reply_no (call (lent_at s x) consolidate_call).reply)
        × ((old ≡ count_on (call (lent_at s x) consolidate_call).reply old) × (lent_at t y ≡ (call (lent_at s x) consolidate_call).lent))
    unfolding reply_no count_on consolidated_reply
    run_refused h i = rw (← e, h) (i, (refl, refl))

-- ---- a number that a refusal leaves

pub left_alone : (n old new : ℕ) → (n ≡ 0 → ⊥) → old ≡ stored_unless_refused n old new
unfolding stored_unless_refused
left_alone zero old new h = absurd (h refl)
left_alone (suc n) old new h = refl

pub set_anew : (n old new : ℕ) → n ≡ 0 → new ≡ stored_unless_refused n old new
unfolding stored_unless_refused
set_anew n old new h = rw h

-- ---- a query's answer, as the code has it and as the model has it

pub query_no_lem : (s : List ℕ) (q : Result Found Refusal) → queried_no q ≡ query_no (replied_by s q)
unfolding queried_no query_no replied_by
query_no_lem s (Ok f) = refl
query_no_lem s (Err r) = refl

pub query-words : (s : List ℕ) (q : Result Found Refusal) (old : List ℕ) → queried_words q old ≡ query_words (replied_by s q) old
unfolding queried_words query_words replied_by
query-words s (Ok f) old = refl
query-words s (Err r) old = refl

-- an end as a number is the end, or 0
pub end_unwrapped : (o : Option ℕ) → unwrap_or o 0 ≡ end_no o
end_unwrapped None = refl
end_unwrapped (Some t) = refl

-- a flag cast to a number is its bit
pub flag_cast : (b : Bool) → bool_byte b ≡ bit_of b
flag_cast true = refl
flag_cast false = refl

pub words_of : (f : Found) (o n i : ℕ) → o ≡ end_no f.oldest → n ≡ end_no f.newest → i ≡ bit_of f.incomplete
    → f.tier ∷ o ∷ n ∷ f.start ∷ f.end ∷ i ∷ f.column ∷ f.from ∷ f.to ∷ f.place.slot ∷ f.place.left ∷ [] ≡ found_words f
words_of f o n i p q r = rw (p, q, r)

-- the number m and the numbers u of an answer q, which is the model's a
pub asked : (s : List ℕ) (q : Result Found Refusal) (m : ℕ) (u old : List ℕ) (a : QueryReply) → m ≡ queried_no q → u ≡ queried_words q old → replied_by s q ≡ a
    → (m ≡ query_no a) × (u ≡ query_words a old)
asked s q m u old a e h r = (e ∙ query_no_lem s q ∙ ap query_no r, h ∙ query-words s q old ∙ ap (λ x. query_words x old) r)

-- opening's refusal n leaves the numbers
pub not_found_lem : (n : ℕ) (old : List ℕ) {a : QueryReply} → not_found n ≡ a → (n ≡ query_no a) × (old ≡ query_words a old)
unfolding query_no query_words
not_found_lem n old e = (ap query_no e, ap (λ x. query_words x old) e)

pub answer_stored : (q : Result Found Refusal) (f : Found) (w old : List ℕ) → q ≡ Ok f → w ≡ found_words f → (0 ≡ queried_no q) × (w ≡ queried_words q old)
unfolding queried_no queried_words
answer_stored q f w old e h = rw e (refl, h)

pub query_refused : (q : Result Found Refusal) (r : Refusal) (m : ℕ) (old : List ℕ) → q ≡ Err r → m ≡ number_of r → (m ≡ queried_no q) × (old ≡ queried_words q old)
unfolding queried_no queried_words
query_refused q r m old e h = rw e (h, refl)

-- ---- a step of the reader

pub step-handed : (r d : Stepped) (p : Point) (old : List ℕ) → r ≡ d → r.next ≡ Some p
    → (1 ≡ next_no d.next) × ((place_words r.place ≡ place_words d.place) × (p.stamp ∷ p.value ∷ [] ≡ point_words d.next old))
unfolding next_no point_words
step-handed r d p old e h = rw (← e, h) (refl, (refl, refl))

pub step-finished : (r d : Stepped) (old : List ℕ) → r ≡ d → r.next ≡ None
    → (0 ≡ next_no d.next) × ((place_words r.place ≡ place_words d.place) × (old ≡ point_words d.next old))
unfolding next_no point_words
step-finished r d old e h = rw (← e, h) (refl, (refl, refl))
