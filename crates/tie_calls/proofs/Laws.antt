-- What the proofs of carry_out rest on: a call's size and which call it is, by its kind; what a call leaves, one law a kind; one turn of the loop. Assumes
-- nothing.
use Prim.Native.Nat.{ℕ, suc, ◌+◌, ◌-◌, ◌*◌, ◌/◌, ◌≤◌, ◌<◌}
use native.Mathlib.Omega.{arith}
use mathlib.Core.Path.{◌≡◌, refl, sym, ap, ◌∙◌}
use mathlib.Core.Logic.{◌≢◌}
use mathlib.Core.Bool.{Bool}
use mathlib.Core.List.{List}
use lib.ListN.{length}
use borrow.Author.Tests.{eq-eqb}
use Rattle.model.specs.Bytes.{u32, u64, part}
use Rattle.model.specs.Lent.{Lent, opening}
use Rattle.model.specs.Record.{entries}
use Rattle.model.specs.Store.{call, after, consolidate_call}
use Rattle.laws.specs.Tests.{yes_le, no_le, no_eq}
use Rattle.flag_bits.specs.Bits.{bits}
use Rattle.record.specs.Done.{RecordDone}
use Rattle.batch.specs.Done.{BatchDone}
use Rattle.tie_calls.specs.declared.Kind.{Kind}
use Rattle.tie_calls.specs.declared.Kind.TheVariants.{Record, Batch, Query, Auto, Open, Run}
use Rattle.tie_calls.specs.Kinds.{KindIs}
use Rattle.tie_calls.specs.Encoded.{batch_size, size_at, record_at, batch_at, query_at, auto_at, handed_at, open_at, call_at, calls_from, calls_in}

-- ---- the size

module _ (b : List ℕ) (o : ℕ) where
  pub size_batch : u32 b o ≡ 1 → size_at b o ≡ batch_size b o
  unfolding size_at
  size_batch e = rw (eq-eqb (u32 b o) 1 e)

  pub size_other : u32 b o ≢ 1 → size_at b o ≡ 32
  unfolding size_at
  size_other h = rw (no_eq (u32 b o) 1 h)

-- no other kind has a batch's number
pub not_batch : (k : Kind) {n : ℕ} → KindIs k n → k ≢ Batch → n ≢ 1
not_batch Record h other z = omega arith
not_batch Batch h other z = other refl
not_batch Query h other z = omega arith
not_batch Auto h other z = omega arith
not_batch Open h other z = omega arith
not_batch Run h other z = h.1 z

-- ---- what the call leaves, by its kind

module _ (l : Lent) (b : List ℕ) (o : ℕ) where
  -- the fields that were read are those of the call
  pub recorded : {k c v t n : ℕ} {u : Lent} → k ≡ u32 b (o + 4) → c ≡ u32 b (o + 8) → v ≡ u64 b (o + 16) → t ≡ u64 b (o + 24) → RecordDone l k c v t n u → u ≡ (call l (record_at b o)).lent
  unfolding call record_at
  recorded p q r s d = d.lent_is ∙ rw (p, q, r, s)

  pub batch_recorded : {m t n : ℕ} {u : Lent} → BatchDone l (entries (part b (o + 32) m)) t n u → m ≡ 16 * u32 b (o + 12) → t ≡ u64 b (o + 24) → u ≡ (call l (batch_at b o)).lent
  unfolding call batch_at
  batch_recorded d p q = d.lent_is ∙ rw (p, q)

  pub opened : {x : ℕ} {fs : List Bool} {u : Lent} → x ≡ u32 b (o + 4) → fs ≡ bits 32 x → u ≡ opening (record { image = l.image; flags = fs })
      → u ≡ opening (record { image = l.image; flags = handed_at b o })
  unfolding handed_at
  opened p q w = w ∙ rw (q, p)

  pub is_record : u32 b o ≡ 0 → {u : Lent} → u ≡ (call l (record_at b o)).lent → u ≡ (call l (call_at b o)).lent
  unfolding call_at
  is_record e w = w ∙ rw (eq-eqb (u32 b o) 0 e)

  pub is_batch : u32 b o ≡ 1 → {u : Lent} → u ≡ (call l (batch_at b o)).lent → u ≡ (call l (call_at b o)).lent
  unfolding call_at
  is_batch e w = w ∙ rw (no_eq (u32 b o) 0 (λ z. omega arith), eq-eqb (u32 b o) 1 e)

  pub is-query : u32 b o ≡ 2 → l ≡ (call l (call_at b o)).lent
  unfolding call_at call query_at
  is-query e = rw (no_eq (u32 b o) 0 (λ z. omega arith), no_eq (u32 b o) 1 (λ z. omega arith), eq-eqb (u32 b o) 2 e)

  pub is_auto : u32 b o ≡ 3 → l ≡ (call l (call_at b o)).lent
  unfolding call_at call auto_at
  is_auto e = rw (no_eq (u32 b o) 0 (λ z. omega arith), no_eq (u32 b o) 1 (λ z. omega arith), no_eq (u32 b o) 2 (λ z. omega arith), eq-eqb (u32 b o) 3 e)

  pub is_open : u32 b o ≡ 4 → {u : Lent} → u ≡ opening (record { image = l.image; flags = handed_at b o }) → u ≡ (call l (call_at b o)).lent
  unfolding call_at call open_at
  is_open e w =
      w ∙
      rw (no_eq (u32 b o) 0 (λ z. omega arith), no_eq (u32 b o) 1 (λ z. omega arith), no_eq (u32 b o) 2 (λ z. omega arith), no_eq (u32 b o) 3 (λ z. omega arith), eq-eqb (u32 b o) 4 e)

  pub is-run : u32 b o ≢ 0 → u32 b o ≢ 1 → u32 b o ≢ 2 → u32 b o ≢ 3 → u32 b o ≢ 4 → {u : Lent} → u ≡ (call l consolidate_call).lent → u ≡ (call l (call_at b o)).lent
  unfolding call_at
  is-run p q r s t w = w ∙ rw (no_eq (u32 b o) 0 p, no_eq (u32 b o) 1 q, no_eq (u32 b o) 2 r, no_eq (u32 b o) 3 s, no_eq (u32 b o) 4 t)

-- ---- the loop over the calls

module _ (l : Lent) (b : List ℕ) (o k : ℕ) where
  next-call : o + size_at b o ≤ length b → after l (calls_from b o (suc k)) ≡ after (call l (call_at b o)).lent (calls_from b (o + size_at b o) k)
  unfolding calls_from after
  next-call h = rw (yes_le (o + size_at b o) (length b) h)

  no_call : length b < o + size_at b o → after l (calls_from b o (suc k)) ≡ l
  unfolding calls_from after
  no_call h = rw (no_le (o + size_at b o) (length b) h)

-- l, with at most k calls from offset o on still to be carried out, goes where l₀ goes with all calls of b
pub record Carrying (l₀ : Lent) (b : List ℕ) (l : Lent) (o k : ℕ) : Type 0 where
  pub in_bounds : o ≤ length b
  pub rest : after l (calls_from b o k) ≡ after l₀ (calls_in b)

pub starts : (l : Lent) (b : List ℕ) → Carrying l b l 0 (length b / 32)
unfolding calls_in
starts l b = record { in_bounds = omega arith; rest = refl }

module _ {l₀ : Lent} {b : List ℕ} {l : Lent} {o k : ℕ} (r : Carrying l₀ b l o k) where
  pub ends : k ≤ 0 → l ≡ after l₀ (calls_in b)
  unfolding calls_from after
  ends h = let z : k ≡ 0 = omega arith in sym (ap (λ (x : ℕ). after l (calls_from b o x)) z) ∙ r.rest

  one_more : 0 < k → after l (calls_from b o (suc (k - 1))) ≡ after l₀ (calls_in b)
  one_more h = let z : suc (k - 1) ≡ k = omega arith in ap (λ (x : ℕ). after l (calls_from b o x)) z ∙ r.rest

  -- too few bytes are left
  pub ends-short : 0 < k → length b < o + size_at b o → l ≡ after l₀ (calls_in b)
  ends-short h s = sym (no_call l b o (k - 1) s) ∙ one_more h

  pub goes_on : 0 < k → o + size_at b o ≤ length b → {u : Lent} → u ≡ (call l (call_at b o)).lent → Carrying l₀ b u (o + size_at b o) (k - 1)
  goes_on h s w = record {
    in_bounds = s;
    rest = ap (λ (x : Lent). after x (calls_from b (o + size_at b o) (k - 1))) w ∙ sym (next-call l b o (k - 1) s) ∙ one_more h;
  }
