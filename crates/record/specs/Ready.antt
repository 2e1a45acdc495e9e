-- What `ready` and `store` leave: the row of a value's ring or its refusal, whatever the flags; a ring written, by its one flag. Together they are the outcome of
-- `record`. Assumes nothing.
use Rattle.std.specs.Prelude.{ℕ, zero, suc, ◌<◌, ◌≡◌, refl, ◌≢◌, Bool, true, false, ◌||◌, cond, List, [], get_or, set, Some, Result, Ok, Err}
use Rattle.std.proofs.Math.Nat.{add-zero}
use Rattle.std.proofs.Common.{sym, ap, ◌∙◌}
use Rattle.std.proofs.Math.Bool.{or-true, or-false}
use Rattle.std.proofs.lemmas.List.{set-get_or}
use Rattle.model.specs.declared.Refusal.{Refusal}
use Rattle.model.specs.Words.{number_of}
use Rattle.model.specs.Image.{first, open_check}
use Rattle.model.specs.Ring.{ColumnValue, write}
use Rattle.model.specs.Lent.{Lent, row, ring, with_ring, row_no}
use Rattle.model.specs.Record.{record_check, record_on, write_to}
use Rattle.ring_theory.specs.Write.{write-is, flag_is}
use Rattle.rows.specs.First.{refusal_no}
use Rattle.ring.specs.Parts.{one}
use Rattle.lookup.specs.Parts.{finest_of}
use Rattle.lookup.specs.Handle.{handle_at}
use Rattle.record.specs.Done.{RecordDone}

abbrev pub lent_by : List ℕ → List Bool → Lent
lent_by s bs = record { image = s; flags = bs }

-- the value v for column c of schema k at stamp t is accepted, for the ring of row i
pub record ReadyAt (s : List ℕ) (k c v t i : ℕ) : Type 0 where
  pub opened : open_check s ≡ 0
  pub row_is : finest_of s k c ≡ Some i
  pub few_rows : i < 32
  pub accepted : (bs : List Bool) → record_check (lent_by s bs) k c v t ≡ 0

abbrev pub Readied : List ℕ → ℕ → ℕ → ℕ → ℕ → Result ℕ Refusal → Type 0
Readied s k c v t (Ok i) = ReadyAt s k c v t i
Readied s k c v t (Err r) = (bs : List Bool) → number_of r ≡ record_check (lent_by s bs) k c v t

-- by the answer's case
pub row_ready : {s : List ℕ} {k c v t i : ℕ} {r : Result ℕ Refusal} → r ≡ Ok i → Readied s k c v t r → ReadyAt s k c v t i
row_ready e h = rw e at h

pub refusal_ready : (s : List ℕ) (k c v t : ℕ) {r : Result ℕ Refusal} {n : Refusal} → r ≡ Err n → Readied s k c v t r → Readied s k c v t (Err n)
refusal_ready s k c v t e h = rw e at h

-- the ring of row i of s, with the flag w, written: u and the flag b
pub record RowWritten (s u : List ℕ) (i : ℕ) (es : List ColumnValue) (t : ℕ) (w b : Bool) : Type 0 where
  pub lent_is : (bs : List Bool) → w ≡ get_or bs i false → lent_by u (set bs i b) ≡ with_ring (lent_by s bs) i (write (ring (lent_by s bs) i) es t)
  pub stays : w ≡ true → b ≡ true

-- a write's bytes do not depend on the flag: a ring written as if its flag were off is written with any flag w
pub any_flag : {s u : List ℕ} {i : ℕ} {es : List ColumnValue} {t : ℕ} {b : Bool} → RowWritten s u i es t false b → (w : Bool) → RowWritten s u i es t w (w || b)
unfolding with_ring ring row
any_flag h false = h
any_flag {s} {u} {i} {es} {t} h true = record { lent_is = lent_is; stays = λ _. refl }
  where
    lent_is : (bs : List Bool) → true ≡ get_or bs i false → lent_by u (set bs i true) ≡ with_ring (lent_by s bs) i (write (ring (lent_by s bs) i) es t)
    lent_is bs e = rw (ap (λ (l : Lent). l.image) (h.lent_is [] refl), write-is (ring (lent_by s []) i) es t, write-is, flag_is, ← e)

-- a flag set where b says so
set_where : (bs : List Bool) (i : ℕ) (b : Bool) → set bs i (get_or bs i false || b) ≡ cond b (set bs i true) bs
set_where bs i true = ap (set bs i) (or-true (get_or bs i false))
set_where bs i false = ap (set bs i) (or-false (get_or bs i false)) ∙ set-get_or bs i false

module _ (s : List ℕ) (bs : List Bool) (k c v t : ℕ) where
  -- opening's refusal is record's
  pub unopened : (n : ℕ) → n ≢ 0 → n ≡ open_check s → n ≡ record_check (lent_by s bs) k c v t
  unopened zero z e = absurd (z refl)
  unopened (suc n) z e = unfold record_check first in (rw (← e))

  -- a refusal leaves what was lent
  pub refused_by : (n : ℕ) → n ≢ 0 → n ≡ record_check (lent_by s bs) k c v t → RecordDone (lent_by s bs) k c v t n (lent_by s bs)
  refused_by zero z e = absurd (z refl)
  refused_by (suc n) z e = record { answer_is = e; lent_is = unfold record_on in (rw (← e) refl) }

  pub refused : (r : Refusal) → Readied s k c v t (Err r) → RecordDone (lent_by s bs) k c v t (number_of r) (lent_by s bs)
  refused r e = refused_by (number_of r) (refusal_no r) (e bs)

  pub recorded : {u : List ℕ} {i : ℕ} {w b : Bool} → ReadyAt s k c v t i → RowWritten s u i (one c v) t w b → w ≡ get_or bs i false
      → RecordDone (lent_by s bs) k c v t 0 (lent_by u (set bs i b))
  recorded a h e = record {
    answer_is = sym (a.accepted bs);
    lent_is = h.lent_is bs e ∙ unfold record_on write_to row_no in (rw (a.accepted bs, add-zero, (handle_at (lent_by s bs) k c a.row_is).1));
  }

  -- written as if the flag were off: the flag is set where the write sets it, else it stays
  pub recorded_as_off : {u : List ℕ} {i : ℕ} {b : Bool} {fs : List Bool} → ReadyAt s k c v t i → RowWritten s u i (one c v) t false b → fs ≡ cond b (set bs i true) bs
      → RecordDone (lent_by s bs) k c v t 0 (lent_by u fs)
  recorded_as_off {u} {i} {b} a h e = rw (e, ← set_where bs i b) (recorded a (any_flag h (get_or bs i false)) refl)
