-- One tier pair of a run: what it makes of its destination, and the pair's call: its check, where its reading starts, its closing. The laws of what it makes
-- stand in proofs/Pair.antt. Assumes nothing.
use Rattle.std.specs.Prelude.{ℕ, zero, suc, ◌+◌, ◌*◌, ◌^◌, ◌<◌, ◌≡◌, Bool, true, List, ltb, Some}
use Rattle.std.proofs.Common.{zero-add, arith}
use Rattle.std.proofs.Math.Path.{refl}
use Rattle.model.specs.declared.ConsolidationFn.{ConsolidationFn}
use Rattle.model.specs.Words.{function_no}
use Rattle.model.specs.Ring.{Ring, stamp, newest, oldest}
use Rattle.model.specs.Window.{window_of}
use Rattle.model.specs.Lent.{row, ring, with_ring}
use Rattle.model.specs.Consolidate.{Filled, Run, filled, stamps_below, or_zero, start_of, job_of, with_mark, close_pair, pair_with, pair_by, pair}
use Rattle.laws.specs.Tests.{yes_lt}
use Rattle.ring_theory.specs.Sound.{some_slots}
use Rattle.ring_theory.specs.Column.{Col}
use Rattle.ring_theory.specs.Hold.{Slab, State, first_held}
use Rattle.ring_theory.proofs.Hold.{reads}
use Rattle.ring_theory.specs.Read.{InRange, range_from}
use Rattle.ring_theory.proofs.Read.{held_in_lem}
use Rattle.pair_theory.specs.Windows.{job, Spans, spans_any}
use Rattle.pair_theory.specs.Answers.{patterns_of, answer_for, answer_empty, answer_is}
use Rattle.pair_theory.specs.Fill.{used_below, Full, Given, FilledBy}

-- f is what the pair makes of the destination B: e numbers from a on with the values Y, after j windows
abbrev pub Paired : Filled → Ring → (ℕ → Bool) → (ℕ → ℕ → ℕ) → ℕ → ℕ → ℕ → ℕ → ℕ → ℕ → Type 0
Paired f B u Y n m d a e j = FilledBy (record { ring = B; writes = 0; refusal = 0 }) u Y n m d a e j f

-- ---- the pair's call

-- the source's stamps pass the check
stamps_below_lem : (s : List ℕ) (i k : ℕ) → ((x : ℕ) → x < i + k → stamp s x < 2 ^ 63) → stamps_below s i k ≡ true
unfolding stamps_below
stamps_below_lem s i zero h = refl
stamps_below_lem s i (suc k) h = rw (yes_lt (stamp s i) (2 ^ 63) (h i (omega arith))) (stamps_below_lem s (suc i) k (λ x l. h x (omega arith)))

-- so the pair is carried out
pub pair_is : (v : Run) (i : ℕ) {fn : ConsolidationFn} {n m d : ℕ} → function_no (row v.lent (suc i)).function ≡ Some fn → Slab (ring v.lent i).slab n m d
    → pair v i ≡ close_pair v i (or_zero (newest (ring v.lent i))) (filled (job_of v.lent i fn) (ring v.lent (suc i)) (row v.lent i).series)
unfolding pair pair_by pair_with
pair_is v i {n = n} f s = rw (f, s.sound.slots-is, stamps_below_lem (ring v.lent i).slab 0 n (λ x l. s.low x (omega arith)))

-- where its reading starts: at the oldest stamp, or at the start of the mark's window
pub start_first : (x long y : ℕ) (r : Ring) → x ≡ 0 → oldest r ≡ Some y → start_of x long r ≡ y
unfolding start_of or_zero
start_first x long y r e o = rw (e, o)

pub start_marked : (x long : ℕ) (r : Ring) → 0 < x → start_of x long r ≡ window_of long x
unfolding start_of
start_marked zero long r h = absurd (omega arith)
start_marked (suc x) long r h = refl

-- its closing: the destination is stored, each used column of each window counts, and the mark moves if there was one
pub closed : {f : Filled} {B : Ring} {u : ℕ → Bool} {Y : ℕ → ℕ → ℕ} {n m d a e j : ℕ} (v : Run) (i t : ℕ) → Paired f B u Y n m d a e j
    → close_pair v i t f ≡ record {
      lent = with_mark (ltb 0 (j * used_below u m)) (with_ring v.lent (suc i) f.ring) i t;
      count = v.count + j * used_below u m;
      refusal = 0;
    }
unfolding close_pair
closed {u = u} {m = m} {j = j} v i t p = rw (p.fine, p.counted, zero-add (j * used_below u m))
