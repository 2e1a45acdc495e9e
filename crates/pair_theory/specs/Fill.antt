-- A pair's writes: window by window, column by column. Where each used column has an answer in every window, each window is one number more of the
-- destination, the first one perhaps its newest number again; the used columns all take it, the others stay without a value, and each used column counts
-- one write. Assumes nothing.
use Prim.Native.Nat.{ℕ, zero, suc, ◌+◌, ◌*◌, ◌^◌, ◌≤◌, ◌<◌}
use Rattle.std.proofs.Common.{sym, ◌∙◌}
use native.Mathlib.Omega.{arith}
use Rattle.std.proofs.Math.Decide.{ℕ_discrete}
use Rattle.std.specs.Prelude.{◌≡◌, Bool, cond, Float}
use Rattle.std.proofs.Math.Path.{ap}
use Rattle.std.proofs.Math.Bool.{true, false}
use Rattle.std.specs.Float.{binary64}
use Rattle.std.specs.Float.Ieee.{to_bits}
use Rattle.model.specs.declared.WindowAnswer.{WindowAnswer}
use Rattle.model.specs.declared.WindowAnswer.TheVariants.{Number}
use Rattle.model.specs.Bytes.{get}
use Rattle.model.specs.Image.{first, unless}
use Rattle.model.specs.Record.{stamp_ok}
use Rattle.model.specs.Ring.{Ring, ColumnValue, cell, write, is_infinite}
use Rattle.model.specs.Window.{Job, window_answer}
use Rattle.model.specs.Consolidate.{Filled, write_check, write_unless, write_on, write_bits, write_answer, unless_refused, fill_window, fill}
use Rattle.laws.specs.Tests.{yes_lt}
use Rattle.ring_theory.specs.Write.{Wrote, set_cell, set_cells}
use Rattle.ring_theory.proofs.Write.{set_other}
use Rattle.ring_theory.specs.Sound.{some_slots}
use Rattle.ring_theory.specs.Column.{Col, keeps_agree, col_same}
use Rattle.ring_theory.proofs.Column.{col_put}
use Rattle.ring_theory.specs.Hold.{State}
use Rattle.ring_theory.proofs.Step.{at-number, step-at, taken_at}
use Rattle.pair_theory.specs.Windows.{wins}

-- ---- used columns

-- how many columns below c are used
unfoldable pub used_below : (ℕ → Bool) → ℕ → ℕ
used_below u zero = 0
used_below u (suc c) = used_below u c + cond (u c) 1 0

pub one-used : (u : ℕ → Bool) (m x : ℕ) → x < m → u x ≡ true → 0 < used_below u m
unfolding used_below
one-used u zero x h e = absurd (omega arith)
one-used u (suc c) x h e = go (λ l. one-used u c x l e) (ℕ_discrete x c)
  where
    go : (x < c → 0 < used_below u c) → Dec (x ≡ c) → 0 < used_below u (suc c)
    go rec (yes p) = rw (sym (ap u p) ∙ e) (omega arith)
    go rec (no p) = omega (arith, rec (omega arith))

-- a ring whose used columns all took the e numbers from a on, number q with X c q in column c, and whose other columns took none
pub record Full (r : Ring) (u : ℕ → Bool) (X : ℕ → ℕ → ℕ) (n m d a e : ℕ) : Type 0 where
  pub state : State r n m d a e
  pub cols : (x : ℕ) → x < m → Col (cell r.slab x) n a (cond (u x) e 0) (X x)

-- ---- answers that are written

-- the answer is written as v, and v passes the write's check
pub record Given (A : WindowAnswer) (v : ℕ) : Type 0 where
  pub written : (f : Filled) (w c : ℕ) → write_answer A f w c ≡ write_bits f w c v
  pub finite : is_infinite v ≡ false
  pub small : v < 2 ^ 64

pub given_number : {A : WindowAnswer} (x : Float) (v : ℕ) → A ≡ Number x → to_bits binary64 x ≡ v → is_infinite v ≡ false → v < 2 ^ 64 → Given A v
unfolding write_answer
given_number x v e b i l = record { written = λ f w c. rw (e, b); finite = i; small = l }

-- ---- all windows

-- what a run of j windows leaves of f: its ring then holds e numbers with the values Y'
pub record FilledBy (f : Filled) (u : ℕ → Bool) (Y' : ℕ → ℕ → ℕ) (n m d a e j : ℕ) (g : Filled) : Type 0 where
  pub fine : g.refusal ≡ 0
  pub full : Full g.ring u Y' n m d a e
  pub counted : g.writes ≡ f.writes + j * used_below u m
  pub header : (l p : ℕ) → p + l ≤ 32 → get l g.ring.slab p ≡ get l f.ring.slab p
