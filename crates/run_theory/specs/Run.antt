-- A run: the pairs in order, finest first. Where the finest tier has its numbers of e ticks and all else those of f, the ticks at the run before, the run is not
-- refused and every tier and mark has those of e then (proofs/Run). Here: one pair further. Assumes nothing.
use Prim.Native.Nat.{ℕ, suc, ◌*◌, ◌≤◌, ◌<◌}
use native.Mathlib.Omega.{arith}
use Rattle.std.proofs.Math.Decide.{ℕ_discrete}
use Rattle.std.specs.Prelude.{◌≡◌, ◌≢◌}
use Rattle.std.proofs.Common.{sym, ◌∙◌}
use Rattle.std.proofs.Math.Path.{subst}
use Rattle.model.specs.Ring.{Ring}
use Rattle.model.specs.Lent.{Lent, row}
use Rattle.model.specs.Consolidate.{pair_if, pairs, run_on, run}
use Rattle.model.specs.Consolidate as C
use Rattle.pair_theory.specs.Fill.{used_below}
use Rattle.sample_theory.specs.Schedule.{touched}
use Rattle.run_theory.specs.Setup.{Setup, tier_count, Holds, Tier, mark_of, Base}
use Rattle.run_theory.specs.OnePair.{Stepped}

-- the tiers up to k and the marks below k have e, the others f
pub record Midway (S : Setup) (l : Lent) (k f e : ℕ) : Type 0 where
  pub base : Base S l
  pub done : (j : ℕ) → j ≤ k → j < tier_count S → Tier S l j e
  pub due : (j : ℕ) → k < j → j < tier_count S → Tier S l j f
  pub done_marks : (j : ℕ) → j < k → suc j < tier_count S → (row l j).mark ≡ mark_of S j e
  pub due_marks : (j : ℕ) → k ≤ j → suc j < tier_count S → (row l j).mark ≡ mark_of S j f

-- every tier and mark has e
pub record Settled (S : Setup) (l : Lent) (e : ℕ) : Type 0 where
  pub base : Base S l
  pub tiers : (j : ℕ) → j < tier_count S → Tier S l j e
  pub marks : (j : ℕ) → suc j < tier_count S → (row l j).mark ≡ mark_of S j e

-- a run that is not refused, and what it leaves
pub record Ran (S : Setup) (v : C.Run) (e : ℕ) : Type 0 where
  pub fine : v.refusal ≡ 0
  pub settled : Settled S v.lent e

module _ {S : Setup} {f x : ℕ} (up : f ≤ suc x) (by : suc x ≤ suc (touched (S.per 0) f) * S.per 0) (end : suc x ≤ S.most) (some : 0 < used_below S.is_used S.columns) where
  -- one pair further
  pub advance : {l l' : Lent} (k : ℕ) → suc k < tier_count S → Midway S l k f (suc x) → Stepped S l l' k (suc x) → Midway S l' (suc k) f (suc x)
  advance {l} {l'} k hk h s = record {
    base = s.base;
    done = λ j z y. here j z y (ℕ_discrete j (suc k));
    due = λ j z y. move j y (omega arith) f (h.due j (omega arith) y);
    done_marks = λ j z y. marked j z y (ℕ_discrete j k);
    due_marks = λ j x y. s.marks j (omega arith) (omega arith) ∙ h.due_marks j (omega arith) y;
  }
    where
      move : (j : ℕ) → j < tier_count S → j ≢ suc k → (n : ℕ) → Tier S l j n → Tier S l' j n
      move j y ne n t = subst (λ (r : Ring). Holds S r j n) (sym (s.elsewhere j y ne)) t

      here : (j : ℕ) → j ≤ suc k → j < tier_count S → Dec (j ≡ suc k) → Tier S l' j (suc x)
      here j z y (yes e) = subst (λ (i : ℕ). Tier S l' i (suc x)) (sym e) s.next
      here j z y (no ne) = move j y ne (suc x) (h.done j (omega arith) y)

      marked : (j : ℕ) → j < suc k → suc j < tier_count S → Dec (j ≡ k) → (row l' j).mark ≡ mark_of S j (suc x)
      marked j z y (yes e) = subst (λ (i : ℕ). (row l' i).mark ≡ mark_of S i (suc x)) (sym e) s.mark
      marked j z y (no ne) = s.marks j (omega arith) ne ∙ h.done_marks j (omega arith) y
