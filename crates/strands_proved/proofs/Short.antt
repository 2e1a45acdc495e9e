-- `RunsReadShort`, proved. Assumes nothing.
use Rattle.std.specs.Prelude.{ℕ, suc, ◌+◌, ◌-◌, ◌*◌, ◌≤◌, ◌<◌, ◌≡◌, Some}
use Rattle.std.proofs.Common.{one-mul, arith}
use Rattle.std.proofs.Math.Path.{refl}
use Rattle.model.specs.declared.ConsolidationFn.{ConsolidationFn}
use Rattle.model.specs.Image.{row_count}
use Rattle.model.specs.Ring.{Ring, newest, oldest}
use Rattle.model.specs.Lent.{Lent, row, ring}
use Rattle.model.specs.Consolidate.{end_after, job_of}
use Rattle.reopening.specs.Reopening.{left}
use Rattle.strand_theory.specs.Cuts.{Cuts, none, more}
use Rattle.laws.specs.Windows.{window_span}
use Rattle.pair_theory.specs.Pair.{start_first, start_marked}
use Rattle.strand_theory.proofs.Short.{short_cuts_from, short_cuts_any}
use Rattle.strands_proved.specs.Theorem.{midway, AllHome, home_left, home_midway, midway-row, cursor_in, long_cut, behind_zero}
use Rattle.strands_proved.specs.Short.{span, Within, Short, RunsReadShort}

end_at : (r : Ring) (u : ℕ) → newest r ≡ Some u → end_after (newest r) ≡ suc u
unfolding end_after
end_at r u e = rw e refl

module _ (l : Lent) (a : AllHome l) (i : ℕ) (hi : i < row_count l.image) (f : ConsolidationFn) where
  any : {k b : ℕ} → Cuts (job_of l i f) k b → (m : ℕ) → Within l i m → k ≤ suc (2 * (m - 1))
  unfolding job_of
  any cs m w = short_cuts_any (job_of l i f) (cursor_in l a i hi) (a.rings i hi) refl m w cs

  later : {k b : ℕ} → Cuts (job_of l i f) k b → 0 < (job_of l i f).start → (m : ℕ) → Within l i m → k ≤ 2 * (m - 1)
  unfolding job_of
  later cs pos m w = short_cuts_from (job_of l i f) (cursor_in l a i hi) (a.rings i hi) refl m w pos cs

  marked : {k b : ℕ} → Cuts (job_of l i f) k b → (0 < (row l i).mark → (row l (suc i)).interval ≤ (row l i).mark) → (m : ℕ) → Within l i m → k ≤ 2 * (m - 1)
  marked none late m w = omega arith
  marked (more cs c) late m w = later (more cs c) (behind_zero l i f c late) m w

  first : {k b : ℕ} → Cuts (job_of l i f) k b → (row l i).mark ≡ 0 → (t u : ℕ) → oldest (ring l i) ≡ Some t → newest (ring l i) ≡ Some u → u < t + span l i → k ≡ 0
  first cs e t u old new near =
      let s = start_first (row l i).mark (row l (suc i)).interval t (ring l i) e old in
      omega (arith, marked cs (λ h. absurd (omega (arith, h, e))) 1 (omega (arith, end_at (ring l i) u new, s, near, one-mul (span l i))))

  next : {k b : ℕ} → Cuts (job_of l i f) k b → (row l (suc i)).interval ≤ (row l i).mark → (u : ℕ) → newest (ring l i) ≡ Some u
      → u + (row l (suc i)).interval ≤ (row l i).mark + span l i → k ≡ 0
  next none late u new near = refl
  next (more cs c) late u new near =
      let long = long_cut l i f c in
      let s = start_marked (row l i).mark (row l (suc i)).interval (ring l i) (omega (arith, long, late)) in
      let e = window_span (row l (suc i)).interval long (row l i).mark in
      omega (arith, marked (more cs c) (λ h. late) 1 (omega (arith, end_at (ring l i) u new, s, e, near, one-mul (span l i))))

  short : {k b : ℕ} → Cuts (job_of l i f) k b → Short l i k
  short cs = record { at_most = any cs; at_most_marked = marked cs; once_unmarked = first cs; once_marked = next cs }

pub proof : RunsReadShort
unfolding RunsReadShort
proof h ok e i hi f k b cs = let a = home_left h ok e in short (midway (left h) i).lent (home_midway (left h) a i hi) i (midway-row (left h) a i hi) f cs
