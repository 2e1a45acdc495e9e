-- Where the windows of a pair lie: each at or above the window of the mark, since the reading starts there, at or below that of the newest stamp, and above the
-- one before it. Assumes nothing.
use Prim.Native.Nat.{ℕ, zero, suc, ◌≤◌, ◌<◌}
use Rattle.std.proofs.Common.{arith}
use Rattle.std.specs.Prelude.{◌≡◌, Option, Some, None}
use Rattle.std.proofs.Math.Path.{refl, subst}
use Rattle.model.specs.declared.ConsolidationFn.{ConsolidationFn}
use Rattle.model.specs.Ring.{Ring, slots, newest}
use Rattle.model.specs.Window.{Job, window_of}
use Rattle.model.specs.Lent.{Lent, row, ring}
use Rattle.model.specs.Consolidate.{next_window, windows_from, windows, or_zero, start_of, end_after, job_of}
use Rattle.laws.specs.Windows.{window_mono, window_again}
use Rattle.window_theory.specs.Found.{found}
use Rattle.as_before_proved.specs.Within.{Within, first-from}

-- ---- a job's windows

module _ (q : Job) (z : 0 < q.long) where
  module _ (top : ℕ) (end_is : (w : ℕ) → w < q.end → window_of q.long w ≡ w → w ≤ top) where
    within-from : (k b : ℕ) → Within b top (windows_from q k (next_window q b))
    unfolding windows_from
    within-from zero b = tt
    within-from (suc k) b = go (next_window q b) refl (λ w. within-from k (suc w))
      where
        go : (e : Option ℕ) → next_window q b ≡ e → ((w : ℕ) → Within (suc w) top (windows_from q k (next_window q (suc w)))) → Within b top (windows_from q (suc k) e)
        go None f ih = tt
        go (Some w) f ih = let x = found q z b f in (x.0, end_is w x.1 x.2, ih w)

    within : (b : ℕ) → b ≤ window_of q.long q.start → Within b top (windows q)
    unfolding windows
    within b h = rw (first-from q z b h) (within-from (slots q.source.slab) b)

-- ---- a pair's windows

start_in : (mark long : ℕ) (r : Ring) → 0 < long → window_of long mark ≤ window_of long (start_of mark long r)
unfolding start_of
start_in zero long r z = window_mono long (omega arith)
start_in (suc k) long r z = rw (window_again long z (suc k)) (omega arith)

end_in : (e : Option ℕ) (w : ℕ) → w < end_after e → w ≤ or_zero e
unfolding end_after or_zero
end_in None w h = absurd (omega arith)
end_in (Some t) w h = omega arith

module _ (l : Lent) (i : ℕ) (z : 0 < (row l (suc i)).interval) where
  pub pair-within : (f : ConsolidationFn)
      → Within (window_of (row l (suc i)).interval (row l i).mark) (window_of (row l (suc i)).interval (or_zero (newest (ring l i)))) (windows (job_of l i f))
  unfolding job_of
  pair-within f =
      let d = (row l (suc i)).interval in
      let t = or_zero (newest (ring l i)) in
      within (job_of l i f) z (window_of d t) (λ w h e. subst (λ (x : ℕ). x ≤ window_of d t) e (window_mono d (end_in (newest (ring l i)) w h)))
      (window_of d (row l i).mark) (start_in (row l i).mark d (ring l i) z)
