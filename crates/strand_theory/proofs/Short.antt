-- A range up to the newest stamp that is at most m rings long, m times interval × slots, is cut at most 2 (m - 1) times, since what is read of it lies in m passes:
-- not at all where it is no longer than the ring, twice where it is no longer than two. Assumes nothing.
use Rattle.std.specs.Prelude.{ℕ, zero, suc, ◌+◌, ◌-◌, ◌*◌, ◌/◌, ◌%◌, ◌≤◌, ◌<◌, ◌≡◌, refl, ◌⊎◌, ◌≢◌, List, [], ◌∷◌, length}
use Rattle.std.proofs.Common.{arith, sym, ◌∙◌, inl, inr}
use Rattle.std.proofs.Math.Decide.{ℕ_discrete}
use Rattle.std.proofs.Math.Path.{ap}
use Rattle.model.specs.Ring.{slots, interval, cursor, stamp, slot_of, order, newest}
use Rattle.model.specs.Window.{Job}
use Rattle.model.specs.Consolidate.{end_after}
use Rattle.strand_theory.specs.Cuts.{In, Cuts, Homed, lap_of}
use Rattle.laws.specs.Windows.{div_mono}
use Rattle.strand_theory.specs.Passes.{pass_of, pass_mono, near_pass, near_number, before-right, origin, origin_in, in_ring, read_at}
use Rattle.strand_theory.proofs.Few.{Charges, apart, few_charged, last-is, newest-pass}
use Rattle.strand_theory.specs.Short.{ShortRanges}

-- k passes, from b on
rising : ℕ → ℕ → List ℕ
rising b zero = []
rising b (suc k) = b ∷ rising (suc b) k

rising-length : (b k : ℕ) → length (rising b k) ≡ k
unfolding rising
rising-length b zero = refl
rising-length b (suc k) = ap suc (rising-length (suc b) k)

rising_in : (b k x : ℕ) → b ≤ x → x < b + k → In x (rising b k)
unfolding rising
rising_in b zero x lo hi = absurd (omega arith)
rising_in b (suc k) x lo hi = go (ℕ_discrete x b) (rising_in (suc b) k x)
  where
    go : Dec (x ≡ b) → (suc b ≤ x → x < suc b + k → In x (rising (suc b) k)) → (x ≡ b) ⊎ In x (rising (suc b) k)
    go (yes e) later = inl e
    go (no e) later = inr (later (omega arith) (omega arith))

module _ (q : Job) (cur : cursor q.source.slab < slots q.source.slab) (home : Homed q.source.slab) (ended : q.end ≡ end_after (newest q.source))
    (m : ℕ) (short : q.end ≤ q.start + m * (interval q.source.slab * slots q.source.slab)) where
  abbrev at : ℕ → ℕ
  at i = stamp q.source.slab i

  abbrev here : ℕ
  here = cursor q.source.slab

  -- all but the newest's
  abbrev passes : List ℕ
  passes = rising (suc (lap_of q.source.slab (at here)) - m) (m - 1)

  -- a stamp of the range below the newest has a pass less than m before the newest's
  close : (j : ℕ) → In j (order q.source) → 0 < at j → q.start ≤ at j → at j < at here → q.end ≡ suc (at here)
      → lap_of q.source.slab (at here) < pass_of (slots q.source.slab) (origin q.source) (at j / interval q.source.slab) + m
  unfolding slot_of lap_of
  close j inj pos lo less end_is =
      let s = q.source.slab in
      let n = slots s in
      let d = interval s in
      let o = origin_in q.source cur in
      let v = read_at q.source cur j inj in
      let hj : at j / d % n ≡ j = home j (in_ring q.source cur j inj) (λ e. omega (arith, e)) in
      let hc : at here / d % n ≡ here = home here cur (λ e. omega (arith, e)) in
      let other : at j / d % n ≢ at here / d % n = λ e. omega (arith, less, ap (λ (x : ℕ). at x) (sym hj ∙ e ∙ hc)) in
      let near = near_number d n m (at j) (at here) (omega (arith, short, lo, end_is)) less other in
      near_pass n (origin q.source) here m (at j / d) (at here / d) v.0 o.0 o.1 (hj ∙ v.3) v.1 v.2 hc near

  charged : Charges q passes cur home
  charged i j b less pos lo hi =
      let s = q.source.slab in
      let n = slots s in
      let g = origin q.source in
      let end_is = last-is q passes cur home ended (omega (arith, hi)) in
      let between = apart q passes cur home i j b less pos in
      let back = close j (before-right i j (order q.source) b) pos lo (omega (arith, less, hi, end_is)) end_is in
      let p = newest-pass q passes cur home (λ e. omega (arith, e, less, hi, end_is)) in
      let le : at i ≤ at here = omega (arith, hi, end_is) in
      let top = pass_mono n g (div_mono (interval s) le) in
      let x = pass_of n g (at j / interval s) in
      let l = lap_of s (at here) in
      record {
        lap = x;
        one = rising_in (suc l - m) (m - 1) x (omega (arith, back)) (omega (arith, back, between.from, between.under, top, p));
        from = omega arith;
        under = omega (arith, between.from, between.under);
      }

  short_cuts : (x : ℕ) → 0 < q.start + x → {k b : ℕ} → Cuts q k b → k ≤ x + 2 * (m - 1)
  short_cuts x free cs = omega (arith, few_charged q passes cur home charged x free cs, rising-length (suc (lap_of q.source.slab (at here)) - m) (m - 1))

-- ---- the claim, and the laws that rest on it

pub short_ranges : ShortRanges
unfolding ShortRanges
short_ranges q cur home ended m short = record {
  short_cuts_from = λ pos cs. omega (arith, short_cuts q cur home ended m short 0 (omega arith) cs);
  short_cuts_any = λ cs. omega (arith, short_cuts q cur home ended m short 1 (omega arith) cs);
}

module _ (q : Job) (cur : cursor q.source.slab < slots q.source.slab) (home : Homed q.source.slab) (ended : q.end ≡ end_after (newest q.source))
    (m : ℕ) (short : q.end ≤ q.start + m * (interval q.source.slab * slots q.source.slab)) where
  pub short_cuts_from : 0 < q.start → {k b : ℕ} → Cuts q k b → k ≤ 2 * (m - 1)
  unfolding ShortRanges
  short_cuts_from = (short_ranges q cur home ended m short).short_cuts_from

  -- one more from 0 on, at a slot without a stamp
  pub short_cuts_any : {k b : ℕ} → Cuts q k b → k ≤ suc (2 * (m - 1))
  unfolding ShortRanges
  short_cuts_any = (short_ranges q cur home ended m short).short_cuts_any
