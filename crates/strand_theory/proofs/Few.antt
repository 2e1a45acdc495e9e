-- A source whose stamps stand in their own slots is cut at most twice for each lap that the range has: a cut has a stamp of a later pass read before one of an
-- earlier pass, and is charged to a lap between the two; the passes of every second cut ascend, so no lap is charged more than twice. Where the range ends
-- behind the newest stamp, as in every run, the newest lap is never charged. Assumes nothing.
use Prim.Native.Nat.{ℕ, zero, suc, ◌+◌, ◌-◌, ◌*◌, ◌/◌, ◌%◌, ◌≤◌, ◌<◌}
use Rattle.std.proofs.Common.{arith, sym, inl, inr}
use Rattle.std.proofs.Math.Decide.{dec_lt}
use Rattle.std.specs.Prelude.{◌≡◌, ◌⊎◌, ◌≢◌, cond, List, [], ◌∷◌, ltb, length}
use Rattle.std.proofs.Math.Path.{subst}
use Rattle.model.specs.Ring.{slots, interval, cursor, stamp, slot_of, order, end_of, newest}
use Rattle.model.specs.Window.{Job, window_of}
use Rattle.model.specs.Consolidate.{end_after}
use Rattle.laws.specs.Tests.{yes_lt, no_lt}
use Rattle.strand_theory.specs.Cuts.{In, Before, Cut, Cuts, none, more, Homed, lap_of, Laps}
use Rattle.laws.specs.Windows.{div_mono, window_mono, window_span, window_again, window_step, window_long}
use Rattle.strand_theory.specs.Passes.{pass_of, pass_mono, pass-before, Between}
use Rattle.strand_theory.specs.Passes.{between, before-left, before-right, origin, origin_in, in_ring, ahead, cursor-read}
use Rattle.strand_theory.specs.Few.{FewCuts, FewerCuts, FewRanges}

-- ---- how many of these are below c

counted : ℕ → ℕ → ℕ
counted c x = cond (ltb x c) 1 0

below : ℕ → List ℕ → ℕ
below c [] = 0
below c (x ∷ xs) = counted c x + below c xs

counted_in : (c x : ℕ) → x < c → counted c x ≡ 1
unfolding counted
counted_in c x h = rw (yes_lt x c h)

counted_out : (c x : ℕ) → c ≤ x → counted c x ≡ 0
unfolding counted
counted_out c x h = rw (no_lt x c h)

counted_one : (c x : ℕ) → counted c x ≤ 1
counted_one c x = go (dec_lt x c)
  where
    go : Dec (x < c) → counted c x ≤ 1
    go (yes h) = omega (arith, counted_in c x h)
    go (no h) = omega (arith, counted_out c x (omega arith))

counted_mono : (a c x : ℕ) → a ≤ c → counted a x ≤ counted c x
counted_mono a c x l = go (dec_lt x a)
  where
    go : Dec (x < a) → counted a x ≤ counted c x
    go (yes h) = omega (arith, counted_in a x h, counted_in c x (omega arith))
    go (no h) = omega (arith, counted_out a x (omega arith))

below_all : (c : ℕ) (xs : List ℕ) → below c xs ≤ length xs
unfolding below
below_all c [] = omega arith
below_all c (x ∷ xs) = omega (arith, counted_one c x, below_all c xs)

below_mono : (a c : ℕ) (xs : List ℕ) → a ≤ c → below a xs ≤ below c xs
unfolding below
below_mono a c [] l = omega arith
below_mono a c (x ∷ xs) l = omega (arith, counted_mono a c x l, below_mono a c xs l)

-- where one of them is a itself
below_more : (a c : ℕ) (xs : List ℕ) → In a xs → a < c → below a xs < below c xs
unfolding below
below_more a c [] h l = elim h [ ]
below_more a c (x ∷ xs) (inl e) l =
    omega (arith, e, counted_out a x (omega (arith, e)), counted_in c x (omega (arith, e)), below_mono a c xs (omega arith))
below_more a c (x ∷ xs) (inr h) l = omega (arith, counted_mono a c x (omega arith), below_more a c xs h l)

below_less : (a : ℕ) (xs : List ℕ) → In a xs → below a xs < length xs
unfolding below
below_less a [] h = elim h [ ]
below_less a (x ∷ xs) (inl e) = omega (arith, counted_out a x (omega (arith, e)), below_all a xs)
below_less a (x ∷ xs) (inr h) = omega (arith, counted_one a x, below_less a xs h)

-- ---- cuts ascend, and every second one is charged to a later lap

module _ (q : Job) (ls : List ℕ) (cur : cursor q.source.slab < slots q.source.slab) (home : Homed q.source.slab) where
  abbrev at : ℕ → ℕ
  at i = stamp q.source.slab i

  abbrev pass : ℕ → ℕ
  pass t = pass_of (slots q.source.slab) (origin q.source) (t / interval q.source.slab)

  later-pass : {t u : ℕ} → t ≤ u → pass t ≤ pass u
  later-pass h = pass_mono (slots q.source.slab) (origin q.source) (div_mono (interval q.source.slab) h)

  -- one of these from the pass of u on, before that of t
  pub record Charged (t u : ℕ) : Type 0 where
    pub lap : ℕ
    pub one : In lap ls
    pub from : pass u ≤ lap
    pub under : lap < pass t

  -- two slots of the range whose stamps fall are charged to one of these
  abbrev pub Charges : Type 0
  Charges = (i j : ℕ) → Before i j (order q.source) → at j < at i → 0 < at j → q.start ≤ at j → at i < q.end → Charged (at i) (at j)

  pub apart : (i j : ℕ) → Before i j (order q.source) → at j < at i → 0 < at j
      → Between (slots q.source.slab) (origin q.source) (at i / interval q.source.slab) (at j / interval q.source.slab)
  unfolding slot_of
  apart i j b less pos =
      let s = q.source.slab in
      let ini = before-left i j (order q.source) b in
      let inj = before-right i j (order q.source) b in
      let hi' : at i / interval s % slots s ≡ i = home i (in_ring q.source cur i ini) (λ e. omega (arith, e)) in
      let hj' : at j / interval s % slots s ≡ j = home j (in_ring q.source cur j inj) (λ e. omega (arith, e)) in
      let a = ahead q.source cur i j b in
      between (slots s) (origin q.source) (at i / interval s) (at j / interval s) (omega (arith, cur)) (origin_in q.source cur).1
      (rw (hi', hj') a) (div_mono (interval s) (omega arith))

  -- a cut's stamps fall
  pub falls : (b e : ℕ) (c : Cut q (order q.source) b e) → at c.low < at c.high
  falls b e c = go (dec_lt (at c.low) (at c.high))
    where
      go : Dec (at c.low < at c.high) → at c.low < at c.high
      go (yes h) = h
      go (no h) =
          let l : at c.high ≤ at c.low = omega arith in
          absurd (omega (arith, window_mono q.long l, c.high_is, c.low-under))

  -- ---- the cuts of a range whose passes are at most `cap`

  module _ (charge : Charges) (cap : ℕ) (capped : (t : ℕ) → t < q.end → pass t ≤ cap) where
    -- after k cuts, the last at b: the laps that every second of them is charged to are below the pass `prev`, those of the others below `top`; x of the cuts
    -- are not charged
    record Level (x k b : ℕ) : Type 0 where
      prev : ℕ
      top : ℕ
      count : k ≤ x + (below prev ls + below top ls)
      prev_low : prev ≤ pass b
      top_low : top ≤ pass (window_of q.long b + q.long)
      prev_capped : prev ≤ cap
      top_capped : top ≤ cap
      started : q.start ≤ b
      risen : 0 < k → 0 < b

    level_none : (x : ℕ) → Level x 0 q.start
    level_none x = record {
      prev = 0;
      top = 0;
      count = omega arith;
      prev_low = omega arith;
      top_low = omega arith;
      prev_capped = omega arith;
      top_capped = omega arith;
      started = omega arith;
      risen = λ h. absurd (omega (arith, h));
    }

    level_more : (x k b e : ℕ) → 0 < q.start + x → Level x k b → Cut q (order q.source) b e → Level x (suc k) e
    level_more x k b e free v c = go (dec_lt 0 (at c.low))
      where
        d : ℕ
        d = q.long

        w : ℕ → ℕ
        w t = window_of q.long t

        u : ℕ
        u = at c.high

        t : ℕ
        t = at c.low

        long : 0 < d
        long = window_long d u (rw c.high_is (omega (arith, c.low-under)))

        step : w t + d ≤ e
        step = rw (← c.high_is) (window_step d t u (rw c.high_is c.low-under))

        next : w b + d ≤ e
        next = omega (arith, window_mono d c.low-from, step)

        again : w e ≡ e
        again = rw (← c.high_is) (window_again d long u)

        ends : u < e + d
        ends = rw (← c.high_is) (window_span d long u)

        past : b < e
        past = omega (arith, c.low-from, window_span d long t, step)

        go : Dec (0 < t) → Level x (suc k) e
        go (yes pos) =
            let g = charge c.high c.low c.before (falls b e c) pos (omega (arith, v.started, c.low-from)) c.high_below in
            let p : v.prev ≤ g.lap = omega (arith, v.prev_low, later-pass c.low-from, g.from) in
            record {
              prev = v.top;
              top = pass u;
              count = omega (arith, v.count, below_mono v.prev g.lap ls p, below_more g.lap (pass u) ls g.one g.under);
              prev_low = omega (arith, v.top_low, later-pass next);
              top_low = rw again (later-pass (omega (arith, ends)));
              prev_capped = v.top_capped;
              top_capped = capped u c.high_below;
              started = omega (arith, v.started, past);
              risen = λ h. omega (arith, past);
            }
        go (no pos) = record {
          prev = 0;
          top = 0;
          count = first (dec_lt 0 k);
          prev_low = omega arith;
          top_low = omega arith;
          prev_capped = omega arith;
          top_capped = omega arith;
          started = omega (arith, v.started, past);
          risen = λ h. omega (arith, past);
        }
          where
            -- the low slot has no stamp: it is the first cut, and the range starts at 0
            first : Dec (0 < k) → suc k ≤ x + (below 0 ls + below 0 ls)
            first (yes h) = absurd (omega (arith, v.risen h, c.low-from))
            first (no h) = omega (arith, free, v.started, c.low-from)

    level : (x : ℕ) → 0 < q.start + x → {k b : ℕ} → Cuts q k b → Level x k b
    level x free none = level_none x
    level x free (more {k} {b} {e} cs c) = level_more x k b e free (level x free cs) c

    few : (x : ℕ) → 0 < q.start + x → {k b : ℕ} → Cuts q k b → k ≤ x + 2 * below cap ls
    few x free cs =
        let v = level x free cs in
        omega (arith, v.count, below_mono v.prev cap ls v.prev_capped, below_mono v.top cap ls v.top_capped)

    begun : {k b : ℕ} → Cuts q k b → q.start ≤ b
    begun cs = (level 1 (omega arith) cs).started

  abbrev last : ℕ
  last = pass q.end

  to_end : (t : ℕ) → t < q.end → pass t ≤ last
  to_end t h = later-pass (omega arith)

  pub few_charged : Charges → (x : ℕ) → 0 < q.start + x → {k b : ℕ} → Cuts q k b → k ≤ x + 2 * length ls
  few_charged charge x free cs = omega (arith, few charge last to_end x free cs, below_all last ls)

  -- ---- the newest stamp

  -- a range that is not empty ends behind the stamp t
  ends-behind : (t e : ℕ) → e ≡ end_after (end_of t) → 0 < e → e ≡ suc t
  unfolding end_after end_of
  ends-behind zero e h pos = absurd (omega arith)
  ends-behind (suc t) e h pos = h

  pub last-is : q.end ≡ end_after (newest q.source) → 0 < q.end → q.end ≡ suc (at (cursor q.source.slab))
  unfolding newest
  last-is ended some = ends-behind (at (cursor q.source.slab)) q.end ended some

  abbrev newest_lap : ℕ
  newest_lap = lap_of q.source.slab (at (cursor q.source.slab))

  -- its pass is its lap
  pub newest-pass : at (cursor q.source.slab) ≢ 0 → pass (at (cursor q.source.slab)) ≡ newest_lap
  unfolding lap_of slot_of
  newest-pass some =
      let s = q.source.slab in
      let o = origin_in q.source cur in
      pass-before (slots s) (origin q.source) (omega (arith, cur)) o.1 (at (cursor s) / interval s) (rw (home (cursor s) cur some) o.0)

  -- ---- by the laps of the range

  module _ (laps : Laps q ls) where
    charged : Charges
    unfolding lap_of
    charged i j b less pos lo hi =
        let c = apart i j b less pos in
        let ini = before-left i j (order q.source) b in
        let inj = before-right i j (order q.source) b in
        record { lap = c.lap; one = go c.lap c.lap_is (laps i ini (omega arith) hi) (laps j inj lo (omega arith)); from = c.from; under = c.under }
      where
        go : (c : ℕ) → (c ≡ lap_of q.source.slab (at i)) ⊎ (c ≡ lap_of q.source.slab (at j)) → In (lap_of q.source.slab (at i)) ls → In (lap_of q.source.slab (at j)) ls → In c ls
        go c (inl e) x y = subst (λ (z : ℕ). In z ls) (sym e) x
        go c (inr e) x y = subst (λ (z : ℕ). In z ls) (sym e) y

    -- at most two cuts for each lap, where the range does not start at 0; one more where it does, at a slot without a stamp
    few_claim : FewCuts q ls
    few_claim = record {
      few_cuts_from = λ pos cs. omega (arith, few_charged charged 0 (omega arith) cs);
      few_cuts = λ cs. omega (arith, few_charged charged 1 (omega arith) cs);
    }

    pub few_cuts_from : 0 < q.start → {k b : ℕ} → Cuts q k b → k ≤ 2 * length ls
    few_cuts_from = few_claim.few_cuts_from

    pub few_cuts : {k b : ℕ} → Cuts q k b → k ≤ suc (2 * length ls)
    few_cuts = few_claim.few_cuts

    -- ---- where the range ends behind the newest stamp

    module _ (ended : q.end ≡ end_after (newest q.source)) where
      fewer : (x : ℕ) → 0 < q.start + x → {k b : ℕ} → Cuts q k b → k ≤ x + 2 * (length ls - 1)
      fewer x free none = omega arith
      fewer x free (more {k} {b} {e} cs c) =
          let s = q.source.slab in
          let fall = falls b e c in
          let end_is : q.end ≡ suc (at (cursor s)) = last-is ended (omega (arith, c.high_below)) in
          let lo : q.start ≤ at (cursor s) = omega (arith, begun charged last to_end cs, c.low-from, fall, c.high_below, end_is) in
          let read = cursor-read q.source cur c.high (before-left c.high c.low (order q.source) c.before) in
          let p = newest-pass (λ z. omega (arith, z, fall, c.high_below, end_is)) in
          let capped : (t : ℕ) → t < q.end → pass t ≤ newest_lap = λ t l. rw (← p) (later-pass (omega (arith, l, end_is))) in
          omega (arith, few charged newest_lap capped x free (more cs c), below_less newest_lap ls (laps (cursor s) read lo (omega (arith, end_is))))

      fewer_claim : FewerCuts q ls
      fewer_claim = record {
        fewer_cuts_from = λ pos cs. omega (arith, fewer 0 (omega arith) cs);
        fewer_cuts = λ cs. omega (arith, fewer 1 (omega arith) cs);
      }

      pub fewer_cuts_from : 0 < q.start → {k b : ℕ} → Cuts q k b → k ≤ 2 * (length ls - 1)
      fewer_cuts_from = fewer_claim.fewer_cuts_from

      pub fewer_cuts : {k b : ℕ} → Cuts q k b → k ≤ suc (2 * (length ls - 1))
      fewer_cuts = fewer_claim.fewer_cuts

-- ---- the claim

pub few_ranges : FewRanges
unfolding FewRanges
few_ranges q ls cur home laps = (few_claim q ls cur home laps, λ ended. fewer_claim q ls cur home laps ended)
