-- Request 2026-03: a window gathered in one pass. `entered` is one slot more, `pass` each slot of a list once, in order; `SoFar` is the request's sentence about
-- the slots read so far, and the invariant of `gather_values`. What document 01's two passes find is `gather` (Parts), as before. Assumes nothing.
use Prim.Native.Nat.{ℕ, suc, ◌+◌, ◌%◌, ◌<◌}
use Rattle.std.proofs.Common.{zero-add, arith, sym, ◌∙◌}
use Rattle.std.specs.Prelude.{◌≡◌, true, length}
use Rattle.std.proofs.Math.Path.{refl, ap}
use mathlib.Core.List.{List, [], ◌∷◌, ◌++◌}
use Rattle.model.specs.declared.ConsolidationFn.{ConsolidationFn}
use Rattle.model.specs.declared.Held.{Held}
use Rattle.model.specs.declared.Held.TheVariants.{Outside, Infinite, Finite}
use Rattle.model.specs.Ring.{stamp, cell, walk}
use Rattle.model.specs.Window.{held, held_in, seen_one, seen, keep_finite, finites, fold, fold_start, fold_step}
use Rattle.ring_theory.specs.Walk.{steps, walk_more, different, walk_once, held-append}
use Rattle.window.specs.declared.Reading.{Reading}
use Rattle.window.specs.declared.Gathered.{Gathered}
use Rattle.window.specs.Parts.{job_in, gather}

-- ---- one pass

-- before the first slot
unfoldable pub begun : ConsolidationFn → Gathered
begun f = record { seen = 0; finite = 0; value = fold_start f }

-- one slot more: an infinite value is seen and does not enter
unfoldable pub entered : ConsolidationFn → Gathered → Held → Gathered
entered f g Outside = g
entered f g Infinite = record { seen = g.seen + 1; finite = g.finite; value = g.value }
entered f g (Finite x) = record { seen = g.seen + 1; finite = g.finite + 1; value = fold_step f g.value x }

-- each slot enters once, in order
unfoldable pub pass : ConsolidationFn → Gathered → List Held → Gathered
pass f g [] = g
pass f g (h ∷ hs) = pass f (entered f g h) hs

-- ---- one pass finds what two find: the count, and the fold of the finite values

onward : (f : ConsolidationFn) (g : Gathered) (hs : List Held)
    → pass f g hs ≡ record { seen = g.seen + seen hs; finite = g.finite + length (finites hs); value = fold f g.value (finites hs) }
unfolding pass entered seen seen_one finites keep_finite fold
onward f g [] = let a : g.seen ≡ g.seen + 0 = omega arith in let b : g.finite ≡ g.finite + 0 = omega arith in rw (← a, ← b)
onward f g (Outside ∷ hs) = onward f g hs ∙ rw zero-add
onward f g (Infinite ∷ hs) = let a : g.seen + 1 + seen hs ≡ g.seen + (1 + seen hs) = omega arith in onward f (entered f g Infinite) hs ∙ rw a
onward f g (Finite x ∷ hs) =
    let a : g.seen + 1 + seen hs ≡ g.seen + (1 + seen hs) = omega arith in
    let b : g.finite + 1 + length (finites hs) ≡ g.finite + suc (length (finites hs)) = omega arith in
    onward f (entered f g (Finite x)) hs ∙ rw (a, b)

pub one-pass : (f : ConsolidationFn) (hs : List Held) → pass f (begun f) hs ≡ gather f hs
unfolding begun gather
one-pass f hs = onward f (begun f) hs ∙ rw (zero-add (seen hs), zero-add (length (finites hs)))

-- a slot more is one step more, of that slot alone
pass_more : (f : ConsolidationFn) (g : Gathered) (hs : List Held) (h : Held) → pass f g (hs ++ h ∷ []) ≡ entered f (pass f g hs) h
unfolding pass
pass_more f g [] h = refl
pass_more f g (k ∷ hs) h = pass_more f (entered f g k) hs h

pub gather_more : (f : ConsolidationFn) (hs : List Held) (h : Held) → entered f (gather f hs) h ≡ gather f (hs ++ h ∷ [])
gather_more f hs h = ap (λ (g : Gathered). entered f g h) (sym (one-pass f hs)) ∙ sym (pass_more f (begun f) hs h) ∙ one-pass f (hs ++ h ∷ [])

-- ---- after any number of slots

-- of the slots from `first` on, k are read, `next` is the one behind them, and g is held: each was read once, and g is the count and the fold of exactly the
-- window's finite values among them
pub record SoFar (s : List ℕ) (q : Reading) (window column first k next : ℕ) (g : Gathered) : Type 0 where
  pub next-is : next ≡ steps q.slots first k
  pub once : different (walk q.slots first k) ≡ true
  pub holds : g ≡ gather q.function (held_in (job_in s q) window column (walk q.slots first k))

module _ (s : List ℕ) (q : Reading) (w c first : ℕ) where
  pub none_yet : {g : Gathered} → g ≡ begun q.function → SoFar s q w c first 0 first g
  unfolding begun gather steps different walk held_in seen finites fold
  none_yet e = record { next-is = refl; once = refl; holds = e }

  -- one slot more, the ring's slots not all read yet
  pub one_more : (k slot : ℕ) {next : ℕ} {g r : Gathered} {h : Held} → first < q.slots → k < q.slots → SoFar s q w c first k slot g
      → h ≡ held (job_in s q) w (stamp s slot) (cell s c slot) → r ≡ entered q.function g h → next ≡ suc slot % q.slots → SoFar s q w c first (suc k) next r
  one_more k slot {next} {g} {r} {h} f l i e o n = record {
    next-is = n ∙ unfold steps in ap (λ (x : ℕ). suc x % q.slots) i.next-is;
    once = walk_once q.slots first (suc k) f l;
    holds = o ∙ rw (i.holds, e, i.next-is) (gather_more q.function (held_in (job_in s q) w c before) here) ∙ ap (gather q.function) (sym longer);
  }
    where
      before : List ℕ
      before = walk q.slots first k

      here : Held
      here = held (job_in s q) w (stamp s (steps q.slots first k)) (cell s c (steps q.slots first k))

      longer : held_in (job_in s q) w c (walk q.slots first (suc k)) ≡ held_in (job_in s q) w c before ++ here ∷ []
      longer = ap (held_in (job_in s q) w c) (walk_more q.slots first k) ∙ held-append (job_in s q) w c before (steps q.slots first k ∷ []) ∙ unfold held_in in refl
