-- What `tie::demand` promises: the third demand about what the code leaves and hands out. The function creates a store, carries out the calls before the run, the
-- run and the calls between, queries over all time, and steps the reader to its end, each by its proved core; so the checker holds their contracts together.
-- Assumes nothing.
use Rattle.std.specs.Prelude.{ℕ, zero, suc, ◌/◌, ◌≡◌, refl, true, not, ◌||◌, List, [], ◌∷◌, T, eqb, length, take}
use Rattle.std.proofs.lemmas.Bool.{false≢true}
use Rattle.std.proofs.lemmas.List.Edits.{sets}
use Rattle.std.specs.Float.{binary64}
use Rattle.std.specs.Float.Ieee.{of_bits}
use Rattle.std.specs.Float.Ieee.Bits.{is_true}
use Rattle.model.specs.declared.Flags.{Flags}
use Rattle.model.specs.declared.Point.{Point}
use Rattle.model.specs.Lent.{Lent}
use Rattle.model.specs.Store.{after}
use Rattle.demand.specs.Demand.{Sample, count, is_closed, in_window, sum_of, within, each, Situation, finest, after_run, samples, answers, tier_interval, due}
use Rattle.laws.specs.Tests.{split3}
use Rattle.demand_proved.specs.Stronger.{Supposition, StrongerDemand}
use Rattle.demand_proved.proofs.Theorem.{stronger}
use Rattle.fetch.specs.Fetch.{words}
use Rattle.tie_calls.specs.Encoded.{calls_in}

-- the situation that the function is called in; the calls stand in bytes
abbrev pub situation : List ℕ → List ℕ → Flags → List ℕ → List ℕ → ℕ → ℕ → Situation
situation plan buf flags before between c k = record { plan = plan; buf = buf; flags = flags.wrapped; before = calls_in before; between = calls_in between; column = c; tier = k }

-- l is left, the words lent go from `old` to `out`, and n is answered
pub record Kept (s : Situation) (l : Lent) (old out : List ℕ) (n : ℕ) : Type 0 where
  -- for every situation: image and flags are what the calls leave, the points those of the query, as many as there is room for
  pub left : l ≡ after (after_run s) s.between
  pub points : List Point
  pub handed : points ≡ take (length old / 2) (answers s)
  -- n is how many; they stand at the start of `out`, two words a point: stamp, then value; the words past them are as before
  pub counted : n ≡ length points
  pub stored : out ≡ sets old 0 (words points)
  -- under the supposition: one point for each window that is due, within the bound where it is closed; from the oldest on as many as there is room for
  pub promised : Supposition s → T (each (finest s) s.column (tier_interval s) s.tier (samples s) (take (length old / 2) (due s)) points)

each_take : (d c i k : ℕ) (xs : List Sample) (n : ℕ) (ws : List ℕ) (ps : List Point) → each d c i k xs ws ps ≡ true → each d c i k xs (take n ws) (take n ps) ≡ true
unfolding each
each_take d c i k xs zero ws ps h = refl
each_take d c i k xs (suc n) [] [] h = refl
each_take d c i k xs (suc n) [] (p ∷ ps) h = absurd (false≢true h)
each_take d c i k xs (suc n) (w ∷ ws) [] h = absurd (false≢true h)
each_take d c i k xs (suc n) (w ∷ ws) (p ∷ ps) h =
    let u = split3 (eqb p.stamp w) (not (is_closed d i xs w) || within k (of_bits binary64 p.value) (sum_of (in_window c i w) xs) (count (in_window c i w) xs)) (each d c i k xs ws ps) h in
    rw (u.0, u.1) (each_take d c i k xs n ws ps u.2)

-- what is left, counted and stored, and the theorem
pub kept : (s : Situation) (l : Lent) (old out : List ℕ) (n : ℕ) → l ≡ after (after_run s) s.between
    → (n ≡ length (take (length old / 2) (answers s))) × (out ≡ sets old 0 (words (take (length old / 2) (answers s)))) → Kept s l old out n
unfolding StrongerDemand
kept s l old out n left h = record { left = left; points = take (length old / 2) (answers s); handed = refl; counted = h.0; stored = h.1; promised = promised }
  where
    all-due : Supposition s → each (finest s) s.column (tier_interval s) s.tier (samples s) (due s) (answers s) ≡ true
    all-due h = is_true (each (finest s) s.column (tier_interval s) s.tier (samples s) (due s) (answers s)) (stronger s h)

    promised : Supposition s → T (each (finest s) s.column (tier_interval s) s.tier (samples s) (take (length old / 2) (due s)) (take (length old / 2) (answers s)))
    promised h = rw (each_take (finest s) s.column (tier_interval s) s.tier (samples s) (length old / 2) (due s) (answers s) (all-due h)) tt
