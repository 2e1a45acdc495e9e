-- Walks round a ring: in two parts, by the slot that comes next; no slot twice (request 2026-03, "each read once"); what the slots hold for a window, in two
-- parts. Assumes nothing.
use Rattle.std.specs.Prelude.{ℕ, zero, suc, ◌+◌, ◌%◌, ◌≤◌, ◌<◌, ◌≡◌, Bool, true, not, ◌&&◌, List, [], ◌∷◌, ◌++◌, eqb}
use Rattle.std.proofs.Common.{zero-add, mod-eq_of_lt, arith, sym, ap, ◌∙◌}
use Rattle.std.proofs.Math.Path.{refl}
use Rattle.model.specs.declared.Held.{Held}
use Rattle.model.specs.Ring.{stamp, cell, walk}
use Rattle.model.specs.Window.{Job, held, held_in}
use Rattle.laws.specs.Tests.{no_eq}
use Rattle.ring_theory.specs.Numbers.{slots_of, walk_is, mod_ne}

-- ---- in two parts

-- the slot k behind slot i, round a ring of n
unfoldable pub steps : ℕ → ℕ → ℕ → ℕ
steps n i zero = i
steps n i (suc k) = suc (steps n i k) % n

steps_on : (n i k : ℕ) → steps n (suc i % n) k ≡ steps n i (suc k)
unfolding steps
steps_on n i zero = refl
steps_on n i (suc k) = ap (λ (x : ℕ). suc x % n) (steps_on n i k)

pub walk_split : (n i k j : ℕ) → walk n i (k + j) ≡ walk n i k ++ walk n (steps n i k) j
unfolding walk
walk_split n i zero j = ap (walk n i) (zero-add j) ∙ unfold steps in refl
walk_split n i (suc k) j =
    let e : suc k + j ≡ suc (k + j) = omega arith in
    ap (walk n i) e ∙ ap (λ (l : List ℕ). i ∷ l) (walk_split n (suc i % n) k j ∙ ap (λ (x : ℕ). walk n (suc i % n) k ++ walk n x j) (steps_on n i k))

-- one slot more
pub walk_more : (n i k : ℕ) → walk n i (suc k) ≡ walk n i k ++ steps n i k ∷ []
unfolding walk
walk_more n i k = let e : suc k ≡ k + 1 = omega arith in ap (walk n i) e ∙ walk_split n i k 1

-- ---- no slot twice

-- x is not among these
unfoldable pub absent : ℕ → List ℕ → Bool
absent x [] = true
absent x (y ∷ ys) = not (eqb x y) && absent x ys

-- each of these once
unfoldable pub different : List ℕ → Bool
different [] = true
different (x ∷ xs) = absent x xs && different xs

-- a number's slot is none of those of the next n - 1 numbers
absent-slots : (n q p k : ℕ) → q < p → p + k ≤ q + n → absent (q % n) (slots_of n p k) ≡ true
unfolding absent slots_of
absent-slots n q p zero h l = refl
absent-slots n q p (suc k) h l = rw (no_eq (q % n) (p % n) (mod_ne q p n h (omega arith))) (absent-slots n q (suc p) k (omega arith) (omega arith))

different-slots : (n q k : ℕ) → k ≤ n → different (slots_of n q k) ≡ true
unfolding different slots_of
different-slots n q zero h = refl
different-slots n q (suc k) h = rw (absent-slots n q (suc q) k (omega arith) (omega arith)) (different-slots n (suc q) k (omega arith))

-- a walk of at most n slots in a ring of n has each of its slots once
pub walk_once : (n i k : ℕ) → i < n → k ≤ n → different (walk n i k) ≡ true
walk_once n i k h l = ap (λ (x : ℕ). different (walk n x k)) (sym (mod-eq_of_lt h)) ∙ ap different (walk_is n i k) ∙ different-slots n i k l

-- ---- what slots hold, in two parts

pub held-append : (q : Job) (w c : ℕ) (is js : List ℕ) → held_in q w c (is ++ js) ≡ held_in q w c is ++ held_in q w c js
unfolding held_in
held-append q w c [] js = refl
held-append q w c (i ∷ is) js = ap (λ (l : List Held). held q w (stamp q.source.slab i) (cell q.source.slab c i) ∷ l) (held-append q w c is js)
