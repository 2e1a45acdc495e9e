-- The first flags stored: all at once, and one by one. Assumes nothing.
use Rattle.std.specs.Prelude.{ℕ, suc, ◌+◌, ◌-◌, ◌≤◌, ◌<◌, ◌≡◌, Bool, false, List, ◌++◌, length, drop, set, replicate}
use Rattle.std.proofs.Common.{zero-add, add-one, arith, ◌∙◌}
use Rattle.std.proofs.lemmas.List.{length-replicate}
use Rattle.std.proofs.lemmas.List.Edits.{sets, sets-eq}

-- flags stored from the first one on
pub front : (l vs : List Bool) (n : ℕ) → length vs ≡ n → n ≤ length l → sets l 0 vs ≡ vs ++ drop n l
front l vs n e h = sets-eq vs l 0 (omega arith) ∙ rw (e, zero-add)

pub clear_on : (l : List Bool) (n i : ℕ) → i < n → sets (set l i false) (i + 1) (replicate (n - (i + 1)) false) ≡ sets l i (replicate (n - i) false)
clear_on l n i h = let e : n - i ≡ suc (n - (i + 1)) = omega arith in rw (e, add-one i)

pub clear_end : (l : List Bool) (n i : ℕ) → n ≤ i → sets l i (replicate (n - i) false) ≡ l
clear_end l n i h = let e : n - i ≡ 0 = omega arith in rw e

pub clear_all : (l : List Bool) (n : ℕ) → n ≤ length l → sets l 0 (replicate n false) ≡ replicate n false ++ drop n l
clear_all l n h = front l (replicate n false) n (length-replicate {A = Bool} n false) h
