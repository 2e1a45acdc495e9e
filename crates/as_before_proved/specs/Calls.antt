-- The cap of a ring: the highest of the stamps recorded. Assumes nothing.
use Prim.Native.Nat.{ℕ, max}
use mathlib.Core.List.{List, [], ◌∷◌}

-- the highest of c and these
abbrev pub highest : ℕ → List ℕ → ℕ
highest c [] = c
highest c (t ∷ ts) = highest (max c t) ts
