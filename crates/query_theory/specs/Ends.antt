-- What is said of a ring's two ends: both exist, or neither does (proofs/Ends.antt). Assumes nothing.
use Prim.Native.Nat.{ℕ}
use Rattle.std.specs.Prelude.{◌≡◌, Option, Some, None}

pub data BothOrNeither (o e : Option ℕ) : Type 0 where
  both : {a b : ℕ} → o ≡ Some a → e ≡ Some b → BothOrNeither o e
  neither : o ≡ None → e ≡ None → BothOrNeither o e
