-- What bounds the stamps of a destination after a pair's writes. Assumes nothing.
use Prim.Native.Nat.{ℕ, zero, suc}

-- what bounds the stamps after k writes: b without any, else top
abbrev pub bound : ℕ → ℕ → ℕ → ℕ
bound b top zero = b
bound b top (suc k) = top
