use Rattle.std.proofs.Common.{ℕ, ◌≡◌, Bool, List, ◌++◌}
use Rattle.flag_bits.specs.Bits.{number}
use Rattle.flag_bits.proofs.number_of.Given as goal

-- the flags left, before those gone round, are all flags; x is the number of those gone round
pub record Round (wrapped left : List Bool) (x : ℕ) : Type 0 where
  pub gone : List Bool
  pub all : left ++ gone ≡ wrapped
  pub is : x ≡ number gone

abbrev pub invariant-loop-flag : goal.invariant-loop-flag
invariant-loop-flag l = Round l.fn.flags.wrapped l.flag-iterator.iter.rest.now l.x
