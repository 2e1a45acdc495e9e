use Prim.Native.Nat.{ℕ}
use native.Mathlib.Omega.{arith}
use mathlib.Core.Path.{◌≡◌, refl}
use mathlib.Core.List.{List}
use lib.ListN.{length}
use Rattle.model.specs.Lent.{Lent}
use Rattle.lookup.specs.Parts.{lent_of}
use Rattle.tie_calls.specs.Encoded.{size_low}
use Rattle.tie_calls.proofs.Laws.{Carrying, starts, ends, ends-short, goes_on}
use borrow.Author.Rules.{rules}
use Rattle.tie_calls.proofs.carry_out.Given as goal

pub record Inv (s t b : List ℕ) (l₀ l : Lent) (at left : ℕ) : Type 0 where
  pub long : length t ≡ length s
  pub carrying : Carrying l₀ b l at left

abbrev pub invariant-loop-left : goal.invariant-loop-left
invariant-loop-left l = Inv l.initial.image l.image l.calls (lent_of l.initial.image l.initial.next) (lent_of l.image l.next) l.at l.left

abbrev pub decreases-loop-left : goal.decreases-loop-left
decreases-loop-left l = l.left
