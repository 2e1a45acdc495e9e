-- `tie_calls::carry_out` meets its contract. The loop's invariant is `Carrying`: what is left to carry out leads where all of it led. Assumes nothing.
use Prim.Native.Nat.{ℕ}
use native.Mathlib.Omega.{arith}
use mathlib.Core.Path.{◌≡◌, refl}
use mathlib.Core.List.{List}
use lib.ListN.{length}
use Rattle.model.specs.Lent.{Lent}
use Rattle.lookup.specs.Parts.{lent_of}
use Rattle.tie_calls.specs.Encoded.{size_low}
use Rattle.tie_calls.proofs.Laws.{Carrying, starts, ends, ends-short, goes_on}
use borrow.Author.Rules.{rules}
use Rattle.tie_calls.proofs.carry_out.Invariants.{Inv}
use Rattle.tie_calls.proofs.carry_out.Goals as goal

pub loop-left-init : goal.loop-left-init
loop-left-init c =
    let a = c.args in record { long = refl; carrying = starts (lent_of a.image.now a.flags) a.calls.now }

pub returns-then-calls-at-lt32 : goal.returns-then-calls-at-lt32
returns-then-calls-at-lt32 c = ends-short c.loop-left.invariant.carrying c.loop-left-test.true (omega (arith, size_low c.args.calls.now c.loop-left.at))

pub returns-then-calls-at : goal.returns-then-calls-at
returns-then-calls-at c = ends-short c.loop-left.invariant.carrying c.loop-left-test.true (omega (arith, c.size_at-size.ensures))

pub loop-left-preserved : goal.loop-left-preserved
loop-left-preserved c =
    let on = goes_on c.loop-left.invariant.carrying c.loop-left-test.true (omega (arith, c.size_at-size.ensures)) c.carry_one-next.ensures in
    record { long = search rules; carrying = rw c.size_at-size.ensures on }

pub returns : goal.returns
returns c = ends c.loop-left.invariant.carrying c.loop-left-test.false
