-- `pair_source::function_of` meets its contract, one number a case. Assumes nothing.
use native.Mathlib.Omega.{arith}
use Rattle.model.specs.Words.{function_no}
use Rattle.pair_source.proofs.Laws.{no_function}
use Rattle.pair_source.proofs.function_of.Goals as goal

pub returns-in-1 : goal.returns-in-1
unfolding function_no
returns-in-1 c = rw c.in-1.is

pub returns-in-2 : goal.returns-in-2
unfolding function_no
returns-in-2 c = rw c.in-2.is

pub returns-in-3 : goal.returns-in-3
unfolding function_no
returns-in-3 c = rw c.in-3.is

pub returns-in-4 : goal.returns-in-4
unfolding function_no
returns-in-4 c = rw c.in-4.is

pub returns-in-5 : goal.returns-in-5
unfolding function_no
returns-in-5 c = rw c.in-5.is

pub returns-in-6 : goal.returns-in-6
unfolding function_no
returns-in-6 c = rw c.in-6.is

pub returns-in_default : goal.returns-in_default
returns-in_default c = no_function c.args.number (λ e. omega arith) (λ e. omega arith) (λ e. omega arith) (λ e. omega arith) (λ e. omega arith) (λ e. omega arith)
