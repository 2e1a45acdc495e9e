-- `rows::is_shaped` meets its contract: a short slice, a bad header, then the rows. Assumes nothing.
use mathlib.Core.Path.{◌≡◌, sym, ◌∙◌}
use mathlib.Core.Bool.{true}
use native.Mathlib.Omega.{arith}
use Rattle.rows.proofs.Laws as laws
use Rattle.rows.proofs.is_shaped.Goals.{Else-not-head}
use Rattle.rows.proofs.is_shaped.Goals as goal

head-good : (c : Else-not-head) → laws.header_of c.args.s.now ≡ true
head-good c = sym (cc) ∙ c.if-not-head.false

pub returns-then-s-lt-HEADER : goal.returns-then-s-lt-HEADER
returns-then-s-lt-HEADER c = sym (laws.shape-short c.args.s.now (omega arith))

pub returns-then-not-head : goal.returns-then-not-head
returns-then-not-head c = sym (laws.shape-head c.args.s.now (sym (cc) ∙ c.if-not-head.true))

pub invariant_of-table : goal.invariant_of-table
invariant_of-table c = omega (arith, laws.header-fits c.args.s.now (head-good c))

pub returns : goal.returns
returns c =
    let e = laws.shape-rows c.args.s.now (omega arith) (sym (cc) ∙ c.if-not-head.false) in cc
