-- `layout::slab_length` meets its contract: n (m + 1) words pass 2^37 exactly when n passes 2^37 / (m + 1), and then 2^40 bytes are passed. Assumes nothing.
use Prim.Native.Nat.{◌+◌, ◌*◌, ◌≤◌}
use native.Mathlib.Omega.{arith}
use Rattle.model.specs.Layout.{stamps_at, stamps_behind, directory}
use Rattle.layout.proofs.Laws.{lists, over, within}
use Rattle.layout.proofs.slab_length.Goals as goal

pub returns-then-n-lists : goal.returns-then-n-lists
returns-then-n-lists c =
    let a = c.args in omega (arith, lists a.n a.m, over a.n (a.m + 1) (omega arith) c.if-n-lists.true)

pub stamps_at-requires : goal.stamps_at-requires
unfolding stamps_at stamps_behind directory
stamps_at-requires c = omega arith

pub overflow_add-l : goal.overflow_add-l
unfolding stamps_at stamps_behind directory
overflow_add-l c = omega (arith, (let it : let a = c.args in a.n * (a.m + 1) ≤ 137438953472 = let a = c.args in within a.n (a.m + 1) (omega arith) c.if-n-lists.false in it))

pub returns-then-l-gt-LIMIT : goal.returns-then-l-gt-LIMIT
unfolding stamps_at stamps_behind directory
returns-then-l-gt-LIMIT c =
    let a = c.args in omega (arith, lists a.n a.m)

pub returns : goal.returns
unfolding stamps_at stamps_behind directory
returns c =
    let a = c.args in omega (arith, lists a.n a.m)
