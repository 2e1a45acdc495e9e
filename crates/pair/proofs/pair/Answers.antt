-- `pair::pair` meets its contract: 16, then 10, then the pair filled. Assumes nothing.
use Prim.Native.Nat.{suc, ◌+◌}
use native.Mathlib.Omega.{arith}
use mathlib.Core.Path.{◌≡◌, sym, ◌∙◌}
use borrow.Author.Tests.{not-true, not-false}
use Rattle.model.specs.Words.{function_no}
use Rattle.model.specs.Bytes.{part}
use Rattle.model.specs.Image.{row_at, row_place, slab_of}
use Rattle.model.specs.Ring.{slots}
use Rattle.model.specs.Consolidate.{stamps_below}
use Rattle.ring.specs.Parts.{sized}
use Rattle.pair.proofs.Rows.{row_inside, row_low, slab-part, stamps_part}
use Rattle.pair.proofs.Laws.{function_is, no_function, high_stamp, good-pair}
use borrow.Author.Rules.{rules}
use Rattle.pair.proofs.pair.Goals as goal

pub overflow_add-row : goal.overflow_add-row
overflow_add-row c =
    let a = c.args in omega (arith, row_low a.image.now a.row c.requires.adjacent)

pub row_at-next-requires : goal.row_at-next-requires
unfolding row_place
row_at-next-requires c =
    let a = c.args in row_inside a.image.now a.row c.requires.adjacent (a.row + 1) (omega arith)

pub returns-in_default : goal.returns-in_default
returns-in_default c =
    let function : let a = c.args in c.function_of-function.result ≡ function_no (row_at a.image.now (suc a.row)).function =
    let a = c.args in
    function_is a.image.now a.row c.row_at-next.ensures c.function_of-function.ensures in
    let a = c.args in
    (no_function a.image.now a.u a.row function c.in_default.is, omega arith)

pub invariant_of-source : goal.invariant_of-source
unfolding part
invariant_of-source c =
    let d = c.slab_at-d.ensures in record { sized = rw (slab-part d) (sized d.sound) }

pub returns-then-not-good : goal.returns-then-not-good
unfolding part
returns-then-not-good c =
    let below : let a = c.args in let s = slab_of a.image.now (row_at a.image.now a.row) in stamps_below s 0 (slots s) ≡ c.stamps_below-good.result =
    sym (stamps_part c.slab_at-d.ensures) ∙ sym c.stamps_below-good.ensures in
    let function : let a = c.args in c.function_of-function.result ≡ function_no (row_at a.image.now (suc a.row)).function =
    let a = c.args in
    function_is a.image.now a.row c.row_at-next.ensures c.function_of-function.ensures in
    let a = c.args in
    (high_stamp a.image.now a.u a.row c.in-Some.f function c.in-Some.is (below ∙ c.if-not-good.true), omega arith)

pub fill_pair-requires : goal.fill_pair-requires
unfolding part
fill_pair-requires c =
    let below : let a = c.args in let s = slab_of a.image.now (row_at a.image.now a.row) in stamps_below s 0 (slots s) ≡ c.stamps_below-good.result =
    sym (stamps_part c.slab_at-d.ensures) ∙ sym c.stamps_below-good.ensures in
    record { adjacent = c.requires.adjacent; row_value = (below ∙ c.if-not-good.false, c.requires.count_bound) }

pub returns : goal.returns
unfolding part
returns c =
    let below : let a = c.args in let s = slab_of a.image.now (row_at a.image.now a.row) in stamps_below s 0 (slots s) ≡ c.stamps_below-good.result =
    sym (stamps_part c.slab_at-d.ensures) ∙ sym c.stamps_below-good.ensures in
    let function : let a = c.args in c.function_of-function.result ≡ function_no (row_at a.image.now (suc a.row)).function =
    let a = c.args in
    function_is a.image.now a.row c.row_at-next.ensures c.function_of-function.ensures in
    let a = c.args in (
      good-pair a.image.now a.u a.row c.in-Some.f function c.in-Some.is (below ∙ c.if-not-good.false)
          c.fill_pair.ensures.0,
      c.fill_pair.ensures.1,
    )
