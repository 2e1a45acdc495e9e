-- `lookup::Image::first_row` meets its contract. The loop's invariant: the first row is the first of those from row i on. Assumes nothing.
use native.Mathlib.Omega.{arith}
use mathlib.Core.Path.{◌≡◌, ◌∙◌}
use Rattle.model.specs.Image.{row_count}
use Rattle.lookup.proofs.Laws.{header_in_slice, begins, goes_on, found, ends}
use Rattle.lookup.proofs.Image.first_row.Goals as goal

pub get_u32-count-requires : goal.get_u32-count-requires
get_u32-count-requires c = omega (arith, header_in_slice _ c.args.self.now.good)

pub loop-i-init : goal.loop-i-init
unfolding row_count
loop-i-init c = begins _ _ c.get_u32-count.ensures.0

pub row_u32-s-requires : goal.row_u32-s-requires
row_u32-s-requires c = (omega (arith, c.loop-i.invariant.count-is), omega arith)

pub returns-then-s-schema : goal.returns-then-s-schema
returns-then-s-schema c =
    let i = c.loop-i.invariant in
    (found i c.loop-i-test.true c.row_u32-s.ensures.0 c.if-s-schema.true, omega (arith, i.in_bounds, i.count-is))

pub loop-i-preserved : goal.loop-i-preserved
loop-i-preserved c = goes_on c.loop-i.invariant c.loop-i-test.true c.row_u32-s.ensures.0 c.if-s-schema.false

pub returns : goal.returns
returns c =
    let i = c.loop-i.invariant in
    let e : c.get_u32-count.result ≡ c.loop-i.i = omega (arith, i.in_bounds, c.loop-i-test.false) in
    (e ∙ ends i c.loop-i-test.false, omega (arith, i.count-is))
