-- `slab::fresh_slab` meets its contract: header, directory, stamps and cells one behind the other are the slab. Assumes nothing.
use Prim.Native.Nat.{◌+◌, ◌*◌}
use mathlib.Core.Path.{◌≡◌, ◌∙◌}
use native.Mathlib.Omega.{arith}
use Rattle.model.specs.Layout.{stamps_at, stamps_behind, directory}
use Rattle.layout.specs.Ends.{long}
use Rattle.slab_bytes.specs.Fresh.{slab-made}
use Rattle.slab_bytes.proofs.fresh_slab.Goals as goal

stamps_is : (c : goal.After-stamps_at-stamps) → c.stamps_at-stamps.result ≡ 64 + 4 * c.args.m
unfolding stamps_at stamps_behind directory
stamps_is c = c.stamps_at-stamps.ensures

pub stamps_at-stamps-requires : goal.stamps_at-stamps-requires
unfolding stamps_at stamps_behind directory
stamps_at-stamps-requires c = omega (arith, (c.requires ∙ long c.args.n c.args.m))

pub overflow_mul-cells : goal.overflow_mul-cells
overflow_mul-cells c = omega (arith, (c.requires ∙ long c.args.n c.args.m))

pub overflow_add-cells : goal.overflow_add-cells
overflow_add-cells c = omega (arith, (c.requires ∙ long c.args.n c.args.m), stamps_is c)

pub overflow_mul-count : goal.overflow_mul-count
overflow_mul-count c = omega (arith, (c.requires ∙ long c.args.n c.args.m))

pub fresh_head-requires : goal.fresh_head-requires
fresh_head-requires c = omega (arith, (c.requires ∙ long c.args.n c.args.m))

pub fill-requires : goal.fill-requires
unfolding directory stamps_at stamps_behind
fill-requires c = omega (arith, (c.requires ∙ long c.args.n c.args.m), c.stamps_at-stamps.ensures)

pub fill-requires-2 : goal.fill-requires-2
unfolding directory stamps_at stamps_behind
fill-requires-2 c = omega (arith, (c.requires ∙ long c.args.n c.args.m), c.stamps_at-stamps.ensures)

pub fill_cells-requires : goal.fill_cells-requires
unfolding directory stamps_at stamps_behind
fill_cells-requires c = omega (arith, (c.requires ∙ long c.args.n c.args.m), c.stamps_at-stamps.ensures)

pub returns : goal.returns
returns c =
    let a = c.args in
    slab-made a.hash a.n a.m a.interval a.slab.now c.requires c.stamps_at-stamps.ensures c.fresh_head.ensures
    c.fill.ensures c.fill-2.ensures c.fill_cells.ensures
