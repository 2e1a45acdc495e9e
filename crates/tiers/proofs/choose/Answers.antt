-- `tiers::choose` meets its contract: tier 0 where it covers the range, else the choice among those behind it. Assumes nothing.
use Prim.Native.Nat.{◌<◌}
use native.Mathlib.Nat.{add-zero}
use native.Mathlib.Omega.{arith}
use mathlib.Core.Path.{sym, ◌∙◌}
use Rattle.model.specs.Image.{row_count}
use Rattle.lookup.proofs.Laws.{few_rows}
use Rattle.tiers.proofs.Laws.{tier_there, chosen-first, not_first}
use Rattle.tiers.proofs.choose.Goals as goal

pub flag_at-wrapped-requires : goal.flag_at-wrapped-requires
flag_at-wrapped-requires c =
    let there : c.args.first < row_count c.args.image.now.bytes.now =
    rw add-zero at (tier_there c.args.image.now.bytes.now c.args.image.now.good c.args.schema 0 c.requires.0 c.requires.1) in
    let low : c.args.first < 32 = omega (arith, there, few_rows c.args.image.now.bytes.now c.args.image.now.good) in
    low

pub ring_at-finest-requires : goal.ring_at-finest-requires
ring_at-finest-requires c =
    let there : c.args.first < row_count c.args.image.now.bytes.now =
    rw add-zero at (tier_there c.args.image.now.bytes.now c.args.image.now.good c.args.schema 0 c.requires.0 c.requires.1) in
    there

pub returns-then-covers : goal.returns-then-covers
returns-then-covers c =
    let there : c.args.first < row_count c.args.image.now.bytes.now =
    rw add-zero at (tier_there c.args.image.now.bytes.now c.args.image.now.good c.args.schema 0 c.requires.0 c.requires.1) in
    let low : c.args.first < 32 = omega (arith, there, few_rows c.args.image.now.bytes.now c.args.image.now.good) in
    let a = c.args in
    chosen-first a.image.now.bytes.now a.flags a.schema a.first a.start a.end
    c.requires.0 c.requires.1 low c.ring_at-finest.ensures c.flag_at-wrapped.ensures (sym c.is_full-covers.ensures ∙ c.if-covers.true)

pub choose_behind-requires : goal.choose_behind-requires
choose_behind-requires c =
    let there : c.args.first < row_count c.args.image.now.bytes.now =
    rw add-zero at (tier_there c.args.image.now.bytes.now c.args.image.now.good c.args.schema 0 c.requires.0 c.requires.1) in
    let low : c.args.first < 32 = omega (arith, there, few_rows c.args.image.now.bytes.now c.args.image.now.good) in
    let a = c.args in
    not_first a.image.now.bytes.now a.flags a.schema a.first a.start a.end
    c.requires.0 c.requires.1 low c.ring_at-finest.ensures c.flag_at-wrapped.ensures (sym c.is_full-covers.ensures ∙ c.if-covers.false)
