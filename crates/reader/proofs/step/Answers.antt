-- `reader::step` meets its contract: a place that can't be read is at its end. Assumes nothing.
use Prim.Native.Nat.{◌≤◌}
use native.Mathlib.Omega.{arith}
use mathlib.Core.Path.{◌≡◌, sym, ◌∙◌}
use mathlib.Core.Bool.{true}
use lib.ListN.{length}
use Rattle.model.specs.Read.{step, stepped, readable}
use Rattle.reader.proofs.Laws.{header_there, held}
use Rattle.reader.proofs.step.Goals as goal

reads : (c : goal.Then-reads) → readable c.args.slab.now c.args.column c.args.place ≡ true
reads c = sym c.is_readable-reads.ensures ∙ c.if-reads.true

long : (c : goal.Then-reads) → 64 ≤ length c.args.slab.now
long c = let a = c.args in header_there a.slab.now a.column a.place (reads c)

pub get_u32-n-requires : goal.get_u32-n-requires
get_u32-n-requires c = omega (arith, long c)

pub get_u32-m-requires : goal.get_u32-m-requires
get_u32-m-requires c = omega (arith, (let a = c.args in header_there a.slab.now a.column a.place (sym c.is_readable-reads.ensures ∙ c.if-reads.true)))

pub step_from-requires : goal.step_from-requires
step_from-requires c =
    let a = c.args in
    let h = held a.slab.now a.column a.place (sym c.is_readable-reads.ensures ∙ c.if-reads.true) c.get_u32-n.ensures.0 c.get_u32-m.ensures.0 in
    record { held = h.0; column_lt_m = (h.1, h.2) }

pub returns-then-reads : goal.returns-then-reads
unfolding step
returns-then-reads c = c.step_from.ensures ∙ rw (sym c.is_readable-reads.ensures ∙ c.if-reads.true)

pub returns : goal.returns
unfolding step stepped
returns c = rw (sym c.is_readable-reads.ensures ∙ c.if-reads.false)
