-- `batch_entries::any_old` meets its contract. The loop's invariant: the rings of the schemas below k that have entries take the stamp. Assumes nothing.
use Prim.Native.Nat.{◌<◌}
use native.Mathlib.Omega.{arith}
use mathlib.Core.Path.{sym, ap, ◌∙◌}
use mathlib.Core.Bool.{not}
use Rattle.model.specs.Image.{schemas}
use Rattle.lookup.specs.Handle.{first_there}
use Rattle.lookup.proofs.Laws.{header_in_slice}
use Rattle.batch_entries.proofs.Old.{ring-takes, begins, passes, goes_on, refuses, ends}
use Rattle.batch_entries.proofs.any_old.Goals as goal

pub get_u32-count-requires : goal.get_u32-count-requires
get_u32-count-requires c = omega (arith, header_in_slice c.args.image.now.bytes.now c.args.image.now.good)

pub loop-k-init : goal.loop-k-init
loop-k-init c = begins _ _ _

pub loop-k-preserved-then-not-some : goal.loop-k-preserved-then-not-some
loop-k-preserved-then-not-some c = passes _ _ _ _ (sym c.has_entry-some.ensures ∙ c.if-not-some.true) c.loop-k.invariant

pub is_old-old-requires : goal.is_old-old-requires
unfolding schemas
is_old-old-requires c =
    let pre = c.args.image.now.good in
    rw c.first_row-row.ensures.0 (first_there _ pre _ (let it : c.loop-k.k < schemas c.args.image.now.bytes.now = rw (← c.get_u32-count.ensures.0) c.loop-k-test.true in it))

pub returns-then-old : goal.returns-then-old
returns-then-old c =
    let some = sym c.has_entry-some.ensures ∙ c.if-not-some.false in
    sym (ap not (refuses _ _ _ _ some (ring-takes _ _ _ c.first_row-row.ensures.0 (sym c.is_old-old.ensures ∙ c.if-old.true))))

pub loop-k-preserved : goal.loop-k-preserved
loop-k-preserved c = goes_on _ _ _ _ (ring-takes _ _ _ c.first_row-row.ensures.0 (sym c.is_old-old.ensures ∙ c.if-old.false)) c.loop-k.invariant

pub returns : goal.returns
unfolding schemas
returns c = sym (ap not (ends _ _ _ _ (rw (← c.get_u32-count.ensures.0) c.loop-k-test.false) c.requires c.loop-k.invariant))
