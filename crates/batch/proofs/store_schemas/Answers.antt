-- `batch::store_schemas` meets its contract. The loop's invariant is `Running`: what is left to write leads where all of it led. Assumes nothing.
use native.Mathlib.Omega.{arith}
use mathlib.Core.Path.{refl, sym, ◌∙◌}
use Rattle.model.specs.Image.{schemas}
use Rattle.lookup.proofs.Laws.{header_in_slice}
use Rattle.batch.proofs.Laws.{starts, schema_in, goes_on, passes, ends}
use borrow.Author.Rules.{rules}
use Rattle.batch.proofs.store_schemas.Goals as goal
use Rattle.batch.proofs.store_schemas.Goals.{then-some, else-some}

pub get_u32-count-requires : goal.get_u32-count-requires
get_u32-count-requires c = omega (arith, header_in_slice c.args.image.now c.requires.image_value)

pub loop-k-init : goal.loop-k-init
unfolding schemas
loop-k-init c = record { long = refl; running = starts _ _ _ _ c.requires.image_value c.get_u32-count.ensures.0 c.requires.batch_value }

pub store_schema-next-requires : goal.store_schema-next-requires
store_schema-next-requires c =
    let r = c.loop-k.invariant.running in
    record { image_value = r.opened; schema_bound = (schema_in r c.loop-k-test.true, r.fit) }

pub loop-k-preserved : goal.loop-k-preserved
loop-k-preserved c =
    let i = c.loop-k.invariant in
    elim c.if-some.branch [
      | then-some w ↦ record { long = search rules; running = rw (w.image-is, w.next-is) (goes_on i.running c.loop-k-test.true (sym c.has_entry-some.ensures ∙ w.if-some.true) w.store_schema-next.ensures) }
      | else-some w ↦ record { long = search rules; running = rw (w.image-is, w.next-is) (passes i.running c.loop-k-test.true (sym c.has_entry-some.ensures ∙ w.if-some.false)) }
    ]

pub returns : goal.returns
unfolding schemas
returns c = ends c.loop-k.invariant.running c.loop-k-test.false ∙ rw c.get_u32-count.ensures.0
