-- `batch::store_schema` meets its contract: the slab of the schema's first row is lent on, and what comes back is put in its place. Assumes nothing.
use native.Mathlib.Nat.{add-zero}
use mathlib.Core.Path.{◌∙◌}
use Rattle.model.specs.Lent.{row_no}
use Rattle.model.specs.Record.{entries, entries_of, write_to}
use Rattle.lookup.specs.Handle.{first_there}
use Rattle.flag_bits.specs.Bits.{bits}
use Rattle.lookup.proofs.Laws.{part_sound}
use Rattle.record.proofs.Laws.{lent-write}
use Rattle.batch.proofs.Laws.{columns-at}
use borrow.Author.Rules.{rules}
use Rattle.batch.proofs.store_schema.Goals as goal

pub slab_at-slab-requires : goal.slab_at-slab-requires
slab_at-slab-requires c = rw c.first_row-row.ensures.0 (first_there _ c.requires.image_value _ c.requires.schema_bound.0)

pub write_batch-after-requires : goal.write_batch-after-requires
write_batch-after-requires c =
    let slab = c.slab_at-slab.ensures in
    let pre = c.requires in
    record { sound = part_sound slab; interval_nonzero = (slab.some_interval, columns-at _ _ _ pre.image_value pre.schema_bound.0 pre.schema_bound.1 c.first_row-row.ensures.0 slab.series-is) }

pub with_flag-requires : goal.with_flag-requires
with_flag-requires c =
    let slab = c.slab_at-slab.ensures in
    let w = lent-write slab (entries_of c.args.schema (entries c.args.batch.now)) _ (search rules) c.write_batch-after.ensures.0 in
    (slab.few_rows, λ e. w.stays (c.flag_at-wrapped.ensures ∙ e))

pub returns : goal.returns
unfolding write_to row_no
returns c =
    let slab = c.slab_at-slab.ensures in
    let w = lent-write slab (entries_of c.args.schema (entries c.args.batch.now)) _ (search rules) c.write_batch-after.ensures.0 in
    rw (c.with_flag.ensures, add-zero, ← c.first_row-row.ensures.0) (w.lent_is (bits 32 c.args.flags) c.flag_at-wrapped.ensures)
