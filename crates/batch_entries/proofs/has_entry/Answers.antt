-- `batch_entries::has_entry` meets its contract. The loop's invariant: the schema has no entry before entry i. Assumes nothing.
use mathlib.Core.Path.{sym, ap, ◌∙◌}
use borrow.Author.Tests.{eq-eqb, ne_eqb}
use Rattle.ring_write.specs.Entries.{skip_entry, keep-entry, no_entry}
use Rattle.batch_entries.specs.Entries.{is_some}
use Rattle.batch_entries.proofs.Laws.{begins, goes_on, ends}
use Rattle.batch_entries.proofs.has_entry.Goals as goal

pub loop-i-init : goal.loop-i-init
loop-i-init c = begins _ _

pub returns-then-entry-schema : goal.returns-then-entry-schema
unfolding is_some
returns-then-entry-schema c =
    let here = keep-entry _ _ _ _ c.loop-i-test.true (eq-eqb _ _ (sym c.entry_at-entry.ensures.handle.0 ∙ c.if-entry-schema.true)) in
    ap is_some (ends _ _ c.loop-i.invariant here)

pub loop-i-preserved : goal.loop-i-preserved
loop-i-preserved c = goes_on _ _ c.loop-i.invariant (skip_entry _ _ _ _ c.loop-i-test.true (ne_eqb _ _ (λ z. c.if-entry-schema.false (c.entry_at-entry.ensures.handle.0 ∙ z))))

pub returns : goal.returns
unfolding is_some
returns c = ap is_some (ends _ _ c.loop-i.invariant (no_entry _ _ _ _ c.loop-i-test.false))
