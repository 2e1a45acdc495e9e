-- `batch_entries::any_infinite` meets its contract. The loop's invariant: the test of the entries from entry i on is the test of all. Assumes nothing.
use mathlib.Core.Path.{sym, ap, ◌∙◌}
use mathlib.Core.Bool.{true, false, not}
use Rattle.model.specs.Ring.{is_infinite}
use Rattle.batch_entries.specs.Entries.{finite-is, every-on, every_no, every_end}
use Rattle.batch_entries.proofs.Laws.{begins, goes_on, ends}
use Rattle.batch_entries.proofs.any_infinite.Goals as goal

pub loop-i-init : goal.loop-i-init
loop-i-init c = begins _ _

pub returns-then-infinite : goal.returns-then-infinite
returns-then-infinite c = ap not (ends _ _ c.loop-i.invariant (every_no _ _ _ _ c.loop-i-test.true (finite-is _ _ true ((ap is_infinite (sym c.entry_at-entry.ensures.value) ∙ sym c.is_infinite-infinite.ensures) ∙ c.if-infinite.true))))

pub loop-i-preserved : goal.loop-i-preserved
loop-i-preserved c = goes_on _ _ c.loop-i.invariant (every-on _ _ _ _ c.loop-i-test.true (finite-is _ _ false ((ap is_infinite (sym c.entry_at-entry.ensures.value) ∙ sym c.is_infinite-infinite.ensures) ∙ c.if-infinite.false)))

pub returns : goal.returns
returns c = ap not (ends _ _ c.loop-i.invariant (every_end _ _ _ _ c.loop-i-test.false))
