-- `batch_entries::any_outside` meets its contract. The loop's invariant: the test of the entries from entry i on is the test of all. Assumes nothing.
use Prim.Native.Nat.{◌+◌, ◌*◌}
use mathlib.Core.Path.{◌≡◌, sym, ap, ◌∙◌}
use mathlib.Core.Bool.{true, false, not}
use mathlib.Core.List.{[]}
use Rattle.model.specs.Bytes.{get}
use Rattle.lookup.specs.Parts.{finest_of}
use Rattle.lookup.specs.Handle.{handle_none, handle_at}
use Rattle.batch_entries.specs.Entries.{fits-is, every-on, every_no, every_end}
use Rattle.batch_entries.proofs.Laws.{begins, goes_on, ends}
use Rattle.batch_entries.proofs.any_outside.Goals as goal

pub loop-i-init : goal.loop-i-init
loop-i-init c = begins _ _

pub returns-in_default : goal.returns-in_default
returns-in_default c =
    let found_is : finest_of c.args.image.now.bytes.now (get 4 c.args.batch.now (16 * c.loop-i.i)) (get 4 c.args.batch.now (16 * c.loop-i.i + 4)) ≡ c.finest_row-found.result =
    rw (← c.entry_at-entry.ensures.handle.0, ← c.entry_at-entry.ensures.handle.1) (sym c.finest_row-found.ensures) in
    let no = handle_none (record { image = c.args.image.now.bytes.now; flags = [] }) _ _ (found_is ∙ c.in_default.is) in
    ap not (ends _ _ c.loop-i.invariant (every_no _ _ _ _ c.loop-i-test.true (fits-is _ _ _ false no)))

pub loop-i-preserved : goal.loop-i-preserved
loop-i-preserved c =
    let found_is : finest_of c.args.image.now.bytes.now (get 4 c.args.batch.now (16 * c.loop-i.i)) (get 4 c.args.batch.now (16 * c.loop-i.i + 4)) ≡ c.finest_row-found.result =
    rw (← c.entry_at-entry.ensures.handle.0, ← c.entry_at-entry.ensures.handle.1) (sym c.finest_row-found.ensures) in
    let yes = (handle_at (record { image = c.args.image.now.bytes.now; flags = [] }) _ _ (found_is ∙ c.in-Some.is)).0 in
    goes_on _ _ c.loop-i.invariant (every-on _ _ _ _ c.loop-i-test.true (fits-is _ _ _ true yes))

pub returns : goal.returns
returns c = ap not (ends _ _ c.loop-i.invariant (every_end _ _ _ _ c.loop-i-test.false))
