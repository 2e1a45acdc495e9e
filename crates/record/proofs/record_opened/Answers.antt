-- `record::record_opened` meets its contract: the refusal that `ready_opened` found, or the write to the row that it found, with its flag set where the write
use native.Mathlib.Omega.{arith}
use mathlib.Core.Path.{refl}
use Rattle.lookup.specs.Handle.{row_there}
use Rattle.flag_bits.specs.One.{lent_at}
use Rattle.record.specs.Ready.{ReadyAt, row_ready, refusal_ready, refused, recorded_as_off}
use borrow.Author.Rules.{rules}
use Rattle.record.proofs.record_opened.Goals as goal

pub store-lower-requires : goal.store-lower-requires
store-lower-requires c =
    let ready_at : (let a = c.args in ReadyAt a.image.now a.handle.schema a.handle.column a.value a.stamp c.in-Ok.row) = row_ready c.in-Ok.is c.ready_opened-found.ensures in
    let r = ready_at in
    record { image_value = r.opened; row_bound = row_there (lent_at _ c.args.flags.now) _ _ r.opened r.row_is }

pub with_flag-requires : goal.with_flag-requires
with_flag-requires c =
    let ready_at : (let a = c.args in ReadyAt a.image.now a.handle.schema a.handle.column a.value a.stamp c.in-Ok.row) = row_ready c.in-Ok.is c.ready_opened-found.ensures in
    (omega (arith, ready_at.few_rows), λ _. refl)

pub returns-then-lower : goal.returns-then-lower
returns-then-lower c =
    let ready_at : (let a = c.args in ReadyAt a.image.now a.handle.schema a.handle.column a.value a.stamp c.in-Ok.row) = row_ready c.in-Ok.is c.ready_opened-found.ensures in
    recorded_as_off _ _ _ _ _ _ ready_at c.store-lower.ensures (rw c.if-lower.true c.with_flag.ensures)

pub returns-else-lower : goal.returns-else-lower
returns-else-lower c =
    let ready_at : (let a = c.args in ReadyAt a.image.now a.handle.schema a.handle.column a.value a.stamp c.in-Ok.row) = row_ready c.in-Ok.is c.ready_opened-found.ensures in
    recorded_as_off _ _ _ _ _ _ ready_at c.store-lower.ensures (rw c.if-lower.false)

pub returns-in-Err : goal.returns-in-Err
returns-in-Err c =
    let ready = c.ready_opened-found.ensures in
    rw c.refusal_number.ensures (refused _ _ _ _ _ _ c.in-Err.r (refusal_ready _ _ _ _ _ c.in-Err.is ready))
