-- `record::record` meets its contract: the refusal that `ready` found, or the write to the row that it found. Assumes nothing.
use native.Mathlib.Omega.{arith}
use Rattle.lookup.specs.Parts.{lent_of, with_flag}
use Rattle.lookup.specs.Handle.{row_there}
use Rattle.record.specs.Ready.{ReadyAt, row_ready, refusal_ready, refused, recorded}
use borrow.Author.Rules.{rules}
use Rattle.record.proofs.record.Goals as goal

pub flag-wrapped-requires : goal.flag-wrapped-requires
flag-wrapped-requires c =
    let ready_at : (let a = c.args in ReadyAt a.image.now a.handle.schema a.handle.column a.value a.stamp c.in-Ok.row) = row_ready c.in-Ok.is c.ready-found.ensures in
    omega (arith, ready_at.few_rows)

pub store-after-requires : goal.store-after-requires
store-after-requires c =
    let ready_at : (let a = c.args in ReadyAt a.image.now a.handle.schema a.handle.column a.value a.stamp c.in-Ok.row) = row_ready c.in-Ok.is c.ready-found.ensures in
    let r = ready_at in
    record { image_value = r.opened; row_bound = row_there (lent_of _ c.args.flags) _ _ r.opened r.row_is }

pub with_flag-next-requires : goal.with_flag-next-requires
with_flag-next-requires c =
    let ready_at : (let a = c.args in ReadyAt a.image.now a.handle.schema a.handle.column a.value a.stamp c.in-Ok.row) = row_ready c.in-Ok.is c.ready-found.ensures in
    omega (arith, ready_at.few_rows)

pub returns-in-Ok : goal.returns-in-Ok
unfolding with_flag
returns-in-Ok c =
    let ready_at : (let a = c.args in ReadyAt a.image.now a.handle.schema a.handle.column a.value a.stamp c.in-Ok.row) = row_ready c.in-Ok.is c.ready-found.ensures in
    rw c.with_flag-next.ensures (recorded _ _ _ _ _ _ ready_at c.store-after.ensures c.flag-wrapped.ensures)

pub returns-in-Err : goal.returns-in-Err
returns-in-Err c = refused _ _ _ _ _ _ c.in-Err.r (refusal_ready _ _ _ _ _ c.in-Err.is c.ready-found.ensures)
