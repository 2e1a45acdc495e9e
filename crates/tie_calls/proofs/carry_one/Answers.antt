-- `tie_calls::carry_one` meets its contract, one law a kind. Assumes nothing.
use Prim.Native.Nat.{◌+◌, ◌≤◌}
use native.Mathlib.Omega.{arith}
use mathlib.Core.Logic.{inl, inr}
use lib.ListN.{length}
use Rattle.lookup.specs.Parts.{lent_of}
use Rattle.tie_calls.specs.Encoded.{size_low}
use Rattle.tie_calls.proofs.Laws.{size_batch, is_record, is_batch, is-query, is_auto, is_open, is-run}
use borrow.Author.Rules.{rules}
use Rattle.tie_calls.proofs.carry_one.Goals as goal

pub kind_at-requires : goal.kind_at-requires
kind_at-requires c =
    let a = c.args in omega (arith, size_low a.calls.now a.at)

pub carry_record-requires : goal.carry_record-requires
carry_record-requires c =
    let head_in : c.args.at + 32 ≤ length c.args.calls.now = omega (arith, c.requires, size_low c.args.calls.now c.args.at) in
    head_in

pub returns-in-Record : goal.returns-in-Record
returns-in-Record c = is_record (lent_of c.args.image.now c.args.flags) c.args.calls.now c.args.at c.in-Record.ensures c.carry_record.ensures

pub carry_batch-requires : goal.carry_batch-requires
carry_batch-requires c = omega (arith, c.requires, size_batch c.args.calls.now c.args.at c.in-Batch.ensures)

pub returns-in-Batch : goal.returns-in-Batch
returns-in-Batch c = is_batch (lent_of c.args.image.now c.args.flags) c.args.calls.now c.args.at c.in-Batch.ensures c.carry_batch.ensures

pub returns-in-Query : goal.returns-in-Query
returns-in-Query c =
    let l = lent_of c.args.image.now c.args.flags in
    elim c.in-Query.is [
      | inl e ↦ is-query l c.args.calls.now c.args.at (rw e at c.kind_at.ensures)
      | inr e ↦ is_auto l c.args.calls.now c.args.at (rw e at c.kind_at.ensures)
    ]

pub carry_open-requires : goal.carry_open-requires
carry_open-requires c =
    let head_in : c.args.at + 32 ≤ length c.args.calls.now = omega (arith, c.requires, size_low c.args.calls.now c.args.at) in
    head_in

pub returns-in-Open : goal.returns-in-Open
returns-in-Open c = is_open (lent_of c.args.image.now c.args.flags) c.args.calls.now c.args.at c.in-Open.ensures c.carry_open.ensures

pub returns-in-Run : goal.returns-in-Run
returns-in-Run c =
    let k = c.in-Run.ensures in
    is-run (lent_of c.args.image.now c.args.flags) c.args.calls.now c.args.at k.0 k.1 k.2 k.3 k.4 c.carry_run.ensures
