-- `tie_calls::carry_batch` meets its contract: the part that is lent on is the call's entries, and `batch::record_batch` does the rest. Assumes nothing.
use Prim.Native.Nat.{ℕ, ◌+◌, ◌-◌, ◌*◌}
use native.Mathlib.Omega.{arith}
use mathlib.Core.Path.{◌≡◌}
use mathlib.Core.List.{List}
use Rattle.model.specs.Bytes.{u32, part}
use Rattle.lookup.specs.Parts.{lent_of}
use Rattle.tie_calls.specs.Encoded.{batch_size}
use Rattle.tie_calls.proofs.Laws.{batch_recorded}
use borrow.Author.Rules.{rules}
use Rattle.tie_calls.proofs.carry_batch.Goals as goal

pub get_u32-count-requires : goal.get_u32-count-requires
unfolding batch_size
get_u32-count-requires c = omega arith

pub get_u64-batch_stamp-requires : goal.get_u64-batch_stamp-requires
unfolding batch_size
get_u64-batch_stamp-requires c = omega arith

pub slice_bounds-record_batch-end : goal.slice_bounds-record_batch-end
unfolding batch_size
slice_bounds-record_batch-end c = omega (arith, c.get_u32-count.ensures.0)

pub returns : goal.returns
unfolding part
returns c =
    let long_as : c.args.at + 32 + 16 * c.get_u32-count.result - (c.args.at + 32) ≡ 16 * u32 c.args.calls.now (c.args.at + 12) = omega (arith, c.get_u32-count.ensures.0) in
    let a = c.args in
    batch_recorded (lent_of a.image.now a.flags) c.args.calls.now c.args.at c.record_batch-done.ensures long_as c.get_u64-batch_stamp.ensures
