-- `open::any_stamp` meets its contract: eight slots are met as one is. Assumes nothing.
use Rattle.std.proofs.Common.{arith, ◌≡◌, ◌+◌, ◌*◌, ◌-◌, ◌/◌, ◌%◌, ◌∙◌}
use Rattle.ring_joined.specs.Slots.{piece_some, piece_none}
use Rattle.open.proofs.any_stamp.Goals as goal

pub returns-then-eight-ne0 : goal.returns-then-eight-ne0
returns-then-eight-ne0 c =
    let l = c.loop-group in
    piece_some _ (c.args.first + 8 * l.group) _ 8 (omega arith) _ c.eight-eight.ensures c.if-eight-ne0.true ∙ l.invariant

pub loop-group-preserved : goal.loop-group-preserved
loop-group-preserved c =
    let l = c.loop-group in
    let a = c.args in
    let slot : a.first + 8 * (l.group + 1) ≡ a.first + 8 * l.group + 8 = omega arith in
    let left : a.count - 8 * (l.group + 1) ≡ a.count - 8 * l.group - 8 = omega arith in
    rw (slot, left) (piece_none _ (a.first + 8 * l.group) _ 8 (omega arith) _ c.eight-eight.ensures c.if-eight-ne0.false ∙ l.invariant)

pub returns : goal.returns
returns c =
    let l = c.loop-group in
    let a = c.args in
    let all : l.group ≡ a.count / 8 = omega arith in
    let rest : a.count - 8 * (a.count / 8) ≡ a.count % 8 = omega arith in
    c.any_single.ensures ∙ rw (all, rest) at l.invariant
