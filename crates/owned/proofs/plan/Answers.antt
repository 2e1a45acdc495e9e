-- `owned::plan` meets its contract: the header, then row after row. Assumes nothing.
use Rattle.std.proofs.Common.{arith, ◌∙◌, ◌++◌, ap, length, append_assoc, append-nil}
use Rattle.std.proofs.lemmas.List.{take_all}
use Rattle.model.specs.Image.{all_rows}
use Rattle.owned.specs.Plan.{plan_header, plan_rows, plan_bytes}
use Rattle.owned.proofs.Laid.{rows_more}
use Rattle.owned.proofs.plan.Goals as goal

pub loop-i-init : goal.loop-i-init
unfolding all_rows plan_rows
loop-i-init c = c.in_ok-put_words.ensures ∙ rw (c.in_ok-put_halves.ensures, c.new-plan.ensures.items) (simp (append_assoc, append-nil))

pub loop-i-preserved : goal.loop-i-preserved
loop-i-preserved c = rows_more c.loop-i.i c.args.tiers.now _ (plan_header (length c.args.tiers.now)) _ _ c.loop-i-test.true c.loop-i.invariant c.in_ok-put_row.ensures

pub returns : goal.returns
unfolding plan_bytes
returns c =
    let ts = c.args.tiers.now in
    c.loop-i.invariant ∙ ap (λ us. plan_header (length ts) ++ all_rows (plan_rows 0 us)) (take_all c.loop-i.i ts (omega (arith, c.loop-i-test.false)))
