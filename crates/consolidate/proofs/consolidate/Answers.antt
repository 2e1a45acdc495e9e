-- `consolidate::consolidate` meets its contract: opening's refusal, or the run. Assumes nothing.
use mathlib.Core.Path.{◌≡◌, sym, ◌∙◌}
use Rattle.model.specs.Words.{outcome_no}
use Rattle.model.specs.Image.{open_check}
use Rattle.rows.specs.First.{accepted, not_accepted}
use Rattle.consolidate.proofs.Laws.{not_opened, run_done_lem}
use Rattle.consolidate.proofs.consolidate.Goals as goal

pub returns-in_default : goal.returns-in_default
returns-in_default c =
    let a = c.args in
    not_opened a.image.now a.flags (outcome_no c.check_image-opened.result) c.check_image-opened.ensures (not_accepted c.in_default.is) c.answer_of-answer.ensures

pub run_pairs-u-requires : goal.run_pairs-u-requires
run_pairs-u-requires c =
    let opened : open_check c.args.image.now ≡ 0 = sym c.check_image-opened.ensures ∙ accepted c.in-Ok.is in
    opened

pub returns : goal.returns
returns c =
    let opened : open_check c.args.image.now ≡ 0 = sym c.check_image-opened.ensures ∙ accepted c.in-Ok.is in
    let a = c.args in
    run_done_lem a.image.now a.flags c.run_pairs-u.new.image c.run_pairs-u.result opened c.run_pairs-u.ensures c.answer_of-answer-2.ensures
