-- `rondo::rondo_consolidate` meets its contract: `consolidate::consolidate`, with the flags as a number and the answer taken apart. Assumes nothing.
use mathlib.Core.Path.{◌≡◌}
use Rattle.model.specs.Store.{call, consolidate_call}
use Rattle.flag_bits.specs.One.{lent_at}
use Rattle.rondo.proofs.Laws.{done_after, ran, run_wrote, run_refused}
use Rattle.rondo.proofs.rondo_consolidate.Goals as goal

pub returns-in-Ok : goal.returns-in-Ok
returns-in-Ok c =
    let run : (let k = c.consolidate-done in let a = c.args in done_after k.result.answer (lent_at k.new.image c.number_of.result) ≡ call (lent_at a.image.now a.flags.now) consolidate_call) =
    let flags = c.flags_of-wrapped in
    let done = c.consolidate-done in
    ran _ _ _ _ _ flags.result done.result.flags flags.ensures c.number_of.ensures.1 done.ensures in
    let w = run_wrote _ _ _ _ _ c.args.count.now run c.in-Ok.is in
    record { number = w.0; counted = w.1.0; left = w.1.1 }

pub returns-in-Err : goal.returns-in-Err
returns-in-Err c =
    let run : (let k = c.consolidate-done in let a = c.args in done_after k.result.answer (lent_at k.new.image c.number_of.result) ≡ call (lent_at a.image.now a.flags.now) consolidate_call) =
    let flags = c.flags_of-wrapped in
    let done = c.consolidate-done in
    ran _ _ _ _ _ flags.result done.result.flags flags.ensures c.number_of.ensures.1 done.ensures in
    let w = run_refused _ _ _ _ _ c.args.count.now run c.in-Err.is c.refusal_number.ensures in
    record { number = w.0; counted = w.1.0; left = w.1.1 }
