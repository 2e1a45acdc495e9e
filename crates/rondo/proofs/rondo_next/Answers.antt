-- `rondo::rondo_next` meets its contract: `reader::step`, its answer taken apart. Assumes nothing.
use mathlib.Core.Path.{◌≡◌}
use Rattle.rondo.specs.Edge.{step_at}
use Rattle.rondo.proofs.Laws.{step-handed, step-finished}
use Rattle.rondo.proofs.rondo_next.Goals as goal

pub returns-in-Some : goal.returns-in-Some
returns-in-Some c =
    let stepped : (let a = c.args in c.step-stepped.result ≡ step_at a.slab.now a.column a.start a.end a.place.now) = cc in
    let w = step-handed c.step-stepped.result _ c.in-Some.p c.args.point.now stepped c.in-Some.is in
    record { answer = w.0; moved = w.1.0; handed = w.1.1 }

pub returns-in-None : goal.returns-in-None
returns-in-None c =
    let stepped : (let a = c.args in c.step-stepped.result ≡ step_at a.slab.now a.column a.start a.end a.place.now) = cc in
    let w = step-finished c.step-stepped.result _ c.args.point.now stepped c.in-None.is in
    record { answer = w.0; moved = w.1.0; handed = w.1.1 }
