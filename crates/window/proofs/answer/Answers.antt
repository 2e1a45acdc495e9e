-- `window::answer` meets its contract, one case a return. Assumes nothing.
use Prim.Native.Nat.{ℕ}
use mathlib.Core.List.{List}
use Rattle.model.specs.Ring.{walk}
use Rattle.model.specs.Window.{Job}
use Rattle.window.specs.Parts.{job_in}
use Rattle.window.proofs.Laws.{is-empty, is_nothing_lem, is_number}
use Rattle.window.proofs.answer.Goals as goal

pub returns-then-seen-eq0 : goal.returns-then-seen-eq0
returns-then-seen-eq0 c =
    let job : Job =
    let a = c.args in
    job_in a.slab.now a.q in
    let slots : List ℕ =
    let a = c.args in
    walk a.q.slots a.place.slot a.place.left in
    (is-empty job c.args.window c.args.column slots c.gather_values-g.ensures.value c.if-seen-eq0.true, tt)

pub returns-then-finite-eq0 : goal.returns-then-finite-eq0
returns-then-finite-eq0 c =
    let job : Job =
    let a = c.args in
    job_in a.slab.now a.q in
    let slots : List ℕ =
    let a = c.args in
    walk a.q.slots a.place.slot a.place.left in
    (is_nothing_lem job c.args.window c.args.column slots c.gather_values-g.ensures.value c.if-seen-eq0.false c.if-finite-eq0.true, tt)

pub returns : goal.returns
returns c =
    let job : Job =
    let a = c.args in
    job_in a.slab.now a.q in
    let slots : List ℕ =
    let a = c.args in
    walk a.q.slots a.place.slot a.place.left in
    let g = c.gather_values-g.ensures in
    is_number job c.args.window c.args.column slots g.value c.fold_end-x.ensures c.if-seen-eq0.false c.if-finite-eq0.false g.finite_bound
