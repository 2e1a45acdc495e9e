-- `window_runs::skip` meets its contract: what is passed over, and what remains, are all there was; behind the last that was passed over in the range there is none.
use Prim.Native.Nat.{ℕ, suc, ◌+◌, ◌-◌, ◌%◌, ◌<◌}
use native.Mathlib.Nat.{sub_self}
use native.Mathlib.Omega.{arith}
use mathlib.Core.Path.{◌≡◌, refl, sym, ap, ◌∙◌}
use mathlib.Core.Bool.{Bool, false, cond}
use mathlib.Core.List.{List}
use Rattle.model.specs.Ring.{stamp}
use Rattle.model.specs.Window.{Job}
use Rattle.window.specs.declared.Reading.{Reading}
use Rattle.window.specs.Parts.{job_in}
use Rattle.ring_theory.specs.Walk.{steps}
use Rattle.window_runs.specs.Parts.{in_range, is_from}
use Rattle.window_runs.proofs.Laws.{not-inside, skip_none, skip_here, skip_turn, step_more, part-begin, last_more, part_more}
use Rattle.window_runs.proofs.skip.Invariants.{Over}
use Rattle.window_runs.proofs.skip.Goals as goal

-- one slot more is passed over: in the range it is the last so far
over_more : (s : List ℕ) (q : Reading) (limit slot₀ left₀ slot left last : ℕ) {next last' t : ℕ} → 0 < left → Over s q limit slot₀ left₀ slot left last
    → t ≡ stamp s slot → (next ≡ suc slot % q.slots) × (next < q.slots) → last' ≡ cond (in_range q.start q.end t) (left - 1) last
    → false ≡ is_from q.start q.end limit t → Over s q limit slot₀ left₀ next (left - 1) last'
over_more s q limit slot₀ left₀ slot left last {next} {last'} {t} some i p e g f =
    let job = job_in s q in
    let n = q.slots in
    record {
      slot_in = e.1;
      fewer = omega (arith, i.fewer);
      last_few = last_more job n slot₀ left₀ slot left last some i.fewer p e.0 g i.last_few;
      slot_is = step_more n slot₀ left₀ slot left some i.fewer i.slot_is e.0;
      rest-is = skip_turn job n slot left some p limit f e.0 i.rest-is;
      parted = part_more job n slot₀ left₀ slot left last some i.fewer p e.0 g i.slot_is i.parted;
    }

pub loop-left-init : goal.loop-left-init
loop-left-init c =
    let a = c.args in
    record {
      slot_in = c.requires.slot_lt_slots;
      fewer = omega arith;
      last_few = omega arith;
      slot_is = rw (sub_self a.place.left) (unfold steps in refl);
      rest-is = refl;
      parted = part-begin (job_in a.slab.now a.q) a.q.slots a.place.slot a.place.left;
    }

pub loop-left-preserved-then-not-inside : goal.loop-left-preserved-then-not-inside
loop-left-preserved-then-not-inside c =
    let l = c.loop-left in
    let out = sym c.in_range-inside.ensures ∙ c.if-not-inside.true in
    let a = c.args in
    over_more a.slab.now a.q (a.window + a.width) a.place.slot a.place.left l.slot l.left l.last c.loop-left-test.true l.invariant (rw c.source_of-source.ensures.0 at c.stamp-t.ensures) c.next_slot-slot.ensures
    (ap (λ (x : Bool). cond x (l.left - 1) l.last) (sym out)) (not-inside _ _ _ _ out)

pub returns-then-found : goal.returns-then-found
returns-then-found c =
    let job : Job = let a = c.args in job_in a.slab.now a.q in
    let a = c.args in
    let i = c.loop-left.invariant in
    let here : c.loop-left.left - 1 + 1 ≡ c.loop-left.left = omega arith in
    rw here (record {
      slot_in = i.slot_in;
      fewer = i.fewer;
      last_few = i.last_few;
      rest-is = skip_here job a.q.slots c.loop-left.slot c.loop-left.left (omega arith) (rw c.source_of-source.ensures.0 at c.stamp-t.ensures) (a.window + a.width)
          (sym c.if-found.true ∙ c.is_from-found.ensures) i.rest-is;
      parted = i.parted;
    })

pub loop-left-preserved : goal.loop-left-preserved
loop-left-preserved c =
    let l = c.loop-left in
    let inside = sym c.in_range-inside.ensures ∙ c.if-not-inside.false in
    let a = c.args in
    over_more a.slab.now a.q (a.window + a.width) a.place.slot a.place.left l.slot l.left l.last c.loop-left-test.true l.invariant (rw c.source_of-source.ensures.0 at c.stamp-t.ensures) c.next_slot-slot-in-loop-left.ensures
    (ap (λ (x : Bool). cond x (l.left - 1) l.last) (sym inside)) (sym c.if-found.false ∙ c.is_from-found.ensures)

pub returns : goal.returns
returns c =
    let job : Job = let a = c.args in job_in a.slab.now a.q in
    let i = c.loop-left.invariant in
    let none : c.loop-left.left ≡ 0 = omega arith in
    record {
      slot_in = i.slot_in;
      fewer = omega arith;
      last_few = i.last_few;
      rest-is = rw none at (skip_none job c.args.q.slots c.loop-left.slot c.loop-left.left none (c.args.window + c.args.width) i.rest-is);
      parted = rw none at i.parted;
    }
