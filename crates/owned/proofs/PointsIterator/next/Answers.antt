-- `owned::Points`, as an iterator, ends: a point that is handed out leaves fewer slots. Assumes nothing.
use Rattle.std.specs.Prelude.{◌≡◌, Option, Some, None, refl}
use Rattle.std.specs.Iterator.{MakesProgress, at_most}
use Rattle.std.specs.declared.iter.Iterator.{can_next-default}
use Rattle.std.proofs.Common.{◌<◌, sym, ◌∙◌, subst}
use Rattle.model.specs.declared.Point.{Point}
use Rattle.store_reads.specs.declared.Reader.{Reader}
use Rattle.owned.specs.declared.Points.{Points}
use Rattle.owned.proofs.Fewer.{fewer}
use Rattle.owned.proofs.PointsIterator.next.Goals as goal

pub returns-clause-goes : goal.returns-clause-goes
returns-clause-goes c =
    let s = c.args.self.now in
    let r = s.0 in
    let less : (x : Point) → c.next.result ≡ Some x → c.next.new.r.left < r.left =
    λ x is. subst (λ (t : Reader). t.left < r.left) (sym c.next.ensures.1) (fewer x r.slab.now r.column r.start r.end (record { slot = r.slot; left = r.left }) (sym c.next.ensures.0 ∙ is))
    in
    let Goes : Option Point → Type 0 =
    λ o. c.next.result ≡ o → MakesProgress (can_next-default Points Point) (λ (p : Points). at_most p.0.left) s o (record { 0 = c.next.new.r })
    in
    elim c.next.result as Goes [
      | Some x ↦ λ is. record { on = λ _. (tt, tt, less x is); keeps = tt; rests = λ _. tt }
      | None ↦ λ _. record { on = λ _. tt; keeps = tt; rests = λ _. tt }
    ] refl
