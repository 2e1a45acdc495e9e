-- `ring_write::write_cells` meets its contract. The loop's invariant: the values from entry i on, stored in the slab as it is now, make what all values make of
use Prim.Native.Nat.{◌+◌, ◌*◌, ◌/◌}
use native.Mathlib.Omega.{arith}
use native.Mathlib.Nat.{sub-zero}
use mathlib.Core.Path.{◌≡◌, refl, sym, ◌∙◌, subst}
use lib.ListN.{length}
use borrow.Author.Tests.{eq-eqb, ne_eqb}
use Rattle.model.specs.Bytes.{get}
use Rattle.model.specs.Ring.{put_cells}
use Rattle.model.specs.Record.{entries}
use Rattle.ring_theory.specs.Sound.{Sound}
use Rattle.ring.specs.Parts.{sized, one}
use Rattle.ring_write.specs.Entries.{skip_entry, keep-entry, no_entry}
use Rattle.ring_write.proofs.Laws.{cell_turn}
use borrow.Author.Rules.{rules}
use Rattle.ring_write.proofs.write_cells.Invariants.{rest}
use Rattle.ring_write.proofs.write_cells.Goals as goal

skipped : (c : goal.Then-entry-schema) → (rest c.args.batch.now c.args.schema (length c.args.batch.now / 16) c.loop-i.i) ≡ (rest c.args.batch.now c.args.schema (length c.args.batch.now / 16) (c.loop-i.i + 1))
skipped c = skip_entry _ _ _ _ c.loop-i-test.true (ne_eqb _ _ (λ z. c.if-entry-schema.true (c.entry_at-entry.ensures.handle.0 ∙ z)))

pub loop-i-init : goal.loop-i-init
unfolding entries
loop-i-init c =
    let pre = c.requires in
    record { in_bounds = search rules; long = refl; sound = pre.sized; columns = rw (sub-zero _) pre.slot_lt_slots.1; leads = rw (sub-zero _) }

pub loop-i-preserved-then-entry-schema : goal.loop-i-preserved-then-entry-schema
loop-i-preserved-then-entry-schema c =
    let i = c.loop-i.invariant in
    record { in_bounds = omega arith; long = i.long; sound = i.sound; columns = rw (skipped c) at i.columns; leads = rw (skipped c) at i.leads }

pub write_cell-requires : goal.write_cell-requires
write_cell-requires c =
    let i = c.loop-i.invariant in
    record { sized = sized i.sound; slot_lt_slots = (search rules, omega (arith, (rw ((keep-entry _ _ _ _ c.loop-i-test.true (eq-eqb _ _ (sym c.entry_at-entry.ensures.handle.0 ∙ c.if-entry-schema.false)))) at i.columns).0)) }

pub loop-i-preserved : goal.loop-i-preserved
loop-i-preserved c =
    let l = c.loop-i in
    let cell = c.write_cell in
    let slot = c.args.slot in
    let p : cell.new.slab ≡ put_cells l.slab slot (one (get 4 c.args.batch.now (16 * c.loop-i.i + 4)) (get 8 c.args.batch.now (16 * c.loop-i.i + 8))) = cc in
    record {
      in_bounds = omega arith;
      long = search rules;
      sound = subst (Sound cell.new.slab _ _) l.invariant.sound.interval-is cell.ensures.1;
      columns = (rw ((keep-entry _ _ _ _ c.loop-i-test.true (eq-eqb _ _ (sym c.entry_at-entry.ensures.handle.0 ∙ c.if-entry-schema.false)))) at l.invariant.columns).1;
      leads = cell_turn l.slab slot _ _ (rest c.args.batch.now c.args.schema (length c.args.batch.now / 16) (l.i + 1)) p
          (rw ((keep-entry _ _ _ _ c.loop-i-test.true (eq-eqb _ _ (sym c.entry_at-entry.ensures.handle.0 ∙ c.if-entry-schema.false)))) at l.invariant.leads);
    }

pub returns : goal.returns
unfolding put_cells
returns c =
    let l = c.loop-i in
    rw (no_entry _ l.i _ c.args.schema c.loop-i-test.false) at l.invariant.leads
