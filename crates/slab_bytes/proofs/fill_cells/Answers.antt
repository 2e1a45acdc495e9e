-- `slab::fill_cells` meets its contract: what is filled so far and what is left is the whole fill. Assumes nothing.
use Rattle.std.proofs.Common.{arith, ◌-◌, refl, sym, ◌∙◌, add-zero}
use Rattle.std.proofs.Math.Nat.{sub-zero}
use Rattle.slab_bytes.specs.Fresh.{cells_next, cells_end}
use Rattle.slab_bytes.proofs.fill_cells.Goals as goal

pub loop-i-init : goal.loop-i-init
loop-i-init c = record { in_part = omega arith; same-long = refl; filled = rw (add-zero, sub-zero) }

pub loop-i-preserved : goal.loop-i-preserved
loop-i-preserved c =
    let l = c.loop-i in
    let a = c.args in
    record {
      in_part = omega (arith, c.loop-i-test.true);
      same-long = c.put_u64.auto.s ∙ l.invariant.same-long;
      filled = rw c.put_u64.ensures (cells_next l.s a.from a.count l.i c.loop-i-test.true) ∙ l.invariant.filled;
    }

pub returns : goal.returns
returns c =
    let l = c.loop-i in
    sym (cells_end l.s _ (c.args.count - l.i) (omega (arith, c.loop-i-test.false))) ∙ l.invariant.filled
