-- `image_build::put_slabs` meets its contract: the slabs filled so far and the slabs left are all slabs. Assumes nothing.
use Prim.Native.Nat.{◌+◌, ◌≤◌}
use mathlib.Core.Path.{◌≡◌, sym, ap, ◌∙◌}
use native.Mathlib.Omega.{arith}
use lib.ListN.{length}
use Rattle.model.specs.Layout.{slab_length}
use Rattle.model.specs.Image.{row_at, row_length}
use Rattle.layout.specs.Ends.{ends_on}
use Rattle.laws.specs.Fresh.{fresh_of, length-fresh_of}
use Rattle.image_build.specs.Made.{lent-long, lent-kept, slabs_fit, slabs_turn, slabs_none}
use Rattle.image_build.proofs.put_slabs.Goals as goal

-- slab i fits: its length is not capped, and the slice holds it
fits : (c : goal.After-row_length-len) → let a = c.args in
    (c.row_length-len.result ≡ row_length c.row-r.result) × (c.loop-i.at + c.row_length-len.result ≤ length a.image.now)
fits c =
    let l = c.loop-i in
    slabs_fit c.args.plan.now.bytes.now c.args.plan.now.count l.i c.loop-i-test.true l.at _ (length c.args.image.now) c.row-r.ensures c.row_length-len.ensures
    l.invariant.same_end c.requires.ends_low c.requires.ends_in

len_is : (c : goal.After-row_length-len) → c.row_length-len.result ≡ row_length (row_at c.args.plan.now.bytes.now c.loop-i.i)
len_is c = (fits c).0 ∙ ap row_length c.row-r.ensures

slab_in : (c : goal.After-row_length-len) → let l = c.loop-i in l.at + c.row_length-len.result ≤ length l.image
slab_in c = omega (arith, (fits c).1, c.loop-i.invariant.same-long)

pub overflow_add-end : goal.overflow_add-end
overflow_add-end c = omega (arith, (fits c).1)

pub slice_bounds-fresh_slab-end : goal.slice_bounds-fresh_slab-end
slice_bounds-fresh_slab-end c = slab_in c

pub fresh_slab-requires : goal.fresh_slab-requires
unfolding row_length
fresh_slab-requires c =
    let fits : let a = c.args in (c.row_length-len.result ≡ row_length c.row-r.result) × (c.loop-i.at + c.row_length-len.result ≤ length a.image.now) =
    let l = c.loop-i in
    slabs_fit c.args.plan.now.bytes.now c.args.plan.now.count l.i c.loop-i-test.true l.at _ (length c.args.image.now) c.row-r.ensures c.row_length-len.ensures l.invariant.same_end c.requires.ends_low c.requires.ends_in in
    let slab_in : let l = c.loop-i in l.at + c.row_length-len.result ≤ length l.image = omega (arith, fits.1, c.loop-i.invariant.same-long) in
    let l = c.loop-i in
    let slots = ap (λ n. slab_length n c.row-r.result.series) (sym c.row_slots-slots.ensures) in
    lent-long l.image l.at c.row_length-len.result slab_in ∙ fits.0 ∙ slots

pub loop-i-preserved : goal.loop-i-preserved
loop-i-preserved c =
    let filled_is : c.fresh_slab.new.slab ≡ fresh_of (row_at c.args.plan.now.bytes.now c.loop-i.i) =
    let e = c.row-r.ensures in
    let n = c.row_slots-slots.ensures in
    let f = c.fresh_slab.ensures in
    cc in
    let fits : let a = c.args in (c.row_length-len.result ≡ row_length c.row-r.result) × (c.loop-i.at + c.row_length-len.result ≤ length a.image.now) =
    let l = c.loop-i in
    slabs_fit c.args.plan.now.bytes.now c.args.plan.now.count l.i c.loop-i-test.true l.at _ (length c.args.image.now) c.row-r.ensures c.row_length-len.ensures l.invariant.same_end c.requires.ends_low c.requires.ends_in in
    let len_is : c.row_length-len.result ≡ row_length (row_at c.args.plan.now.bytes.now c.loop-i.i) = fits.0 ∙ ap row_length c.row-r.ensures in
    let slab_in : let l = c.loop-i in l.at + c.row_length-len.result ≤ length l.image = omega (arith, fits.1, c.loop-i.invariant.same-long) in
    let l = c.loop-i in
    let n = c.args.plan.now.count in
    let h = c.loop-i-test.true in
    let filled-long = ap length filled_is ∙ length-fresh_of (row_at c.args.plan.now.bytes.now c.loop-i.i) ∙ sym len_is in
    record {
      in_rows = omega (arith, h);
      same-long = lent-kept l.image l.at c.row_length-len.result c.fresh_slab.new.slab slab_in filled-long ∙ l.invariant.same-long;
      same_end = rw (len_is, ← ends_on c.args.plan.now.bytes.now n l.i h l.at) l.invariant.same_end;
      filled = slabs_turn c.args.plan.now.bytes.now n l.i h l.image l.at slab_in len_is filled_is ∙ l.invariant.filled;
    }

pub returns : goal.returns
returns c =
    let a = c.args in
    let l = c.loop-i in
    sym (slabs_none a.plan.now.bytes.now a.plan.now.count l.i l.image l.at c.loop-i-test.false) ∙ l.invariant.filled
