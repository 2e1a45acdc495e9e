-- `image::slabs_sound` meets its contract: the test so far and the slabs left are sound exactly when all are. Assumes nothing.
use mathlib.Core.Path.{sym, ◌∙◌}
use native.Mathlib.Omega.{arith}
use Rattle.image.proofs.Laws.{within, long_enough, sound_more, sound_end}
use Rattle.image.proofs.slabs_sound.Goals as goal

pub overflow_add-end : goal.overflow_add-end
overflow_add-end c =
    let w = within c.args.table.now.bytes.now _ c.args.table.now.count c.loop-i.i c.requires.placed c.requires.ends_in c.loop-i-test.true c.row-r.ensures in omega (arith, w.inside)

pub slice_bounds-is_sound-end : goal.slice_bounds-is_sound-end
slice_bounds-is_sound-end c =
    let w = within c.args.table.now.bytes.now _ c.args.table.now.count c.loop-i.i c.requires.placed c.requires.ends_in c.loop-i-test.true c.row-r.ensures in w.inside

pub is_sound-one-requires : goal.is_sound-one-requires
is_sound-one-requires c =
    let w = within c.args.table.now.bytes.now _ c.args.table.now.count c.loop-i.i c.requires.placed c.requires.ends_in c.loop-i-test.true c.row-r.ensures in
    long_enough c.args.table.now.bytes.now c.row-r.result w

pub loop-i-preserved : goal.loop-i-preserved
loop-i-preserved c =
    let l = c.loop-i in
    let t = c.loop-i-test.true in
    record {
      in_rows = omega (arith, t);
      tested = sound_more c.args.table.now.bytes.now c.args.table.now.count l.i l.good c.row-r.result t c.row-r.ensures c.is_sound-one.ensures ∙ l.invariant.tested;
    }

pub returns : goal.returns
returns c =
    let l = c.loop-i in
    sym (sound_end c.args.table.now.bytes.now c.args.table.now.count l.i l.good c.loop-i-test.false) ∙ l.invariant.tested
