-- `ring_write::write_cell` meets its contract: the cell's place is in the slab and behind its header. Assumes nothing.
use mathlib.Core.Path.{◌≡◌}
use Rattle.model.specs.Bytes.{put}
use Rattle.model.specs.Ring.{cell_at, put_cells}
use Rattle.laws.specs.Slab.{cell_place, cell_at_high}
use Rattle.ring_write.proofs.Laws.{sound-put}
use Rattle.ring_write.proofs.write_cell.Goals as goal

pub returns : goal.returns
unfolding put_cells
returns c =
    let a = c.args in
    let s = a.slab.now in
    let o = cell_at s a.column a.slot in
    let at : c.cell_place-at.result ≡ o = cc (cell_place s c.requires.sized.slots-is c.requires.sized.series-is a.column a.slot) in
    let e : c.put_u64.new.s ≡ put 8 s o a.value = cc in
    (e, rw e (sound-put c.requires.sized o a.value (cell_at_high s a.column a.slot)))
