-- `lookup::Image::is_old` meets its contract: the slab is the part of the image that the row names. Assumes nothing.
use Prim.Native.Nat.{ℕ}
use mathlib.Core.List.{List}
use mathlib.Core.Path.{ap, ◌∙◌}
use Rattle.model.specs.Ring.{is_old}
use Rattle.lookup.proofs.Laws.{starts-before, part-is, part_sound}
use Rattle.lookup.proofs.Image.is_old.Goals as goal

pub slice_bounds-is_old-count : goal.slice_bounds-is_old-count
slice_bounds-is_old-count c = starts-before c.slab_at-slab.ensures

pub is_old-requires : goal.is_old-requires
is_old-requires c =
    let slab = c.slab_at-slab.ensures in record { sound = part_sound slab; interval_nonzero = slab.some_interval }

pub returns : goal.returns
returns c = c.is_old.ensures ∙ ap (λ (s : List ℕ). is_old s c.args.stamp) (part-is c.slab_at-slab.ensures)
