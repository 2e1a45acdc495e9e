-- The words of the contracts: what all windows of a pair make of a filling; a pair whose range is a part. Assumes nothing.
use Rattle.std.specs.Prelude.{ℕ, List}
use Rattle.model.specs.Consolidate.{Filled, fill, windows}
use Rattle.window_write.specs.declared.Filling.{Filling}
use Rattle.pair_fill.specs.declared.Pair.{Pair}
use Rattle.pair_fill.specs.Parts.{pair_job, filled_in}

abbrev pub all_filled : List ℕ → Pair → Filling → Filled
all_filled s p r = fill (pair_job s p) (filled_in s p r) (windows (pair_job s p)) p.reading.series

abbrev pub in_part : Pair → ℕ → ℕ → Pair
in_part p start end = record {
  from = p.from;
  to = p.to;
  reading = record {
    slots = p.reading.slots;
    series = p.reading.series;
    wrapped = p.reading.wrapped;
    function = p.reading.function;
    long = p.reading.long;
    start = start;
    end = end;
  };
  dest = p.dest;
}
