-- The third demand's words, computed from short lists: which plans are suited, what is an offset, what the calls did, which windows are due and closed, what is
-- promised of their points. Assumes nothing.
use Rattle.std.specs.Prelude.{◌^◌, ◌≡◌, refl, true, false, List, [], ◌∷◌, pos}
use Rattle.std.specs.Float.{binary64}
use Rattle.std.specs.Float.Ieee.{of_bits}
use Rattle.model.specs.declared.Point.{Point}
use Rattle.model.specs.Store.{batch_call, consolidate_call}
use Rattle.demand.specs.Demand.{Demand-defs, Sample, ran, events, events_of, samples_in, suited, supposed, is_offset, newest_windows, is_closed, within, each}
use Rattle.model.specs.Cases.{Cases-defs, tier, num, infinity, fresh}
use Rattle.demand.specs.Instance.{minus, sample, point}

-- ---- plans

-- suited, each ring spanning two coarsest intervals: four tiers, and ratios of 64 and 128, whose product is above 4,096, exactly two each; more than two
-- not suited: a coarser ring that spans one and a half; a finest ring one slot short of two; a coarsest that spans one; a finest that spans two of the second
-- interval alone
pub suited_are :
    suited (tier 0 1 16 0 ∷ tier 1 2 16 1 ∷ tier 2 4 16 1 ∷ tier 3 8 16 1 ∷ []) ∷ suited (tier 0 1 16384 0 ∷ tier 1 64 16384 1 ∷ tier 2 8192 16384 1 ∷ [])
    ∷ suited (tier 0 10 90 0 ∷ tier 1 20 100 1 ∷ tier 2 40 120 1 ∷ [])
    ∷ suited (tier 0 10 80 0 ∷ tier 1 20 60 1 ∷ tier 2 40 80 1 ∷ []) ∷ suited (tier 0 10 70 0 ∷ tier 1 20 80 1 ∷ tier 2 40 80 1 ∷ [])
    ∷ suited (tier 0 10 80 0 ∷ tier 1 20 80 1 ∷ tier 2 40 40 1 ∷ []) ∷ suited (tier 0 10 40 0 ∷ tier 1 20 80 1 ∷ tier 2 40 80 1 ∷ []) ∷ []
    ≡ true ∷ true ∷ true ∷ false ∷ false ∷ false ∷ false ∷ []
unfolding Cases-defs Demand-defs
suited_are = refl

-- not suited either: a ratio of 1; 50 over 20, though both are multiples of 10; a middle tier that takes the least; a coarsest that takes the least
pub ratios_and_functions :
    suited (tier 0 10 20 0 ∷ tier 1 10 20 1 ∷ []) ∷ suited (tier 0 10 100 0 ∷ tier 1 20 100 1 ∷ tier 2 50 100 1 ∷ [])
    ∷ suited (tier 0 10 80 0 ∷ tier 1 20 80 2 ∷ tier 2 40 80 1 ∷ []) ∷ suited (tier 0 10 80 0 ∷ tier 1 20 80 1 ∷ tier 2 40 80 2 ∷ []) ∷ []
    ≡ false ∷ false ∷ false ∷ false ∷ []
unfolding Cases-defs Demand-defs
ratios_and_functions = refl

-- ---- values

-- -2^30 is an offset, -2^30 - 1 is not; no NaN, no infinity, no pattern above 64 bits, no -0.5
pub offsets_are :
    is_offset (minus 1_073_741_823) ∷ is_offset (minus 1_073_741_824) ∷ is_offset 0x7ff8_0000_0000_0000 ∷ is_offset 0x7ff0_0000_0000_0000 ∷ is_offset 0xfff0_0000_0000_0000
    ∷ is_offset (2 ^ 64) ∷ is_offset 0xbfe0_0000_0000_0000 ∷ []
    ≡ true ∷ false ∷ false ∷ false ∷ false ∷ false ∷ false ∷ []
unfolding Cases-defs Demand-defs minus
offsets_are = refl

-- of a mean of 2 at tier 2: 2/4,096 below is within the bound, 3/4,096 below is not; nor are NaN and the infinities
pub bounds_are :
    within 2 (of_bits binary64 0x3fff_fe00_0000_0000) (pos 2) 1 ∷ within 2 (of_bits binary64 0x3fff_fd00_0000_0000) (pos 2) 1
    ∷ within 2 (of_bits binary64 0x7ff8_0000_0000_0000) (pos 2) 1 ∷ within 2 (of_bits binary64 0x7ff0_0000_0000_0000) (pos 2) 1 ∷ within 2 (of_bits binary64 0xfff0_0000_0000_0000) (pos 2) 1 ∷ []
    ≡ true ∷ false ∷ false ∷ false ∷ false ∷ []
unfolding Cases-defs Demand-defs
bounds_are = refl

-- ---- what calls did

-- a refused batch with good entries leaves no sample: an infinite value, a stamp of 0, a column that is none
pub refused_batches :
    events (fresh (tier 0 10 20 0 ∷ tier 1 20 20 1 ∷ []))
    (batch_call (record { schema = 0; column = 0; value = num 1 } ∷ record { schema = 0; column = 1; value = infinity } ∷ []) 20
    ∷ batch_call (record { schema = 0; column = 0; value = num 1 } ∷ []) 0
    ∷ batch_call (record { schema = 0; column = 0; value = num 1 } ∷ record { schema = 0; column = 2; value = num 1 } ∷ []) 20 ∷ [])
    ≡ []
unfolding Cases-defs Demand-defs
refused_batches = refl

-- a refused run is a run
pub refused_run : events_of (fresh (tier 0 10 20 0 ∷ tier 1 20 20 0 ∷ [])) consolidate_call ≡ ran ∷ []
unfolding Cases-defs Demand-defs
refused_run = refl

-- nothing at all is not supposed, nor a run before any sample, nor one before the first sample; nor is a first stamp of 0
pub not-supposed :
    supposed 10 20 [] ∷ supposed 10 20 (ran ∷ []) ∷ supposed 10 20 (ran ∷ sample 20 0 (num 1) ∷ ran ∷ []) ∷ supposed 10 20 (sample 0 0 (num 1) ∷ sample 10 0 (num 1) ∷ ran ∷ []) ∷ []
    ≡ false ∷ false ∷ false ∷ false ∷ []
unfolding Cases-defs Demand-defs sample
not-supposed = refl

-- after samples at 40, 50 and 60 the window of 20 ns at 60 is open, and is due as the last, also where there is one slot alone; with the sample at 70 it is
-- closed, and no further one has begun. The finest interval is added to the greatest stamp, not the tier's
unfoldable pub up_to60 : List Sample
up_to60 = samples_in (sample 40 0 (num 1) ∷ sample 50 0 (num 2) ∷ sample 60 0 (num 6) ∷ [])

unfoldable pub up_to70 : List Sample
up_to70 = samples_in (sample 40 0 (num 1) ∷ sample 50 0 (num 2) ∷ sample 60 0 (num 6) ∷ sample 70 0 (num 8) ∷ [])

pub open_window :
    newest_windows 20 4 up_to60 ∷ newest_windows 20 1 up_to60 ∷ newest_windows 40 4 up_to60 ∷ newest_windows 20 4 up_to70 ∷ newest_windows 20 1 up_to70 ∷ newest_windows 40 4 up_to70 ∷ []
    ≡ (40 ∷ 60 ∷ []) ∷ (60 ∷ []) ∷ (40 ∷ []) ∷ (40 ∷ 60 ∷ []) ∷ (60 ∷ []) ∷ (40 ∷ []) ∷ []
unfolding Cases-defs Demand-defs sample up_to60 up_to70
open_window = refl

pub closed_are :
    is_closed 10 20 up_to60 40 ∷ is_closed 10 20 up_to60 60 ∷ is_closed 10 40 up_to60 40 ∷ is_closed 10 10 up_to60 60 ∷ is_closed 10 20 up_to70 60 ∷ is_closed 10 40 up_to70 40 ∷ []
    ≡ true ∷ false ∷ false ∷ true ∷ true ∷ true ∷ []
unfolding Cases-defs Demand-defs sample up_to60 up_to70
closed_are = refl

-- the bound is for the closed windows, and for each of them: 1.5 at 40, and anything at 60 while that is open; then 7 there too. No point may be missing, stand
-- twice or follow the last
unfoldable pub halves : Point
halves = point 40 0x3ff8_0000_0000_0000

pub open_points :
    each 10 0 20 1 up_to60 (40 ∷ 60 ∷ []) (halves ∷ point 60 (num 6) ∷ []) ∷ each 10 0 20 1 up_to60 (40 ∷ 60 ∷ []) (halves ∷ point 60 (num 99) ∷ [])
    ∷ each 10 0 20 1 up_to60 (40 ∷ 60 ∷ []) (point 40 (num 1) ∷ point 60 (num 6) ∷ []) ∷ each 10 0 20 1 up_to60 (40 ∷ 60 ∷ []) (halves ∷ [])
    ∷ each 10 0 20 1 up_to60 (40 ∷ 60 ∷ []) (halves ∷ point 60 (num 6) ∷ point 60 (num 6) ∷ []) ∷ each 10 0 20 1 up_to60 (40 ∷ 60 ∷ []) (halves ∷ point 80 (num 6) ∷ [])
    ∷ each 10 0 20 1 up_to70 (40 ∷ 60 ∷ []) (halves ∷ point 60 (num 7) ∷ []) ∷ each 10 0 20 1 up_to70 (40 ∷ 60 ∷ []) (halves ∷ point 60 (num 6) ∷ []) ∷ []
    ≡ true ∷ true ∷ false ∷ false ∷ false ∷ false ∷ true ∷ false ∷ []
unfolding Cases-defs Demand-defs sample up_to60 up_to70 point halves
open_points = refl

-- the mean of -1 and -2 is -1.5, not 1.5
pub below_zero :
    each 10 1 20 1 (samples_in (sample 40 1 (minus 0) ∷ sample 50 1 (minus 1) ∷ [])) (40 ∷ []) (record { stamp = 40; value = 0xbff8_0000_0000_0000 } ∷ [])
    ∷ each 10 1 20 1 (samples_in (sample 40 1 (minus 0) ∷ sample 50 1 (minus 1) ∷ [])) (40 ∷ []) (record { stamp = 40; value = 0x3ff8_0000_0000_0000 } ∷ []) ∷ []
    ≡ true ∷ false ∷ []
unfolding Cases-defs Demand-defs minus sample
below_zero = refl
