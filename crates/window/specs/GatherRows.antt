-- What a pass holds after each number of slots, on a ring of four slots read from slot 2 on. By computation. Assumes nothing.
use Rattle.std.specs.Prelude.{ℕ, ◌≡◌, refl, true, false, List, [], ◌∷◌, ◌++◌, map, take}
use Rattle.std.specs.Float.{binary64}
use Rattle.std.specs.Float.Ieee.{to_bits}
use Rattle.model.specs.declared.ConsolidationFn.{ConsolidationFn}
use Rattle.model.specs.declared.ConsolidationFn.TheVariants.{Average, Min, Max, Last, Sum, Count}
use Rattle.model.specs.Bytes.{bytes}
use Rattle.model.specs.Layout.{fresh_slab, fresh_value}
use Rattle.model.specs.Ring.{walk}
use Rattle.model.specs.Window.{held_in}
use Rattle.model.specs.Cases.{Cases-defs, num, infinity}
use Rattle.ring_theory.specs.Walk.{absent, different}
use Rattle.window.specs.declared.Reading.{Reading}
use Rattle.window.specs.Parts.{job_in}
use Rattle.window.specs.Gather.{begun, entered, pass}

-- slots 0 to 3 stamped 40, 50, 20, 30: column 0 holds infinity, 4, 9, 1, column 1 NaN, infinity, 9, NaN
unfoldable pub slab4 : List ℕ
slab4 =
    take 72 (fresh_slab 7 4 2 10) ++ bytes 8 40 ++ bytes 8 50 ++ bytes 8 20 ++ bytes 8 30 ++ bytes 8 infinity ++ bytes 8 (num 4) ++ bytes 8 (num 9) ++ bytes 8 (num 1)
    ++ bytes 8 fresh_value ++ bytes 8 infinity ++ bytes 8 (num 9) ++ bytes 8 fresh_value

-- all of it, 10 into 30
unfoldable pub reading : ConsolidationFn → Reading
reading f = record { slots = 4; series = 2; wrapped = true; function = f; long = 30; start = 20; end = 51 }

-- what is held for window w after k slots of column c: values, finite ones, and the fold's pattern
unfoldable pub after : ConsolidationFn → ℕ → ℕ → ℕ → List ℕ
after f w c k =
    let g = pass f (begun f) (held_in (job_in slab4 (reading f)) w c (walk 4 2 k)) in
    g.seen ∷ g.finite ∷ to_bits binary64 g.value ∷ []

unfoldable pub minus_zero : ℕ
minus_zero = 0x8000_0000_0000_0000

unfoldable pub GatherRows-defs : Unit {0}
unfolding Cases-defs begun entered pass slab4 reading after minus_zero
GatherRows-defs = tt

-- nothing yet: the sum is -0.0; 20 lies in another window; 1 enters; infinity is seen and does not enter; 4 enters
pub slot_by_slot :
    map (after Average 30 0) (0 ∷ 1 ∷ 2 ∷ 3 ∷ 4 ∷ [])
    ≡ (0 ∷ 0 ∷ minus_zero ∷ []) ∷ (0 ∷ 0 ∷ minus_zero ∷ []) ∷ (1 ∷ 1 ∷ num 1 ∷ []) ∷ (2 ∷ 1 ∷ num 1 ∷ []) ∷ (3 ∷ 2 ∷ num 5 ∷ []) ∷ []
unfolding GatherRows-defs
slot_by_slot = refl

-- the first slot enters; those behind it lie in a later window
pub first_slot_alone :
    map (after Average 0 0) (0 ∷ 1 ∷ 2 ∷ 3 ∷ 4 ∷ [])
    ≡ (0 ∷ 0 ∷ minus_zero ∷ []) ∷ (1 ∷ 1 ∷ num 9 ∷ []) ∷ (1 ∷ 1 ∷ num 9 ∷ []) ∷ (1 ∷ 1 ∷ num 9 ∷ []) ∷ (1 ∷ 1 ∷ num 9 ∷ []) ∷ []
unfolding GatherRows-defs
first_slot_alone = refl

-- NaN is no value; with infinity alone something is seen and nothing is finite
pub nothing_enters : map (after Sum 30 1) (2 ∷ 3 ∷ 4 ∷ []) ≡ (0 ∷ 0 ∷ minus_zero ∷ []) ∷ (0 ∷ 0 ∷ minus_zero ∷ []) ∷ (1 ∷ 0 ∷ minus_zero ∷ []) ∷ []
unfolding GatherRows-defs
nothing_enters = refl

-- each function, from all slots
pub each_function :
    map (λ (f : ConsolidationFn). after f 30 0 4) (Average ∷ Min ∷ Max ∷ Last ∷ Sum ∷ Count ∷ [])
    ≡ (3 ∷ 2 ∷ num 5 ∷ []) ∷ (3 ∷ 2 ∷ num 1 ∷ []) ∷ (3 ∷ 2 ∷ num 4 ∷ []) ∷ (3 ∷ 2 ∷ num 4 ∷ []) ∷ (3 ∷ 2 ∷ num 5 ∷ []) ∷ (3 ∷ 2 ∷ minus_zero ∷ []) ∷ []
unfolding GatherRows-defs
each_function = refl

-- four slots of four are all different, five are not; one slot that comes again, at once or later; none
pub slots_differ :
    map different (walk 4 2 4 ∷ walk 4 2 5 ∷ (2 ∷ 3 ∷ 3 ∷ []) ∷ (2 ∷ 3 ∷ 2 ∷ []) ∷ [] ∷ []) ≡ true ∷ false ∷ false ∷ false ∷ true ∷ []
unfolding Cases-defs absent different
slots_differ = refl
