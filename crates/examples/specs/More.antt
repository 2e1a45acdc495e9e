-- Sentences of document 01 that the cases A to L leave untried, as rows of the same kind, by computation. Assumes nothing.
use Rattle.std.specs.Prelude.{ℕ, ◌≡◌, refl, true, false, List, [], ◌∷◌, ◌++◌, replicate, pos, Some, None}
use Rattle.model.specs.declared.Row.{Row}
use Rattle.std.specs.Float.{binary64}
use Rattle.std.specs.Float.Ieee.{of_bits}
use Rattle.model.specs.declared.Stepped.{Stepped}
use Rattle.model.specs.declared.ConsolidationFn.TheVariants.{Average, Min, Max, Last, Sum, Count}
use Rattle.model.specs.Bytes.{bytes, put}
use Rattle.model.specs.Layout.{fresh_value}
use Rattle.model.specs.Image.{plan_check, open_check}
use Rattle.model.specs.Ring.{write, stamp, cell}
use Rattle.model.specs.Read.{step}
use Rattle.model.specs.Lent.{Lent, creation, opening, ring}
use Rattle.demand.specs.Demand.{Demand-defs, within}
use Rattle.model.specs.Record.{Entry, entries}
use Rattle.model.specs.Store.{Call, call, record_call, batch_call, query_call, auto_call, consolidate_call, open_call, refused, done, refusal, writes, points}
use Rattle.model.specs.Cases.{Cases-defs, tier_of, tier, plan_of, plan, num, infinity, story, window, Result, last, value, empty, nothingFinite, Case, ◌gives◌, Holds, ring10, rec, end64, everything, at, last_call, shown_on}

unfoldable pub both : ℕ → ℕ → ℕ → Call
both t a b = batch_call (record { schema = 0; column = 0; value = a } ∷ record { schema = 0; column = 1; value = b } ∷ []) t

-- ---- one schema: rows as in Cases

-- 10 for 30 into 30 for 90, two windows consolidated
unfoldable pub covering : List Call
covering = rec 30 1 ∷ rec 40 2 ∷ rec 50 6 ∷ consolidate_call ∷ rec 60 5 ∷ rec 70 7 ∷ rec 80 9 ∷ consolidate_call ∷ []

unfoldable pub small : List Row
small = tier 0 10 30 0 ∷ tier 1 30 90 1 ∷ []

-- 10 for 20 into 20 for 40, by function f
unfoldable pub by : ℕ → List Row
by f = tier 0 10 20 0 ∷ tier 1 20 40 f ∷ []

unfoldable pub rows : List Case
rows =
    -- other columns' cells stay
    (story (ring10 4) (rec 10 1 ∷ record_call 0 1 (num 5) 10 ∷ everything 0 ∷ []) gives last (false ∷ []) (0 ∷ []) (points 0 (Some 10) (Some 10) 0 end64 true (at 10 1 ∷ [])))
    -- a column named twice keeps its last value
    ∷ (story (ring10 4) (batch_call (record { schema = 0; column = 0; value = num 1 } ∷ record { schema = 0; column = 0; value = num 2 } ∷ []) 10 ∷ everything 0 ∷ [])
    gives last (false ∷ []) (0 ∷ []) (points 0 (Some 10) (Some 10) 0 end64 true (at 10 2 ∷ [])))
    -- minus infinity is infinite
    ∷ (story (ring10 4) (record_call 0 0 0xfff0_0000_0000_0000 10 ∷ []) gives last (false ∷ []) (0 ∷ []) (refusal 12))
    -- an empty ring lacks both ends; the automatic choice is then tier 0
    ∷ (story small (auto_call 0 0 5 9 ∷ []) gives last (false ∷ false ∷ []) (0 ∷ 0 ∷ []) (points 0 None None 5 9 true []))
    -- the first tier that fully covers, else the last with both ends
    ∷ (story small (covering ++ auto_call 0 0 60 80 ∷ []) gives last (true ∷ false ∷ []) (80 ∷ 0 ∷ []) (points 0 (Some 60) (Some 80) 60 80 false (at 60 5 ∷ at 70 7 ∷ [])))
    ∷ (story small (covering ++ auto_call 0 0 30 60 ∷ []) gives last (true ∷ false ∷ []) (80 ∷ 0 ∷ []) (points 1 (Some 30) (Some 60) 30 60 false (at 30 3 ∷ [])))
    ∷ (story small (covering ++ auto_call 0 0 30 81 ∷ []) gives last (true ∷ false ∷ []) (80 ∷ 0 ∷ []) (points 1 (Some 30) (Some 60) 30 81 false (at 30 3 ∷ at 60 7 ∷ [])))
    -- D reopened is wrapped; a ring of one slot is not
    ∷ (story (ring10 4) (rec 10 1 ∷ rec 20 2 ∷ rec 30 3 ∷ rec 40 4 ∷ open_call (replicate 32 false) ∷ everything 0 ∷ [])
    gives last (true ∷ []) (0 ∷ []) (points 0 (Some 10) (Some 40) 0 end64 true (at 10 1 ∷ at 20 2 ∷ at 30 3 ∷ at 40 4 ∷ [])))
    ∷ (story (ring10 1) (rec 10 1 ∷ rec 20 2 ∷ open_call (replicate 32 true) ∷ everything 0 ∷ []) gives last (false ∷ []) (0 ∷ []) (points 0 (Some 20) (Some 20) 0 end64 true (at 20 2 ∷ [])))
    -- the count is of writes, not of windows
    ∷ (story (by 1) (both 20 (num 1) (num 2) ∷ both 30 (num 3) (num 4) ∷ consolidate_call ∷ []) gives last (false ∷ false ∷ []) (30 ∷ 0 ∷ []) (writes 2))
    -- each function by its number: Min, Max, Last, Sum, Count of 3 and 2
    ∷ (story (by 2) (rec 20 3 ∷ rec 30 2 ∷ consolidate_call ∷ everything 1 ∷ []) gives last (false ∷ false ∷ []) (30 ∷ 0 ∷ []) (points 1 (Some 20) (Some 20) 0 end64 true (at 20 2 ∷ [])))
    ∷ (story (by 3) (rec 20 3 ∷ rec 30 2 ∷ consolidate_call ∷ everything 1 ∷ []) gives last (false ∷ false ∷ []) (30 ∷ 0 ∷ []) (points 1 (Some 20) (Some 20) 0 end64 true (at 20 3 ∷ [])))
    ∷ (story (by 4) (rec 20 3 ∷ rec 30 1 ∷ consolidate_call ∷ everything 1 ∷ []) gives last (false ∷ false ∷ []) (30 ∷ 0 ∷ []) (points 1 (Some 20) (Some 20) 0 end64 true (at 20 1 ∷ [])))
    ∷ (story (by 5) (rec 20 3 ∷ rec 30 2 ∷ consolidate_call ∷ everything 1 ∷ []) gives last (false ∷ false ∷ []) (30 ∷ 0 ∷ []) (points 1 (Some 20) (Some 20) 0 end64 true (at 20 5 ∷ [])))
    ∷ (story (by 6) (rec 20 3 ∷ rec 30 3 ∷ consolidate_call ∷ everything 1 ∷ []) gives last (false ∷ false ∷ []) (30 ∷ 0 ∷ []) (points 1 (Some 20) (Some 20) 0 end64 true (at 20 2 ∷ [])))
    -- 12 from a write: column 1's sum overflows; column 0's write stays, the mark does not move
    ∷ (story (by 5) (both 20 (num 1) 0x7fef_ffff_ffff_ffff ∷ both 30 (num 1) 0x7fef_ffff_ffff_ffff ∷ consolidate_call ∷ []) gives last (false ∷ false ∷ []) (0 ∷ 0 ∷ []) (refusal 12))
    ∷ (story (by 5) (both 20 (num 1) 0x7fef_ffff_ffff_ffff ∷ both 30 (num 1) 0x7fef_ffff_ffff_ffff ∷ consolidate_call ∷ everything 1 ∷ [])
    gives last (false ∷ false ∷ []) (0 ∷ 0 ∷ []) (points 1 (Some 20) (Some 20) 0 end64 true (at 20 2 ∷ [])))
    -- 16 in the second pair: the first pair's mark stays
    ∷ (story (tier 0 10 20 0 ∷ tier 1 20 20 1 ∷ tier 2 40 40 0 ∷ []) (rec 20 1 ∷ consolidate_call ∷ []) gives last (false ∷ false ∷ false ∷ []) (20 ∷ 0 ∷ 0 ∷ []) (refusal 16))
    -- a window's answer: the functions, zeros, non-finite values dropped, no value
    ∷ (window Sum (0x8000_0000_0000_0000 ∷ []) gives value 0x8000_0000_0000_0000)
    ∷ (window Min (num 0 ∷ 0x8000_0000_0000_0000 ∷ []) gives value 0)
    ∷ (window Max (0x8000_0000_0000_0000 ∷ num 0 ∷ []) gives value 0x8000_0000_0000_0000)
    ∷ (window Min (num 2 ∷ num 1 ∷ num 4 ∷ []) gives value (num 1))
    ∷ (window Max (num 2 ∷ num 4 ∷ num 1 ∷ []) gives value (num 4))
    ∷ (window Last (num 1 ∷ num 4 ∷ infinity ∷ []) gives value (num 4))
    ∷ (window Count (num 1 ∷ infinity ∷ fresh_value ∷ []) gives value (num 1))
    ∷ (window Average (num 5 ∷ infinity ∷ fresh_value ∷ []) gives value (num 5))
    ∷ (window Count (infinity ∷ []) gives nothingFinite)
    ∷ (window Average (fresh_value ∷ []) gives empty)
    ∷ []

pub every-row : Holds rows
unfolding Cases-defs both covering small by rows
every-row = (refl, (refl, (refl, (refl, (refl, (refl, (refl, (refl, (refl, (refl, (refl, (refl, (refl, (refl, (refl, (refl, (refl, (refl, (refl, (refl, (refl, (refl, (refl, (refl, (refl, (refl, (refl, (refl, tt))))))))))))))))))))))))))))

-- ---- several schemas: schema 1 has two tiers after schema 0's one

unfoldable pub schemas2 : Lent
schemas2 =
    creation (plan_of 2 (tier_of 0 0 10 20 0 2 ∷ tier_of 1 0 10 20 0 2 ∷ tier_of 1 1 20 20 1 2 ∷ []))
    (record { image = replicate 600 0; flags = replicate 32 true })

unfoldable pub entry_of : ℕ → ℕ → ℕ → Entry
entry_of k c v = record { schema = k; column = c; value = v }

-- what a list of calls shows at its end
unfoldable pub ends : List Call → Result
ends cs = shown_on (last_call (record { reply = done; lent = schemas2 }) cs)

-- a batch over both schemas; a run touches schema 1's pair alone; a refused batch stores nothing
pub over-both : ends (batch_call (entry_of 1 0 (num 4) ∷ entry_of 0 0 (num 3) ∷ []) 20 ∷ query_call 1 0 0 0 end64 ∷ [])
    ≡ last (false ∷ false ∷ false ∷ []) (0 ∷ 0 ∷ 0 ∷ []) (points 0 (Some 20) (Some 20) 0 end64 true (at 20 4 ∷ []))
unfolding Cases-defs schemas2 entry_of ends
over-both = refl

pub run-over-both : ends (batch_call (entry_of 1 0 (num 4) ∷ entry_of 0 0 (num 3) ∷ []) 20 ∷ consolidate_call ∷ [])
    ≡ last (false ∷ false ∷ false ∷ []) (0 ∷ 20 ∷ 0 ∷ []) (writes 1)
unfolding Cases-defs schemas2 entry_of ends
run-over-both = refl

pub half_refused : call schemas2 (batch_call (entry_of 0 0 (num 3) ∷ entry_of 1 0 infinity ∷ []) 20) ≡ record { reply = refused 12; lent = schemas2 }
unfolding Cases-defs schemas2 entry_of
half_refused = refl

-- ---- creation, to the byte: one slot, two series; later bytes and flags past R stay

unfoldable pub tiny : Lent
tiny = creation (plan (tier 0 10 10 0 ∷ [])) (record { image = replicate 200 9; flags = replicate 32 true })

pub tiny-is :
    (tiny.image
    ≡ (0x52 ∷ 0x53 ∷ 0x54 ∷ 0x4f ∷ []) ++ bytes 4 1 ++ bytes 4 1 ++ bytes 4 1 ++ bytes 8 192 ++ replicate 8 0
    ++ bytes 4 0 ++ bytes 4 0 ++ bytes 8 10 ++ bytes 8 10 ++ bytes 4 0 ++ bytes 4 2 ++ bytes 8 96 ++ bytes 8 96 ++ bytes 8 0 ++ bytes 8 7
    ++ (0x52 ∷ 0x4e ∷ 0x44 ∷ 0x4f ∷ []) ++ bytes 4 1 ++ bytes 8 7 ++ bytes 4 1 ++ bytes 4 2 ++ bytes 8 10 ++ replicate 32 0
    ++ replicate 8 255 ++ replicate 8 0 ++ bytes 8 0x7ff8_0000_0000_0000 ++ bytes 8 0x7ff8_0000_0000_0000 ++ replicate 8 9)
    × (tiny.flags ≡ false ∷ replicate 31 true)
unfolding Cases-defs tiny
tiny-is = (refl, refl)

-- NaN is stored with its bits; a ring's write with no values stores the stamp
pub nan_bits : cell (ring (call tiny (record_call 0 1 0x7ff8_0000_0000_1234 10)).lent 0).slab 1 0 ≡ 0x7ff8_0000_0000_1234
unfolding Cases-defs tiny
nan_bits = refl

pub empty-write : stamp (write (ring tiny 0) [] 70).slab 0 ≡ 70
unfolding Cases-defs tiny
empty-write = refl

-- ---- entries as lent: 33 bytes are two entries; opening's order; 8's edge

pub two-entries : entries (bytes 4 1 ++ bytes 4 2 ++ bytes 8 3 ++ bytes 4 4 ++ bytes 4 5 ++ bytes 8 6 ++ 7 ∷ []) ≡ entry_of 1 2 3 ∷ entry_of 4 5 6 ∷ []
unfolding Cases-defs entry_of
two-entries = refl

-- interval 0 and a wrong total: 4; a wrong total and a wrong slab: 1; function 7 and interval 0: 1
pub opening-order :
    open_check (put 8 (put 8 tiny.image 40 0) 16 1) ∷ open_check (put 4 (put 8 tiny.image 16 1) 96 0) ∷ open_check (put 4 (put 8 tiny.image 40 0) 56 7) ∷ []
    ≡ 4 ∷ 1 ∷ 1 ∷ []
unfolding Cases-defs tiny
opening-order = refl

-- 886,702,925 slots of 154 series are an image of exactly 2^40 bytes
pub layout_edge : plan_check (plan (tier_of 0 0 1 886_702_925 0 154 ∷ [])) ∷ plan_check (plan (tier_of 0 0 1 886_702_926 0 154 ∷ [])) ∷ [] ≡ 0 ∷ 8 ∷ []
unfolding Cases-defs
layout_edge = refl

-- opening leaves the flags past R, and reads no more of a place than its slab has: with two slots left of one the reader is at its end
pub opened_flags : (opening (record { image = tiny.image; flags = replicate 32 true })).flags ≡ false ∷ replicate 31 true
unfolding Cases-defs tiny
opened_flags = refl

unfoldable pub step_with : ℕ → Stepped
step_with k = step (ring (call tiny (record_call 0 1 (num 3) 10)).lent 0).slab 1 0 end64 (record { slot = 0; left = k })

pub slots-left : ((step_with 1).next ≡ Some (at 10 3)) × ((step_with 2).next ≡ None)
unfolding Cases-defs tiny step_with
slots-left = (refl, refl)

-- ---- the third demand's distance: 1/3 rounded once is not 1/3, but within 1/4,096

pub a-third : within 0 (of_bits binary64 0x3fd5_5555_5555_5555) (pos 1) 3 ∷ within 1 (of_bits binary64 0x3fd5_5555_5555_5555) (pos 1) 3 ∷ [] ≡ false ∷ true ∷ []
unfolding Cases-defs Demand-defs
a-third = refl

-- of a mean of 2 at tier 2: 2/4,096 off is within the bound, 3/4,096 is not
pub at_the_bound : within 2 (of_bits binary64 0x4000_0100_0000_0000) (pos 2) 1 ∷ within 2 (of_bits binary64 0x4000_0180_0000_0000) (pos 2) 1 ∷ [] ≡ true ∷ false ∷ []
unfolding Cases-defs Demand-defs
at_the_bound = refl
