-- The claim that histories in time order behave as before, on cases, by computation: a list that meets what it supposes; how order is judged; that both
-- suppositions are needed; what a run passes over. Assumes nothing.
use Rattle.std.specs.Prelude.{ℕ, ◌≡◌, refl, Bool, true, false, List, [], ◌∷◌, map, take, replicate, T, Some}
use Rattle.model.specs.Bytes.{put}
use Rattle.model.specs.Image.{rows, row_count, slab_of, create_check}
use Rattle.model.specs.Ring.{stamp}
use Rattle.model.specs.Lent.{Lent, creation}
use Rattle.model.specs.Record.{Entry}
use Rattle.model.specs.Consolidate.{run}
use Rattle.model.specs.Store.{Call, record_call, batch_call, query_call, consolidate_call, open_call, call, after, replies, Shown, refusal, accepted, writes, points, shown}
use Rattle.model.specs.Cases.{Cases-defs, tier_of, plan_of, ring10, plan, num, infinity, rec, end64, everything, at}
use Rattle.reopening.specs.Reopening.{Reopening-defs}
use Rattle.as_before.specs.Before as Before
use Rattle.as_before.specs.Before.{Before-defs}
use Rattle.as_before.specs.AsBefore.{AsBefore-defs, stamps_of, in_order, no_run_refused, passed_over, NonePassedOver}

unfoldable pub entry : ℕ → ℕ → Entry
entry k v = record { schema = k; column = 0; value = num v }

-- a store as created, in a slice of n bytes
unfoldable pub made : ℕ → List ℕ → Lent
made n p = creation p (record { image = replicate n 9; flags = replicate 32 true })

-- both suppositions
pub record Supposed : Type 0 where
  pub order : Bool
  pub none_refused : Bool

unfoldable pub supposed : Lent → List Call → Supposed
supposed l cs = record { order = in_order l cs; none_refused = no_run_refused Before.call l cs }

-- the rows' flags and marks, and every ring's first two stamps
pub record Left : Type 0 where
  pub flags : List Bool
  pub marks : List ℕ
  pub stamps : List (List ℕ)

unfoldable pub left_in : Lent → Left
left_in l = record {
  flags = take (row_count l.image) l.flags;
  marks = map (λ x. x.mark) (rows l.image);
  stamps = map (λ x. stamp (slab_of l.image x) 0 ∷ stamp (slab_of l.image x) 1 ∷ []) (rows l.image);
}

-- ---- a list that meets the suppositions

-- two schemas of one column: 10 into 20, three slots and two; 10, two slots
unfoldable pub mixed_plan : List ℕ
mixed_plan = plan_of 2 (tier_of 0 0 10 30 0 1 ∷ tier_of 0 1 20 40 1 1 ∷ tier_of 1 0 10 20 0 1 ∷ [])

unfoldable pub mixed : Lent
mixed = made 540 mixed_plan

-- stamps of the two schemas cross; a batch over both; an opening with few flags, all wrong; a refused sample, below the others; a run before and after a sample
unfoldable pub calls : List Call
calls =
    rec 20 1 ∷ record_call 1 0 (num 5) 10 ∷ batch_call (entry 0 3 ∷ entry 1 7 ∷ []) 30 ∷ open_call (false ∷ true ∷ []) ∷ record_call 0 0 infinity 5 ∷ consolidate_call ∷ rec 40 4
    ∷ consolidate_call ∷ everything 1 ∷ query_call 1 0 0 0 end64 ∷ []

-- the window at 20 has the mean of 1 and 3
unfoldable pub answers : List Shown
answers =
    accepted ∷ accepted ∷ accepted ∷ accepted ∷ refusal 12 ∷ writes 1 ∷ accepted ∷ writes 2
    ∷ points 1 (Some 20) (Some 40) 0 end64 true (at 20 2 ∷ at 40 4 ∷ []) ∷ points 0 (Some 30) (Some 30) 0 end64 true (at 30 7 ∷ []) ∷ []

unfoldable pub Instance-defs : Unit {0}
unfolding Cases-defs Reopening-defs Before-defs AsBefore-defs entry made supposed left_in mixed_plan mixed calls answers
Instance-defs = tt

pub plan_accepted : create_check mixed_plan (replicate 540 9) ≡ 0
unfolding Instance-defs
plan_accepted = refl

pub supposed-is : supposed mixed calls ≡ record { order = true; none_refused = true }
unfolding Instance-defs
supposed-is = refl

pub answers_are : map shown (replies mixed calls) ≡ answers
unfolding Instance-defs
answers_are = refl

pub answers_were : map shown (Before.replies mixed calls) ≡ answers
unfolding Instance-defs
answers_were = refl

unfoldable pub mixed_left : Left
mixed_left = record { flags = true ∷ true ∷ false ∷ []; marks = 40 ∷ 0 ∷ 0 ∷ []; stamps = (30 ∷ 40 ∷ []) ∷ (40 ∷ 20 ∷ []) ∷ (0 ∷ 30 ∷ []) ∷ [] }

pub left_is : left_in (after mixed calls) ≡ mixed_left
unfolding Instance-defs mixed_left
left_is = refl

pub left_was : left_in (Before.after mixed calls) ≡ mixed_left
unfolding Instance-defs mixed_left
left_was = refl

pub mixed_in_order : T (in_order mixed calls)
unfolding Instance-defs
mixed_in_order = tt

pub mixed_none_refused : T (no_run_refused Before.call mixed calls)
unfolding Instance-defs
mixed_none_refused = tt

-- ---- how order is judged

-- schema by schema, by the recordings that pass the rules before 18: a batch counts for each schema it has entries for, once; an empty one for none, nor one
-- that is refused
unfoldable pub recordings : List Call
recordings =
    rec 50 1 ∷ record_call 1 0 (num 1) 20 ∷ batch_call (entry 0 1 ∷ entry 1 1 ∷ entry 0 2 ∷ []) 60 ∷ batch_call [] 10 ∷ batch_call (entry 0 1 ∷ entry 2 1 ∷ []) 10 ∷ record_call 0 1 0 10
    ∷ record_call 0 0 infinity 10 ∷ rec 0 1 ∷ rec 60 2 ∷ record_call 1 0 (num 1) 61 ∷ []

pub stamps_are : stamps_of 0 mixed recordings ∷ stamps_of 1 mixed recordings ∷ [] ≡ (50 ∷ 60 ∷ 60 ∷ []) ∷ (20 ∷ 60 ∷ 61 ∷ []) ∷ []
unfolding Instance-defs recordings
stamps_are = refl

-- not: a lower stamp, though its slot is another and it is no old sample; after a batch, of the schema that its first entry names, or its last; of the second
-- schema
pub orders_are :
    map (in_order mixed) (recordings ∷ [] ∷ (rec 50 1 ∷ rec 40 1 ∷ []) ∷ (batch_call (entry 1 1 ∷ entry 0 1 ∷ []) 60 ∷ record_call 1 0 (num 1) 50 ∷ [])
    ∷ (batch_call (entry 0 1 ∷ entry 1 1 ∷ []) 60 ∷ record_call 1 0 (num 1) 50 ∷ []) ∷ (record_call 1 0 (num 1) 50 ∷ rec 60 1 ∷ record_call 1 0 (num 1) 40 ∷ []) ∷ [])
    ≡ true ∷ true ∷ false ∷ false ∷ false ∷ false ∷ []
unfolding Instance-defs recordings
orders_are = refl

-- by the rules before: four slots of 10, where 10 after 50 is an old sample and was stored; what is accepted now, 50 alone, is in order
unfoldable pub four : Lent
four = made 264 (plan (ring10 4))

unfoldable pub fallen : List Call
fallen = rec 50 1 ∷ rec 10 2 ∷ []

pub fallen-is :
    (in_order four fallen ≡ false) × (in_order four (rec 50 1 ∷ []) ≡ true) × (map shown (replies four fallen) ≡ accepted ∷ refusal 18 ∷ [])
    × (map shown (Before.replies four fallen) ≡ accepted ∷ accepted ∷ [])
unfolding Instance-defs four fallen
fallen-is = (refl, refl, refl, refl)

-- ---- a refused run

-- 1 into 2, six slots and one. The windows at 2 and 4 are written, the sum of the one at 6 is infinite; then a number stands at 7. By the rules before, the
-- window at 2 was written over that at 4 again
unfoldable pub small : Lent
small = made 408 (plan (tier_of 0 0 1 6 0 1 ∷ tier_of 0 1 2 2 1 1 ∷ []))

unfoldable pub huge : ℕ
huge = 0x7fee_42d1_3077_3b76

unfoldable pub halted : List Call
halted = rec 2 1 ∷ rec 4 1 ∷ record_call 0 0 huge 6 ∷ record_call 0 0 huge 7 ∷ consolidate_call ∷ rec 7 0 ∷ []

unfoldable pub ran : List Call
ran = rec 2 1 ∷ rec 4 1 ∷ record_call 0 0 huge 6 ∷ consolidate_call ∷ rec 7 0 ∷ consolidate_call ∷ []

unfoldable pub Small-defs : Unit {0}
unfolding Instance-defs small huge halted ran
Small-defs = tt

pub halted-is : (supposed small halted ≡ record { order = true; none_refused = false }) × (no_run_refused call small halted ≡ false)
unfolding Small-defs
halted-is = (refl, refl)

pub halted-replies :
    (shown (call (after small halted) consolidate_call).reply ≡ writes 2) × (shown (Before.call (Before.after small halted) consolidate_call).reply ≡ writes 3)
unfolding Small-defs
halted-replies = (refl, refl)

-- no run is refused where 7 comes later
pub ran-is : supposed small ran ≡ record { order = true; none_refused = true }
unfolding Small-defs
ran-is = refl

-- ---- what a run passes over

-- samples in no order; the second run writes nothing
unfoldable pub backward : List Call
backward = rec 3 1 ∷ rec 5 2 ∷ consolidate_call ∷ rec 4 3 ∷ rec 2 4 ∷ consolidate_call ∷ rec 6 5 ∷ []

-- after the refused run, one write; from creation none; none after runs that were not refused; none, whatever the order of the samples
pub passed_are : passed_over (after small halted) ∷ passed_over small ∷ passed_over (after small ran) ∷ passed_over (after small backward) ∷ [] ≡ 1 ∷ 0 ∷ 0 ∷ 0 ∷ []
unfolding Small-defs backward
passed_are = refl

pub backward-is : (in_order small backward ≡ false) × (no_run_refused call small backward ≡ true) × (shown (call (after small backward) consolidate_call).reply ≡ writes 2)
unfolding Small-defs backward
backward-is = (refl, refl, refl)

small_accepted : create_check (plan (tier_of 0 0 1 6 0 1 ∷ tier_of 0 1 2 2 1 1 ∷ [])) (replicate 408 9) ≡ 0
unfolding Small-defs
small_accepted = refl

backward_none_refused : T (no_run_refused call small backward)
unfolding Small-defs backward
backward_none_refused = tt

pub reaches_runs : NonePassedOver → (passed_over (after small backward) ≡ 0) × (run (after small backward) ≡ Before.run (after small backward))
unfolding NonePassedOver small made
reaches_runs claim = claim (plan (tier_of 0 0 1 6 0 1 ∷ tier_of 0 1 2 2 1 1 ∷ [])) (replicate 408 9) (replicate 32 true) small_accepted backward backward_none_refused

-- 12 and 13 come first, and end the writes: a coarser ring whose one slot holds 90, by hand. Window 30 is passed over in both columns; in the first, where the
-- second's sum is infinite; in none, where the first's is; window 0 is 13; window 90 is equal
unfoldable pub late90 : List Call → Lent
late90 cs = let l = made 448 (plan (tier_of 0 0 10 50 0 2 ∷ tier_of 0 1 30 30 1 2 ∷ [])) in after (record { image = put 8 l.image 424 90; flags = l.flags }) cs

pub tried_first : map (λ cs. passed_over (late90 cs))
    ((rec 30 1 ∷ record_call 0 1 0 40 ∷ []) ∷ (rec 30 1 ∷ record_call 0 1 huge 30 ∷ record_call 0 1 huge 40 ∷ [])
    ∷ (record_call 0 1 0 30 ∷ record_call 0 0 huge 30 ∷ record_call 0 0 huge 40 ∷ []) ∷ (rec 10 1 ∷ []) ∷ (rec 90 1 ∷ []) ∷ []) ≡ 2 ∷ 1 ∷ 0 ∷ 0 ∷ 0 ∷ []
unfolding Small-defs late90
tried_first = refl
