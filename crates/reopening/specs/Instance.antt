-- The claim on opening, on cases, by computation: a history whose flag an opening changes, and nothing else; what the claim does not hold of; what the request's
-- own words ask; what both statements say of such histories. Assumes nothing.
use Rattle.std.specs.Prelude.{ℕ, zero, suc, ◌<◌, ◌≡◌, refl, true, false, List, [], ◌∷◌, map, take, drop, replicate, T, Some}
use Rattle.std.proofs.Common.{subst, arith}
use Rattle.model.specs.Bytes.{put}
use Rattle.model.specs.Image.{schemas, create_check}
use Rattle.model.specs.Ring.{first_place}
use Rattle.model.specs.Lent.{Lent, ring}
use Rattle.model.specs.Record.{Entry}
use Rattle.model.specs.Store.{Call, record_call, batch_call, query_call, auto_call, consolidate_call, open_call, call, after, replies, Shown, refusal, accepted, writes, points, shown}
use Rattle.demand.specs.Demand.{Demand-defs, handed_out}
use Rattle.model.specs.Cases.{Cases-defs, tier_of, plan, plan_of, num, infinity, ring10, two, rec, end64, everything, at}
use Rattle.reopening.specs.Reopening.{Reopening-defs, History, created, left, reopened, OpeningChangesNothing, stamps_of, in_step, finest, AsRequested}

-- ---- a flag that an opening changes, and nothing else

-- three slots, an interval skipped: the second sample goes back to slot 0 and wraps, the third ends in slot 1, and slot 2 has none
unfoldable pub gap : History
gap = record {
  plan = plan (ring10 3);
  buf = replicate 300 9;
  flags = replicate 32 true;
  calls = rec 10 1 ∷ rec 30 2 ∷ rec 40 3 ∷ [];
  handed = true ∷ replicate 31 false;
}

-- ten into thirty: a stamp out of order, an opening, a refused sample, two more; the ring has wrapped, and no slot above the cursor has a stamp
unfoldable pub mixed : History
mixed = record {
  plan = plan two;
  buf = replicate 700 9;
  flags = replicate 32 false;
  calls = rec 40 1 ∷ rec 30 2 ∷ open_call [] ∷ record_call 0 0 infinity 50 ∷ rec 50 3 ∷ rec 60 5 ∷ [];
  handed = replicate 32 false;
}

-- the calls that follow
unfoldable pub next : List Call
next = everything 0 ∷ rec 70 6 ∷ consolidate_call ∷ auto_call 0 0 30 60 ∷ record_call 0 7 0 0 ∷ open_call [] ∷ everything 1 ∷ []

unfoldable pub Instance-defs : Unit {0}
unfolding Cases-defs Demand-defs Reopening-defs gap mixed next
Instance-defs = tt

pub plans_accepted : create_check gap.plan gap.buf ∷ create_check mixed.plan mixed.buf ∷ [] ≡ 0 ∷ 0 ∷ []
unfolding Instance-defs
plans_accepted = refl

-- the flag is another, and the reader stands elsewhere: the claim goes by what is seen of an answer
pub flag_changes :
    (take 1 (left gap).flags ≡ true ∷ []) × (take 1 (reopened gap).flags ≡ false ∷ [])
    × (first_place (ring (left gap) 0) ≡ record { slot = 2; left = 3 }) × (first_place (ring (reopened gap) 0) ≡ record { slot = 0; left = 2 })
unfolding Instance-defs
flag_changes = (refl, refl, refl, refl)

-- past the row the flags are those that creation was lent, and after the opening those that it was handed
pub past_the_row : drop 1 (left gap).flags ∷ drop 1 (reopened gap).flags ∷ [] ≡ replicate 31 true ∷ replicate 31 false ∷ []
unfolding Instance-defs
past_the_row = refl

pub answer_stays :
    (shown (call (left gap) (everything 0)).reply ≡ points 0 (Some 30) (Some 40) 0 end64 true (at 30 2 ∷ at 40 3 ∷ []))
    × (shown (call (reopened gap) (everything 0)).reply ≡ points 0 (Some 30) (Some 40) 0 end64 true (at 30 2 ∷ at 40 3 ∷ []))
unfolding Instance-defs
answer_stays = (refl, refl)

-- what they answer: 5.5 is the mean of 5 and 6
unfoldable pub answers : List Shown
answers =
    points 0 (Some 30) (Some 60) 0 end64 true (at 30 2 ∷ at 40 1 ∷ at 50 3 ∷ at 60 5 ∷ []) ∷ accepted ∷ writes 2
    ∷ points 0 (Some 30) (Some 70) 30 60 false (at 30 2 ∷ at 40 1 ∷ at 50 3 ∷ []) ∷ refusal 11 ∷ accepted
    ∷ points 1 (Some 30) (Some 60) 0 end64 true (at 30 2 ∷ record { stamp = 60; value = 0x4016_0000_0000_0000 } ∷ []) ∷ []

pub mixed_flags : take 2 (left mixed).flags ∷ take 2 (reopened mixed).flags ∷ [] ≡ (true ∷ false ∷ []) ∷ (false ∷ false ∷ []) ∷ []
unfolding Instance-defs
mixed_flags = refl

pub mixed-left : map shown (replies (left mixed) next) ≡ answers
unfolding Instance-defs answers
mixed-left = refl

pub mixed-reopened : map shown (replies (reopened mixed) next) ≡ answers
unfolding Instance-defs answers
mixed-reopened = refl

-- ---- what the claim does not hold of

-- flags that are not as left: four slots, 10 to 50, the flag lent false. Reading gives 40 and 50, and after opening 20 to 50
unfoldable pub lapped : Lent
lapped = after (created (record { plan = plan (ring10 4); buf = replicate 300 9; flags = []; calls = []; handed = [] })) (rec 10 1 ∷ rec 20 2 ∷ rec 30 3 ∷ rec 40 4 ∷ rec 50 5 ∷ [])

pub flags_otherwise :
    (shown (call (record { image = lapped.image; flags = false ∷ [] }) (everything 0)).reply ≡ points 0 (Some 40) (Some 50) 0 end64 true (at 40 4 ∷ at 50 5 ∷ []))
    × (shown (call (call lapped (open_call [])).lent (everything 0)).reply ≡ points 0 (Some 20) (Some 50) 0 end64 true (at 20 2 ∷ at 30 3 ∷ at 40 4 ∷ at 50 5 ∷ []))
unfolding Instance-defs lapped
flags_otherwise = (refl, refl)

-- bytes that nobody here wrote: a value in slot 2, which has no stamp, of the store that is left by `gap`. It is read before the opening, under stamp 0
unfoldable pub poked : Lent
poked = record { image = put 8 (left gap).image 208 (num 7); flags = (left gap).flags }

pub bytes_otherwise :
    (shown (call poked (everything 0)).reply ≡ points 0 (Some 30) (Some 40) 0 end64 true (at 0 7 ∷ at 30 2 ∷ at 40 3 ∷ []))
    × (shown (call (call poked (open_call [])).lent (everything 0)).reply ≡ points 0 (Some 30) (Some 40) 0 end64 true (at 30 2 ∷ at 40 3 ∷ []))
unfolding Instance-defs poked
bytes_otherwise = (refl, refl)

-- ---- the request's own words

-- in time order with no interval skipped: the same interval twice, the next one, its last nanosecond; a stamp twice; no sample, one. Not: one skipped, a lower
-- stamp
pub in_step_lem :
    map (in_step 10) ((10 ∷ 15 ∷ 29 ∷ 30 ∷ []) ∷ (10 ∷ 10 ∷ []) ∷ [] ∷ (70 ∷ []) ∷ (10 ∷ 30 ∷ []) ∷ (19 ∷ 30 ∷ []) ∷ (25 ∷ 24 ∷ []) ∷ (10 ∷ 20 ∷ 10 ∷ []) ∷ [])
    ≡ true ∷ true ∷ true ∷ true ∷ false ∷ false ∷ false ∷ false ∷ []
unfolding Instance-defs
in_step_lem = refl

-- two schemas, the first with two tiers: the stamps of accepted recordings, each to the finest ring of its schema; a batch for both counts once for each, an empty
-- one for none
unfoldable pub pair_of : Lent
pair_of =
    created (record {
      plan = plan_of 2 (tier_of 0 0 10 30 0 2 ∷ tier_of 0 1 30 60 1 2 ∷ tier_of 1 0 20 40 0 2 ∷ []);
      buf = replicate 700 9;
      flags = [];
      calls = [];
      handed = [];
    })

unfoldable pub entry : ℕ → ℕ → Entry
entry k c = record { schema = k; column = c; value = num 1 }

unfoldable pub written : List Call
written =
    record_call 1 0 (num 1) 40 ∷ record_call 0 0 infinity 50 ∷ batch_call (entry 0 0 ∷ entry 1 1 ∷ entry 0 1 ∷ []) 60 ∷ batch_call [] 70 ∷ batch_call (entry 0 0 ∷ entry 2 0 ∷ []) 75
    ∷ record_call 0 1 (num 1) 0 ∷ record_call 0 1 (num 1) 80 ∷ open_call [] ∷ query_call 0 0 0 60 90 ∷ auto_call 0 0 60 90 ∷ consolidate_call ∷ []

pub stamps_are : stamps_of 0 pair_of written ∷ stamps_of 1 pair_of written ∷ (finest 0 pair_of ∷ finest 1 pair_of ∷ []) ∷ [] ≡ (60 ∷ 80 ∷ []) ∷ (40 ∷ 60 ∷ []) ∷ (10 ∷ 20 ∷ []) ∷ []
unfolding Instance-defs pair_of entry written
stamps_are = refl

-- an old sample is refused, and leaves no stamp (request 2026-05): 10 after 40 in a ring of three slots, where both have slot 1; the list is in step
pub old_leaves_none : stamps_of 0 (created gap) (rec 20 1 ∷ rec 30 2 ∷ rec 40 3 ∷ rec 10 4 ∷ rec 50 5 ∷ []) ≡ 20 ∷ 30 ∷ 40 ∷ 50 ∷ []
unfolding Instance-defs
old_leaves_none = refl

-- case L's history meets them
unfoldable pub case_l : History
case_l = record {
  plan = plan (ring10 10);
  buf = replicate 408 9;
  flags = [];
  calls = rec 50 1 ∷ rec 60 2 ∷ rec 70 3 ∷ rec 80 4 ∷ rec 90 5 ∷ rec 100 6 ∷ rec 110 7 ∷ [];
  handed = [];
}

pub case_l_lem : (create_check case_l.plan case_l.buf ≡ 0) × T (in_step (finest 0 (created case_l)) (stamps_of 0 (created case_l) case_l.calls))
unfolding Instance-defs case_l
case_l_lem = (refl, tt)

-- ---- the statements reach these histories: their suppositions, and no others, are met there, and they promise what is written here

gap_accepted : create_check gap.plan gap.buf ≡ 0
unfolding Instance-defs
gap_accepted = refl

pub reaches :
    OpeningChangesNothing
    → ((after (reopened gap) next).image ≡ (after (left gap) next).image)
    × (shown (call (after (reopened gap) next) (everything 0)).reply ≡ shown (call (after (left gap) next) (everything 0)).reply)
unfolding OpeningChangesNothing
reaches claim = ((claim gap gap_accepted next).0, (claim gap gap_accepted next).1 (everything 0))

one_schema : schemas case_l.plan ≡ 1
unfolding Instance-defs case_l
one_schema = refl

steps : (k : ℕ) → k < schemas case_l.plan → T (in_step (finest k (created case_l)) (stamps_of k (created case_l) case_l.calls))
steps zero h = case_l_lem.1
steps (suc k) h = absurd (omega (arith, subst (λ (n : ℕ). suc k < n) one_schema h))

pub reaches_request : AsRequested → handed_out (call (reopened case_l) (everything 0)).reply ≡ handed_out (call (left case_l) (everything 0)).reply
unfolding AsRequested
reaches_request asked = asked case_l case_l_lem.0 steps (everything 0)
