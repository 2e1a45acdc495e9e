-- For each clause of the third demand's supposition a plan or a list of calls that breaks it, and is refused by it; and some that meet it. By computation.
-- Assumes nothing.
use Rattle.std.specs.Prelude.{ℕ, ◌≡◌, refl, Bool, true, false, List, [], ◌∷◌, replicate}
use Rattle.model.specs.Store.{Call, record_call, consolidate_call, open_call}
use Rattle.demand.specs.Demand.{Situation, suited, supposed, history}
use Rattle.model.specs.Cases.{tier, plan, num}
use Rattle.demand.specs.Instance.{Instance-defs, both}

-- ---- plans that are not suited: one tier, five tiers, a ratio that is not whole, a ratio of 4,097, a tier that takes the least, slots that do not span two
-- coarsest intervals; and one with the ratio 4,096

unfoldable pub unsuited : List Bool
unsuited =
    suited (tier 0 10 40 0 ∷ []) ∷ suited (tier 0 1 32 0 ∷ tier 1 2 32 1 ∷ tier 2 4 32 1 ∷ tier 3 8 32 1 ∷ tier 4 16 32 1 ∷ [])
    ∷ suited (tier 0 10 50 0 ∷ tier 1 25 50 1 ∷ []) ∷ suited (tier 0 1 8194 0 ∷ tier 1 4097 8194 1 ∷ [])
    ∷ suited (tier 0 10 40 0 ∷ tier 1 20 60 2 ∷ []) ∷ suited (tier 0 10 120 0 ∷ tier 1 20 100 1 ∷ tier 2 60 120 1 ∷ [])
    ∷ suited (tier 0 1 8192 0 ∷ tier 1 4096 8192 1 ∷ []) ∷ []

pub unsuited_are : unsuited ≡ false ∷ false ∷ false ∷ false ∷ false ∷ false ∷ true ∷ []
unfolding Instance-defs unsuited
unsuited_are = refl

-- ---- lists that break the supposition

-- finest interval 10, coarsest D. What the calls did is looked at, not the plan
unfoldable pub is_supposed_at : ℕ → List Call → Bool
is_supposed_at D cs =
    let s : Situation = record { plan = plan (tier 0 10 D 0 ∷ tier 1 D D 1 ∷ []); buf = replicate 500 9; flags = replicate 32 true; before = cs; between = []; column = 0; tier = 0 } in
    supposed 10 D (history s)

unfoldable pub is_supposed : List Call → Bool
is_supposed cs = is_supposed_at 20 cs

-- a run follows each list. Good: one interval; two intervals; a run twice; a run in the middle of an interval; runs as far apart as may be, after the first
-- tick of an interval and the last of the next; a run after each tick; openings before the first sample, within a tick and on both sides of a run
unfoldable pub good : List Bool
good =
    is_supposed (both 20 (num 1) (num 2) ∷ both 30 (num 1) (num 2) ∷ [])
    ∷ is_supposed (both 20 (num 1) (num 2) ∷ both 30 (num 1) (num 2) ∷ consolidate_call ∷ both 40 (num 1) (num 2) ∷ both 50 (num 1) (num 2) ∷ [])
    ∷ is_supposed (record_call 0 1 (num 1) 20 ∷ record_call 0 1 (num 1) 30 ∷ consolidate_call ∷ [])
    ∷ is_supposed (both 20 (num 1) (num 2) ∷ consolidate_call ∷ both 30 (num 1) (num 2) ∷ [])
    ∷ is_supposed (record_call 0 1 (num 1) 20 ∷ consolidate_call ∷ record_call 0 1 (num 1) 30 ∷ record_call 0 1 (num 1) 40 ∷ record_call 0 1 (num 1) 50 ∷ [])
    ∷ is_supposed (record_call 0 1 (num 1) 20 ∷ consolidate_call ∷ record_call 0 1 (num 1) 30 ∷ consolidate_call ∷ record_call 0 1 (num 1) 40 ∷ [])
    ∷ is_supposed (open_call [] ∷ record_call 0 0 (num 1) 20 ∷ open_call [] ∷ record_call 0 1 (num 1) 20 ∷ open_call [] ∷ consolidate_call ∷ open_call [] ∷ both 30 (num 1) (num 2) ∷ []) ∷ []

pub good_are : good ≡ true ∷ true ∷ true ∷ true ∷ true ∷ true ∷ true ∷ []
unfolding Instance-defs is_supposed_at is_supposed good
good_are = refl

-- the runs: none in the first interval; none in the second, after one in the middle of the first and after one behind its last tick; one before a tick's last
-- sample; one before the first sample; no sample at all; an opening in place of the first interval's
unfoldable pub off_schedule : List Bool
off_schedule =
    is_supposed (both 20 (num 1) (num 2) ∷ both 30 (num 1) (num 2) ∷ both 40 (num 1) (num 2) ∷ both 50 (num 1) (num 2) ∷ [])
    ∷ is_supposed (record_call 0 1 (num 1) 20 ∷ consolidate_call ∷ record_call 0 1 (num 1) 30 ∷ record_call 0 1 (num 1) 40 ∷ record_call 0 1 (num 1) 50 ∷ record_call 0 1 (num 1) 60 ∷ [])
    ∷ is_supposed (record_call 0 1 (num 1) 20 ∷ record_call 0 1 (num 1) 30 ∷ consolidate_call ∷ record_call 0 1 (num 1) 40 ∷ record_call 0 1 (num 1) 50 ∷ record_call 0 1 (num 1) 60 ∷ [])
    ∷ is_supposed (both 20 (num 1) (num 2) ∷ record_call 0 0 (num 2) 30 ∷ consolidate_call ∷ record_call 0 1 (num 2) 30 ∷ [])
    ∷ is_supposed (consolidate_call ∷ record_call 0 1 (num 1) 20 ∷ []) ∷ is_supposed []
    ∷ is_supposed (both 20 (num 1) (num 2) ∷ both 30 (num 1) (num 2) ∷ open_call [] ∷ both 40 (num 1) (num 2) ∷ []) ∷ []

pub off_schedule_lem : off_schedule ≡ false ∷ false ∷ false ∷ false ∷ false ∷ false ∷ false ∷ []
unfolding Instance-defs is_supposed_at is_supposed off_schedule
off_schedule_lem = refl

-- the ticks: a gap; a column that begins late; one that stops early; a tick twice; a stamp between ticks; stamps that fall; a start that is no multiple of
-- the coarsest interval
unfoldable pub off_ticks : List Bool
off_ticks =
    is_supposed (both 20 (num 1) (num 2) ∷ both 30 (num 1) (num 2) ∷ consolidate_call ∷ both 50 (num 1) (num 2) ∷ [])
    ∷ is_supposed (record_call 0 0 (num 1) 20 ∷ both 30 (num 1) (num 2) ∷ [])
    ∷ is_supposed (both 20 (num 1) (num 2) ∷ record_call 0 0 (num 1) 30 ∷ [])
    ∷ is_supposed (both 20 (num 1) (num 2) ∷ both 30 (num 1) (num 2) ∷ both 30 (num 1) (num 2) ∷ [])
    ∷ is_supposed (both 20 (num 1) (num 2) ∷ both 25 (num 1) (num 2) ∷ both 30 (num 1) (num 2) ∷ [])
    ∷ is_supposed_at 40 (record_call 0 0 (num 1) 40 ∷ record_call 0 0 (num 1) 50 ∷ record_call 0 1 (num 1) 40 ∷ record_call 0 1 (num 1) 50 ∷ both 60 (num 1) (num 1) ∷ both 70 (num 1) (num 1) ∷ [])
    ∷ is_supposed (both 30 (num 1) (num 1) ∷ []) ∷ []

pub off-ticks : off_ticks ≡ false ∷ false ∷ false ∷ false ∷ false ∷ false ∷ false ∷ []
unfolding Instance-defs is_supposed_at is_supposed off_ticks
off-ticks = refl

-- the values: NaN; 2^30 + 1; a half. 2^30 itself is good
unfoldable pub off_values : List Bool
off_values =
    is_supposed (both 20 (num 1) 0x7ff8_0000_0000_0000 ∷ both 30 (num 1) (num 2) ∷ []) ∷ is_supposed (both 20 (num 1) (num 1_073_741_825) ∷ both 30 (num 1) (num 2) ∷ [])
    ∷ is_supposed (both 20 (num 1) 0x3fe0_0000_0000_0000 ∷ both 30 (num 1) (num 2) ∷ []) ∷ is_supposed (both 20 (num 1) (num 1_073_741_824) ∷ both 30 (num 1) (num 2) ∷ []) ∷ []

pub off-values : off_values ≡ false ∷ false ∷ false ∷ true ∷ []
unfolding Instance-defs is_supposed_at is_supposed off_values
off-values = refl
