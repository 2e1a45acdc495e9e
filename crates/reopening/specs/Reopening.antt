-- Request 2026-02, history after a power cycle: an opening changes nothing of what a caller sees. The claim, for every history; and the request's own words,
-- which ask it of stores written in time order with no interval skipped. The proofs of both stand in the crate reopening_proved. Assumes nothing.
use Rattle.std.specs.Prelude.{ℕ, suc, ◌/◌, ◌<◌, ◌≡◌, Bool, true, false, ◌&&◌, ◌||◌, cond, List, [], ◌∷◌, ◌++◌, T, leb, eqb}
use Rattle.model.specs.Image.{schemas, create_check}
use Rattle.model.specs.Lent.{Lent, creation, row, row_no}
use Rattle.model.specs.Record.{Entry, record_check, batch_check}
use Rattle.model.specs.Store.{Call, open_call, Deed, reads, records, records_all, runs, opens, deed, call, after, shown}
use Rattle.demand.specs.Demand.{handed_out}

-- a plan, what creation is lent, the calls from creation on, and the flags that an opening behind them is handed
pub record History : Type 0 where
  pub plan : List ℕ
  pub buf : List ℕ
  pub flags : List Bool
  pub calls : List Call
  pub handed : List Bool

unfoldable pub created : History → Lent
created h = creation h.plan (record { image = h.buf; flags = h.flags })

-- image and flags as the calls left them, and as the opening leaves them
unfoldable pub left : History → Lent
left h = after (created h) h.calls

unfoldable pub reopened : History → Lent
reopened h = after (created h) (h.calls ++ open_call h.handed ∷ [])

-- ---- the claim

-- For every plan that creation accepts, every list of calls from there on, refused ones and openings among them, whatever they record and in whatever order,
-- and whatever flags the opening is handed: after any further calls, or none, the image is the one that it is without the opening, and each call is answered
-- as without it: with the same refusal or count, or the same tier, ends, range, incomplete mark and points. The reader itself is not compared, only what it hands out.
unfoldable pub OpeningChangesNothing : Type 0
OpeningChangesNothing =
    (h : History) → create_check h.plan h.buf ≡ 0 → (next : List Call)
    → ((after (reopened h) next).image ≡ (after (left h) next).image)
    × ((c : Call) → shown (call (after (reopened h) next) c).reply ≡ shown (call (after (left h) next) c).reply)

-- ---- the request's own words

-- some entry is of schema k
unfoldable pub names : ℕ → List Entry → Bool
names k [] = false
names k (e ∷ es) = eqb e.schema k || names k es

-- the stamp that a call stores in the finest ring of schema k: that of an accepted recording
abbrev pub stamp_by : ℕ → Lent → Deed → List ℕ
stamp_by k l (reads reply) = []
stamp_by k l (records k' c v t) = cond (eqb (record_check l k' c v t) 0 && eqb k' k) (t ∷ []) []
stamp_by k l (records_all es t) = cond (eqb (batch_check l es t) 0 && names k es) (t ∷ []) []
stamp_by k l runs = []
stamp_by k l (opens fs) = []

unfoldable pub stamp_of : ℕ → Lent → Call → List ℕ
stamp_of k l c = stamp_by k l (deed c)

-- each call is lent what the call before left
unfoldable pub stamps_of : ℕ → Lent → List Call → List ℕ
stamps_of k l [] = []
stamps_of k l (c ∷ cs) = stamp_of k l c ++ stamps_of k (call l c).lent cs

-- in time order with no interval skipped: none is below the one before it, and its interval's number is the same or the next
unfoldable pub in_step_from : ℕ → ℕ → List ℕ → Bool
in_step_from d t [] = true
in_step_from d t (u ∷ us) = leb t u && leb (u / d) (suc (t / d)) && in_step_from d u us

unfoldable pub in_step : ℕ → List ℕ → Bool
in_step d [] = true
in_step d (t ∷ ts) = in_step_from d t ts

-- the finest interval of schema k
unfoldable pub finest : ℕ → Lent → ℕ
finest k l = (row l (row_no l k 0)).interval

-- For a store written in time order with no interval skipped, image and flags lent as left since creation: each read and query after opening gives
-- the points it gave before.
unfoldable pub AsRequested : Type 0
AsRequested =
    (h : History) → create_check h.plan h.buf ≡ 0
    → ((k : ℕ) → k < schemas h.plan → T (in_step (finest k (created h)) (stamps_of k (created h) h.calls)))
    → (c : Call) → handed_out (call (reopened h) c).reply ≡ handed_out (call (left h) c).reply

-- names every definition of this module, for a proof by computation: `unfolding Reopening-defs`
unfoldable pub Reopening-defs : Unit {0}
unfolding created left reopened names stamp_of stamps_of in_step_from in_step finest
Reopening-defs = tt
