-- The third demand as requests 2026-01 and 2026-02 restate it: the words of document 01's "Words of the third demand" and of the requests, each with its definition,
-- and the claim about lists of calls, openings among them. Its proof stands in the crate demand_proved. Assumes nothing.
use Rattle.std.specs.Prelude.{ℕ, zero, suc, ◌+◌, ◌-◌, ◌*◌, ◌/◌, ◌%◌, ◌^◌, ◌<◌, min, ◌≡◌, Bool, true, false, not, ◌&&◌, ◌||◌, cond, List, [], ◌∷◌, ◌++◌, map, length, T, leb, ltb, eqb, ℤ, pos, nat_abs, ◌+ℤ◌, ◌-ℤ◌, ◌*ℤ◌, Float}
use Rattle.std.specs.Float.{nan, inf, fin, binary64}
use Rattle.std.specs.Float.Ieee.{of_bits, up, down}
use Rattle.model.specs.declared.Row.{Row}
use Rattle.model.specs.declared.Point.{Point}
use Rattle.model.specs.Words.{signed}
use Rattle.model.specs.Image.{rows, row_at, row_count, schemas, row_slots, create_check}
use Rattle.model.specs.Read.{points_of}
use Rattle.model.specs.Lent.{Lent, creation}
use Rattle.model.specs.Record.{record_check, batch_check}
use Rattle.model.specs.Store.{Call, query_call, consolidate_call, Reply, refused, done, wrote, read, Deed, reads, records, records_all, runs, opens, deed, call, after}

-- ---- the plan: two to four tiers

-- the coarser interval is a whole 2 to 4,096 times the finer one
unfoldable pub ratio_ok : ℕ → ℕ → Bool
ratio_ok fine coarse = eqb (coarse % fine) 0 && leb 2 (coarse / fine) && leb (coarse / fine) 4096

-- so is each tier of rs to the one before it, and each averages; p is the tier before
unfoldable pub averaging : Row → List Row → Bool
averaging p [] = true
averaging p (q ∷ rs) = ratio_ok p.interval q.interval && eqb q.function 1 && averaging q rs

unfoldable pub last_interval : Row → List Row → ℕ
last_interval p [] = p.interval
last_interval p (q ∷ rs) = last_interval q rs

-- each ring's slots span two intervals D
unfoldable pub spanning : ℕ → List Row → Bool
spanning D [] = true
spanning D (r ∷ rs) = leb (2 * D) (row_slots r * r.interval) && spanning D rs

unfoldable pub suited : List Row → Bool
suited [] = false
suited (r ∷ rs) = leb 1 (length rs) && leb (length rs) 3 && averaging r rs && spanning (last_interval r rs) (r ∷ rs)

-- ---- what the calls did: samples and runs. Accepted and refused go by the rules; a query and an opening do neither, so they may stand anywhere

-- the column, stamp and value of an accepted record, or of one entry of an accepted batch
pub record Sample : Type 0 where
  pub column : ℕ
  pub stamp : ℕ
  pub value : ℕ

-- a run is a consolidation call
pub data Event : Type 0 where
  took : Sample → Event
  ran : Event

unfoldable pub if_accepted : ℕ → List Event → List Event
if_accepted zero es = es
if_accepted (suc n) es = []

abbrev pub events_by : Lent → Deed → List Event
events_by l (reads reply) = []
events_by l (records k c v t) = if_accepted (record_check l k c v t) (took (record { column = c; stamp = t; value = v }) ∷ [])
events_by l (records_all es t) = if_accepted (batch_check l es t) (map (λ e. took (record { column = e.column; stamp = t; value = e.value })) es)
events_by l runs = ran ∷ []
events_by l (opens fs) = []

unfoldable pub events_of : Lent → Call → List Event
events_of l c = events_by l (deed c)

-- each call is lent what the call before left
unfoldable pub events : Lent → List Call → List Event
events l [] = []
events l (c ∷ cs) = events_of l c ++ events (call l c).lent cs

unfoldable pub samples_in : List Event → List Sample
samples_in [] = []
samples_in (took x ∷ es) = x ∷ samples_in es
samples_in (ran ∷ es) = samples_in es

-- ---- whole offsets

-- the whole number that a float stands for, where it stands for one
unfoldable pub whole_part : Float → ℤ
whole_part nan = pos 0
whole_part (inf s) = pos 0
whole_part (fin s m e) = signed s (m * up e / down e)

-- a whole number of size at most b, -0.0 let in
unfoldable pub whole_within : ℕ → Float → Bool
whole_within b nan = false
whole_within b (inf s) = false
whole_within b (fin s m e) = eqb (m * up e % down e) 0 && leb (m * up e / down e) b

-- a 64-bit pattern of a whole offset within ±2^30 ns
unfoldable pub is_offset : ℕ → Bool
is_offset v = ltb v (2 ^ 64) && whole_within (2 ^ 30) (of_bits binary64 v)

-- ---- the supposition

-- the stamp of the first sample, and of the last, which is the greatest of samples in stamp order
unfoldable pub first_of : List Sample → ℕ
first_of [] = 0
first_of (x ∷ xs) = x.stamp

unfoldable pub last_of : List Sample → ℕ
last_of [] = 0
last_of (x ∷ []) = x.stamp
last_of (x ∷ y ∷ xs) = last_of (y ∷ xs)

-- stamp order: no stamp is below an earlier one's, nor below p
unfoldable pub ascending : ℕ → List Sample → Bool
ascending p [] = true
ascending p (x ∷ xs) = leb p x.stamp && ascending x.stamp xs

unfoldable pub all : (Sample → Bool) → List Sample → Bool
all f [] = true
all f (x ∷ xs) = f x && all f xs

unfoldable pub count : (Sample → Bool) → List Sample → ℕ
count f [] = 0
count f (x ∷ xs) = cond (f x) 1 0 + count f xs

unfoldable pub is_at : ℕ → ℕ → Sample → Bool
is_at c t x = eqb x.column c && eqb x.stamp t

-- a column is used once it has a sample
unfoldable pub used : ℕ → List Sample → Bool
used c xs = ltb 0 (count (λ x. eqb x.column c) xs)

-- the ticks: how many multiples of d there are from the first sample's stamp to the greatest
unfoldable pub ticks : ℕ → List Sample → ℕ
ticks d xs = suc ((last_of xs - first_of xs) / d)

-- column c has one sample at each of n ticks, d apart, from t on
unfoldable pub gapless : ℕ → ℕ → ℕ → ℕ → List Sample → Bool
gapless c d t zero xs = true
gapless c d t (suc n) xs = eqb (count (is_at c t) xs) 1 && gapless c d (t + d) n xs

-- runs follow a tick once all its samples are in, at least one in each coarsest interval. p is the last sample's stamp so far, q the stamp of the tick that the
-- last run followed; 0 before the first. No sample of a tick comes after a run that follows it; the first sample of a later coarsest interval comes after a
-- run in the interval of p
unfoldable pub scheduled : ℕ → ℕ → ℕ → List Event → Bool
scheduled D p q [] = true
scheduled D p q (took x ∷ es) =
    cond (eqb x.stamp p) (not (eqb q p)) (eqb (x.stamp / D) (p / D) || eqb (q / D) (p / D)) && scheduled D x.stamp q es
scheduled D p q (ran ∷ es) = ltb 0 p && scheduled D p p es

-- with finest interval d and coarsest D: the first stamp is a nonzero multiple of D; stamps never fall; each sample is a whole offset at a multiple of d,
-- and its column has one sample at every tick; the runs are on schedule
unfoldable pub supposed : ℕ → ℕ → List Event → Bool
supposed d D es =
    let xs = samples_in es in
    ltb 0 (first_of xs) && eqb (first_of xs % D) 0 && ascending 0 xs
    && all (λ x. is_offset x.value && eqb (x.stamp % d) 0 && gapless x.column d (first_of xs) (ticks d xs) xs) xs
    && scheduled D 0 0 es

-- ---- the windows of a tier, and a point's distance from the exact mean

-- n window starts, i apart, from t on
unfoldable pub starts : ℕ → ℕ → ℕ → List ℕ
starts i t zero = []
starts i t (suc n) = t ∷ starts i (t + i) n

-- how many windows of interval i have begun: they count from the first sample's stamp, and start at most at the greatest. All are closed but, at most, the last
unfoldable pub begun : ℕ → List Sample → ℕ
begun i xs = suc ((last_of xs - first_of xs) / i)

-- the starts of the newest of them that n slots can hold, ascending
unfoldable pub newest_windows : ℕ → ℕ → List Sample → List ℕ
newest_windows i n xs = let k = min (begun i xs) n in starts i (first_of xs + i * (begun i xs - k)) k

-- the window of interval i from w on is closed: its end is at most the greatest stamp plus the finest interval d
unfoldable pub is_closed : ℕ → ℕ → List Sample → ℕ → Bool
is_closed d i xs w = leb (w + i) (last_of xs + d)

-- the samples of column c with a stamp in the window from w on, i long, its end left out
unfoldable pub in_window : ℕ → ℕ → ℕ → Sample → Bool
in_window c i w x = eqb x.column c && leb w x.stamp && ltb x.stamp (w + i)

-- the whole sum of the samples that the test takes
unfoldable pub sum_of : (Sample → Bool) → List Sample → ℤ
sum_of f [] = pos 0
sum_of f (x ∷ xs) = cond (f x) (whole_part (of_bits binary64 x.value)) (pos 0) +ℤ sum_of f xs

-- the value as an exact number, ±a / b, lies within k / 4,096 of the exact mean z / n: |±a * n - z * b| * 4,096 ≤ k * n * b
unfoldable pub within : ℕ → Float → ℤ → ℕ → Bool
within k nan z n = false
within k (inf s) z n = false
within k (fin s m e) z n = leb (nat_abs (signed s (m * up e) *ℤ pos n -ℤ z *ℤ pos (down e)) * 4096) (k * (n * down e))

-- one point for each window, stamped with its start; where the window is closed, within k / 4,096 of its samples' exact mean. d is the finest interval
unfoldable pub each : ℕ → ℕ → ℕ → ℕ → List Sample → List ℕ → List Point → Bool
each d c i k xs [] [] = true
each d c i k xs [] (p ∷ ps) = false
each d c i k xs (w ∷ ws) [] = false
each d c i k xs (w ∷ ws) (p ∷ ps) =
    eqb p.stamp w && (not (is_closed d i xs w) || within k (of_bits binary64 p.value) (sum_of (in_window c i w) xs) (count (in_window c i w) xs)) && each d c i k xs ws ps

-- a query's points are what its reader hands out up to its end
unfoldable pub handed_out : Reply → List Point
handed_out (refused n) = []
handed_out done = []
handed_out (wrote n) = []
handed_out (read a) = points_of a.reader

-- ---- the demand

-- a plan, what creation is lent, the calls before a run, the calls between the run and the query, the query's column and tier
pub record Situation : Type 0 where
  pub plan : List ℕ
  pub buf : List ℕ
  pub flags : List Bool
  pub before : List Call
  pub between : List Call
  pub column : ℕ
  pub tier : ℕ

unfoldable pub finest : Situation → ℕ
finest s = (row_at s.plan 0).interval

unfoldable pub coarsest : Situation → ℕ
coarsest s = (row_at s.plan (row_count s.plan - 1)).interval

-- the store as creation left it, and as the run left it
unfoldable pub created : Situation → Lent
created s = creation s.plan (record { image = s.buf; flags = s.flags })

unfoldable pub up_to_run : Situation → List Call
up_to_run s = s.before ++ consolidate_call ∷ []

unfoldable pub after_run : Situation → Lent
after_run s = after (created s) (up_to_run s)

-- what the calls up to the run did
unfoldable pub history : Situation → List Event
history s = events (created s) (up_to_run s)

unfoldable pub samples : Situation → List Sample
samples s = samples_in (history s)

-- the points of the query over all time
unfoldable pub answers : Situation → List Point
answers s = handed_out (call (after (after_run s) s.between) (query_call 0 s.column s.tier 0 (2 ^ 64 - 1))).reply

-- the queried tier's interval, and the windows that are due
unfoldable pub tier_interval : Situation → ℕ
tier_interval s = (row_at s.plan s.tier).interval

unfoldable pub due : Situation → List ℕ
due s = newest_windows (tier_interval s) (row_slots (row_at s.plan s.tier)) (samples s)

-- For every fresh store of one schema with a suited plan and every list of calls up to a run: if the supposition holds of what they did, and the calls
-- between neither record nor run, then the query of a used column at any tier gives one point for each window that is due; that of a closed
-- window is within its bound.
unfoldable pub ThirdDemand : Type 0
ThirdDemand =
    (s : Situation)
    → create_check s.plan s.buf ≡ 0 → schemas s.plan ≡ 1 → T (suited (rows s.plan))
    → T (supposed (finest s) (coarsest s) (history s))
    → events (after_run s) s.between ≡ []
    → T (used s.column (samples s)) → s.tier < row_count s.plan
    → T (each (finest s) s.column (tier_interval s) s.tier (samples s) (due s) (answers s))

-- names every definition of this module, and `signed`, for a proof by computation: `unfolding Demand-defs`
unfoldable pub Demand-defs : Unit {0}
unfolding ratio_ok averaging last_interval spanning suited if_accepted events_of events samples_in signed whole_part whole_within is_offset first_of last_of ascending all count is_at used ticks gapless scheduled supposed starts begun newest_windows is_closed in_window sum_of within each handed_out finest coarsest created up_to_run after_run history samples answers tier_interval due
Demand-defs = tt
