-- How often a run has to begin anew in a source. However many samples were missed or came late: with L laps of the ring in the range that is read, the reading
-- is cut at most 2 (L - 1) times, so it is done in at most 2 L - 1 parts, each of which is looked for in one pass over the stamps and then filled; one more where
-- the mark lies in the first window of all time, the range starts at 0 and a slot was never written. For every list of calls from creation on, and for each pair
-- of a run, whose source the pair before may just have written. Assumes nothing.
use Rattle.std.specs.Prelude.{ℕ, zero, suc, ◌+◌, ◌-◌, ◌*◌, ◌≤◌, ◌<◌, ◌≡◌, List, [], ◌∷◌, eqb, length}
use Rattle.std.proofs.Common.{zero-add, add-zero, arith, subst, inl, inr}
use Rattle.std.proofs.Math.Path.{refl}
use Rattle.model.specs.declared.ConsolidationFn.{ConsolidationFn}
use Rattle.model.specs.Image.{row_count, create_check, open_check}
use Rattle.model.specs.Ring.{Ring, slots, cursor, stamp, order, or_stamp, first_stamp, oldest}
use Rattle.model.specs.Window.{window_of}
use Rattle.model.specs.Lent.{Lent, row, ring}
use Rattle.model.specs.Consolidate.{Run, start_of, job_of, pair_if, pairs, run_on, run}
use Rattle.reopening.specs.Reopening.{History, left}
use Rattle.image_theory.specs.Good.{count_kept}
use Rattle.image_theory.specs.Pairs.{end_back, slab_of_lem, stays_pairs}
use Rattle.reopening_proved.specs.Each.{Each, all-pairs, each_left}
use Rattle.strand_theory.specs.Cuts.{In, Cut, Cuts, none, more, Passes, Laps}
use Rattle.laws.specs.Windows.{window_mono, window_self, window_le, window_long}
use Rattle.strand_theory.specs.Passes.{before-left}
use Rattle.strand_theory.proofs.Few.{fewer_cuts_from, fewer_cuts}
use Rattle.strands_proved.specs.Home.{Home, home_blank, home_write, home_opened}

-- ---- a run, pair by pair

abbrev begin : Lent → Run
begin l = record { lent = l; count = 0; refusal = 0 }

-- what a run on l has made of it when it comes to the rows i and i + 1
unfoldable pub midway : Lent → ℕ → Run
midway l i = pairs (begin l) 0 i

-- the next pair, if there is one here and nothing was refused
pairs_more : (u : Run) (i k : ℕ) → pairs u i (suc k) ≡ pair_if (eqb (row (pairs u i k).lent (i + k)).schema (row (pairs u i k).lent (suc (i + k))).schema) (pairs u i k).refusal (pairs u i k) (i + k)
unfolding pairs
pairs_more u i zero = rw (add-zero i)
pairs_more u i (suc k) =
    let v = pair_if (eqb (row u.lent i).schema (row u.lent (suc i)).schema) u.refusal u i in
    let e : i + suc k ≡ suc i + k = omega arith in
    rw e (pairs_more v (suc i) k)

pub midway-next : (l : Lent) (i : ℕ) → let u = midway l i in midway l (suc i) ≡ pair_if (eqb (row u.lent i).schema (row u.lent (suc i)).schema) u.refusal u i
unfolding midway
midway-next l i = rw (zero-add i) at (pairs_more (begin l) 0 i)

-- the run is over behind the last row but one
pub midway-last : (l : Lent) → open_check l.image ≡ 0 → run l ≡ midway l (row_count l.image - 1)
unfolding run midway run_on
midway-last l e = rw e

-- ---- every stamp of the store stands in its own slot

abbrev pub AllHome : Lent → Type 0
AllHome = Each Home home_write home_opened

pub home_left : (h : History) → create_check h.plan h.buf ≡ 0 → open_check (left h).image ≡ 0 → AllHome (left h)
home_left = each_left Home home_write home_opened (λ n m d r b fresh. home_blank n m d r b)

-- ---- where the reading starts

or_some : (t u : ℕ) → 0 < t + u → 0 < or_stamp t u
unfolding or_stamp
or_some zero u h = omega arith
or_some (suc t) u h = omega arith

-- a slot with a stamp is among these: their first stamp is not 0
first_some : (s : List ℕ) (is : List ℕ) (i : ℕ) → In i is → 0 < stamp s i → 0 < first_stamp s is
unfolding first_stamp
first_some s [] i m h = elim m [ ]
first_some s (j ∷ js) i (inl e) h = or_some (stamp s j) (first_stamp s js) (omega (arith, subst (λ (x : ℕ). 0 < stamp s x) e h))
first_some s (j ∷ js) i (inr m) h = or_some (stamp s j) (first_stamp s js) (omega (arith, first_some s js i m h))

-- with no mark, or a mark behind the first window of all time, a reading with a stamp in it starts behind 0
starts : (mark long : ℕ) (r : Ring) (i : ℕ) → In i (order r) → 0 < stamp r.slab i → 0 < long → (0 < mark → long ≤ mark) → 0 < start_of mark long r
unfolding start_of oldest
starts zero long r i m h z late = rw (end_back (first_stamp r.slab (order r))) (first_some r.slab (order r) i m h)
starts (suc k) long r i m h z late = omega (arith, window_mono long (late (omega arith)), window_self long z, z)

-- ---- the claim

-- with the laps ls in the range, the source of the rows i and i + 1 is cut k times: at most so often; one time less with no mark, or one behind the first window
pub record Few (l : Lent) (i : ℕ) (ls : List ℕ) (k : ℕ) : Type 0 where
  pub at_most : k ≤ suc (2 * (length ls - 1))
  pub at_most_marked : (0 < (row l i).mark → (row l (suc i)).interval ≤ (row l i).mark) → k ≤ 2 * (length ls - 1)

unfoldable pub FewPasses : Lent → ℕ → Type 0
FewPasses l i = (f : ConsolidationFn) (ls : List ℕ) → Laps (job_of l i f) ls → (k b : ℕ) → Cuts (job_of l i f) k b → Few l i ls k

-- For every plan that creation accepts, every list of calls from there on, refused ones and openings among them, whatever they record and in whatever order, that
-- leaves an image which passes opening's check: in a run behind them, the source of each row but the last is cut so often at most.
unfoldable pub RunsReadFew : Type 0
RunsReadFew =
    (h : History) → create_check h.plan h.buf ≡ 0 → open_check (left h).image ≡ 0 → (i : ℕ) → suc i < row_count (left h).image
    → FewPasses (midway (left h) i).lent i

-- ---- the proof

module _ (l : Lent) (i : ℕ) (f : ConsolidationFn) where
  -- a cut has a stamp above 0, and windows that have a length
  pub long_cut : {b e : ℕ} → Cut (job_of l i f) (order (job_of l i f).source) b e → 0 < (row l (suc i)).interval
  unfolding job_of
  long_cut {b} {e} c = window_long (row l (suc i)).interval (stamp (ring l i).slab c.high) (rw c.high_is (omega (arith, c.low-under)))

  pub behind_zero : {b e : ℕ} → Cut (job_of l i f) (order (job_of l i f).source) b e → (0 < (row l i).mark → (row l (suc i)).interval ≤ (row l i).mark) → 0 < (job_of l i f).start
  unfolding job_of
  behind_zero {b} {e} c late =
      let r = ring l i in
      let d = (row l (suc i)).interval in
      let w : 0 < window_of d (stamp r.slab c.high) = rw c.high_is (omega (arith, c.low-under)) in
      starts (row l i).mark d r c.high (before-left c.high c.low (order r) c.before) (omega (arith, w, window_le d (stamp r.slab c.high)))
      (window_long d (stamp r.slab c.high) w) late

pub cursor_in : (l : Lent) → AllHome l → (i : ℕ) → i < row_count l.image → cursor (ring l i).slab < slots (ring l i).slab
cursor_in l a i hi = let s = slab_of_lem l a.good i hi in rw s.slots-is s.cursor_in

module _ (l : Lent) (a : AllHome l) (i : ℕ) (hi : i < row_count l.image) (f : ConsolidationFn) (ls : List ℕ) (laps : Laps (job_of l i f) ls) where
  few_later : 0 < (job_of l i f).start → {k b : ℕ} → Cuts (job_of l i f) k b → k ≤ 2 * (length ls - 1)
  unfolding job_of
  few_later pos cs = fewer_cuts_from (job_of l i f) ls (cursor_in l a i hi) (a.rings i hi) laps refl pos cs

  few_any : {k b : ℕ} → Cuts (job_of l i f) k b → k ≤ suc (2 * (length ls - 1))
  unfolding job_of
  few_any cs = fewer_cuts (job_of l i f) ls (cursor_in l a i hi) (a.rings i hi) laps refl cs

  few_marked : (0 < (row l i).mark → (row l (suc i)).interval ≤ (row l i).mark) → {k b : ℕ} → Cuts (job_of l i f) k b → k ≤ 2 * (length ls - 1)
  few_marked late none = omega arith
  few_marked late (more cs c) = few_later (behind_zero l i f c late) (more cs c)

pub few_passes : (l : Lent) → AllHome l → (i : ℕ) → i < row_count l.image → FewPasses l i
unfolding FewPasses
few_passes l a i hi f ls laps k b cs = record { at_most = few_any l a i hi f ls laps cs; at_most_marked = λ late. few_marked l a i hi f ls laps late cs }

-- the parts that `pair_runs::fill_pair` counts and hands back (`Passes`; its job is this one, by `PairAt` of `pair`)
pub passes_few : (l : Lent) → AllHome l → (i : ℕ) → i < row_count l.image → (f : ConsolidationFn) (ls : List ℕ) → Laps (job_of l i f) ls → {n : ℕ} → Passes (job_of l i f) n
    → (0 < (row l i).mark → (row l (suc i)).interval ≤ (row l i).mark) → n ≤ suc (2 * (length ls - 1))
passes_few l a i hi f ls laps p late = omega (arith, p.few, few_marked l a i hi f ls laps late p.cut)

pub home_midway : (l : Lent) → AllHome l → (i : ℕ) → suc i < row_count l.image → AllHome (midway l i).lent
unfolding midway
home_midway l a i hi = all-pairs Home home_write home_opened i 0 (begin l) a (omega arith)

-- a row of the store is one of the run's
pub midway-row : (l : Lent) → AllHome l → (i : ℕ) → suc i < row_count l.image → i < row_count (midway l i).lent.image
unfolding midway
midway-row l a i hi =
    let s = stays_pairs (begin l) 0 i a.good (omega arith) in
    rw (count_kept (pairs (begin l) 0 i).lent.image l.image s.image_is) (omega arith)
