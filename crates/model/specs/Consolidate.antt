-- Consolidation (document 01, "Consolidate"; where a reading starts: request 2026-01; which writes are passed over: request 2026-05): the windows of a pair, the
-- writes to its destination, its mark; the run over all pairs. Assumes nothing.
use Rattle.std.specs.Prelude.{ℕ, zero, suc, ◌+◌, ◌-◌, ◌^◌, Bool, true, false, not, ◌&&◌, cond, List, [], ◌∷◌, leb, ltb, eqb, Option, Some, None}
use Rattle.std.specs.Float.{binary64}
use Rattle.std.specs.Float.Ieee.{to_bits}
use Rattle.model.specs.declared.ConsolidationFn.{ConsolidationFn}
use Rattle.model.specs.declared.WindowAnswer.{WindowAnswer}
use Rattle.model.specs.declared.WindowAnswer.TheVariants.{Empty, Number, NothingFinite}
use Rattle.model.specs.Words.{function_no}
use Rattle.model.specs.Bytes.{put64}
use Rattle.model.specs.Layout.{fresh_value}
use Rattle.model.specs.Image.{row_count, mark_at, unless, first, open_check}
use Rattle.model.specs.Ring.{Ring, write, is_old, slots, stamp, order, oldest, newest, is_infinite}
use Rattle.model.specs.Window.{Job, window_of, window_answer}
use Rattle.model.specs.Lent.{Lent, row, ring, with_ring}
use Rattle.model.specs.Record.{stamp_ok}

-- ---- the windows of a job, ascending, by repeated search for the next start. A window whose values are all NaN is found too: its answers are Empty,
-- so nothing is written for it

-- the lower of the least start so far and w
unfoldable pub lower : Option ℕ → ℕ → Option ℕ
lower None w = Some w
lower (Some v) w = Some (cond (ltb w v) w v)

unfoldable pub lower_if : Bool → Option ℕ → ℕ → Option ℕ
lower_if true least w = lower least w
lower_if false least w = least

-- a stamp in the range, whose window does not start below the bound
unfoldable pub is_next : Job → ℕ → ℕ → Bool
is_next q bound t = leb q.start t && ltb t q.end && leb bound (window_of q.long t)

-- the least window start from the bound on, of these slots' stamps
unfoldable pub least_from : Job → ℕ → Option ℕ → List ℕ → Option ℕ
least_from q bound least [] = least
least_from q bound least (i ∷ is) =
    let t = stamp q.source.slab i in
    least_from q bound (lower_if (is_next q bound t) least (window_of q.long t)) is

unfoldable pub next_window : Job → ℕ → Option ℕ
next_window q bound = least_from q bound None (order q.source)

-- at most k windows, the first being the one found
unfoldable pub windows_from : Job → ℕ → Option ℕ → List ℕ
windows_from q zero e = []
windows_from q (suc k) None = []
windows_from q (suc k) (Some w) = w ∷ windows_from q k (next_window q (suc w))

-- a source of n slots has at most n windows
unfoldable pub windows : Job → List ℕ
windows q = windows_from q (slots q.source.slab) (next_window q 0)

-- ---- the writes to the destination: by window, then by column

-- the destination so far: its ring, how many writes, and the refusal that ended them, or 0
pub record Filled : Type 0 where
  pub ring : Ring
  pub writes : ℕ
  pub refusal : ℕ

-- 12, then 13
unfoldable pub write_check : ℕ → ℕ → ℕ
write_check v t = first (unless (not (is_infinite v)) 12 ∷ unless (stamp_ok t) 13 ∷ [])

-- an old write is passed over: nothing is stored, counted or refused
unfoldable pub write_unless : Bool → Filled → ℕ → ℕ → ℕ → Filled
write_unless true f w c v = f
write_unless false f w c v = record { ring = write f.ring (record { column = c; value = v } ∷ []) w; writes = suc f.writes; refusal = 0 }

unfoldable pub write_on : ℕ → Filled → ℕ → ℕ → ℕ → Filled
write_on zero f w c v = write_unless (is_old f.ring.slab w) f w c v
write_on (suc n) f w c v = record { ring = f.ring; writes = f.writes; refusal = suc n }

unfoldable pub write_bits : Filled → ℕ → ℕ → ℕ → Filled
write_bits f w c v = write_on (write_check v w) f w c v

-- a window's answer for column c
unfoldable pub write_answer : WindowAnswer → Filled → ℕ → ℕ → Filled
write_answer Empty f w c = f
write_answer (Number x) f w c = write_bits f w c (to_bits binary64 x)
write_answer NothingFinite f w c = write_bits f w c fresh_value

unfoldable pub unless_refused : ℕ → Filled → Filled → Filled
unless_refused zero f g = g
unless_refused (suc n) f g = f

-- j columns of window w, from column c on
unfoldable pub fill_window : Job → Filled → ℕ → ℕ → ℕ → Filled
fill_window q f w c zero = f
fill_window q f w c (suc j) = let g = write_answer (window_answer q w c) f w c in fill_window q (unless_refused f.refusal f g) w (suc c) j

-- these windows, m columns each
unfoldable pub fill : Job → Filled → List ℕ → ℕ → Filled
fill q f [] m = f
fill q f (w ∷ ws) m = fill q (fill_window q f w 0 m) ws m

-- ---- one pair: the rows i and i + 1

-- what a run has done so far, and the refusal that ended it, or 0
pub record Run : Type 0 where
  pub lent : Lent
  pub count : ℕ
  pub refusal : ℕ

unfoldable pub refuse_run : Run → ℕ → Run
refuse_run u n = record { lent = u.lent; count = u.count; refusal = n }

-- every stamp of the source is below 2^63: k slots, from slot i on
unfoldable pub stamps_below : List ℕ → ℕ → ℕ → Bool
stamps_below s i zero = true
stamps_below s i (suc k) = ltb (stamp s i) (2 ^ 63) && stamps_below s (suc i) k

unfoldable pub or_zero : Option ℕ → ℕ
or_zero None = 0
or_zero (Some t) = t

-- where the reading starts: at the oldest stamp if the mark is 0, else at the start of the destination's window that holds the mark; `long` is its interval
-- (request 2026-01; in document 01 alone at mark + source interval)
unfoldable pub start_of : ℕ → ℕ → Ring → ℕ
start_of zero long r = or_zero (oldest r)
start_of (suc k) long r = window_of long (suc k)

-- newest + 1, or 0 without a newest
unfoldable pub end_after : Option ℕ → ℕ
end_after None = 0
end_after (Some t) = suc t

unfoldable pub job_of : Lent → ℕ → ConsolidationFn → Job
job_of l i f = record {
  source = ring l i;
  function = f;
  long = (row l (suc i)).interval;
  start = start_of (row l i).mark (row l (suc i)).interval (ring l i);
  end = end_after (newest (ring l i));
}

unfoldable pub filled : Job → Ring → ℕ → Filled
filled q r m = fill q (record { ring = r; writes = 0; refusal = 0 }) (windows q) m

unfoldable pub with_mark : Bool → Lent → ℕ → ℕ → Lent
with_mark true l i t = record { image = put64 l.image (mark_at i) t; flags = l.flags }
with_mark false l i t = l

-- the destination's ring is stored; the mark becomes the newest stamp if something was written and nothing refused
unfoldable pub close_pair : Run → ℕ → ℕ → Filled → Run
close_pair u i t f = record {
  lent = with_mark (eqb f.refusal 0 && ltb 0 f.writes) (with_ring u.lent (suc i) f.ring) i t;
  count = u.count + f.writes;
  refusal = f.refusal;
}

-- 10, unless the source's stamps are good
unfoldable pub pair_with : Bool → ConsolidationFn → Run → ℕ → Run
pair_with false f u i = refuse_run u 10
pair_with true f u i =
    let l = u.lent in
    close_pair u i (or_zero (newest (ring l i))) (filled (job_of l i f) (ring l (suc i)) (row l i).series)

-- 16, without a function
unfoldable pub pair_by : Option ConsolidationFn → Run → ℕ → Run
pair_by None u i = refuse_run u 16
pair_by (Some f) u i = pair_with (stamps_below (ring u.lent i).slab 0 (slots (ring u.lent i).slab)) f u i

unfoldable pub pair : Run → ℕ → Run
pair u i = pair_by (function_no (row u.lent (suc i)).function) u i

-- ---- the run

-- the rows i and i + 1 are a pair where they are of one schema; a refusal has ended the run
unfoldable pub pair_if : Bool → ℕ → Run → ℕ → Run
pair_if true zero u i = pair u i
pair_if true (suc n) u i = u
pair_if false n u i = u

-- k rows, from row i on, each with the next
unfoldable pub pairs : Run → ℕ → ℕ → Run
pairs u i zero = u
pairs u i (suc k) = pairs (pair_if (eqb (row u.lent i).schema (row u.lent (suc i)).schema) u.refusal u i) (suc i) k

unfoldable pub run_on : ℕ → Lent → Run
run_on zero l = pairs (record { lent = l; count = 0; refusal = 0 }) 0 (row_count l.image - 1)
run_on (suc n) l = record { lent = l; count = 0; refusal = suc n }

-- opening's order, then the pairs
unfoldable pub run : Lent → Run
run l = run_on (open_check l.image) l

-- names every definition of this module, for a proof by computation: `unfolding Consolidate-defs`
unfoldable Windows-defs : Unit {0}
unfolding lower lower_if is_next least_from next_window windows_from windows
Windows-defs = tt

unfoldable pub Consolidate-defs : Unit {0}
unfolding Windows-defs write_check write_unless write_on write_bits write_answer unless_refused fill_window fill refuse_run stamps_below or_zero start_of end_after job_of filled with_mark close_pair pair_with pair_by pair pair_if pairs run_on run
Consolidate-defs = tt
