-- The rules before request 2026-05: record, record_batch and consolidation without OldSample, a call and a list of calls. What says another thing than its
-- namesake in model: `record_check` and `batch_check` end before 18, and `write_on` passes over no write. All else is that text over these three; what does not
-- hang on them is model's. Assumes nothing.
use Rattle.std.specs.Prelude.{ℕ, zero, suc, ◌-◌, Bool, true, false, not, List, [], ◌∷◌, eqb, Option, Some, None}
use Rattle.std.specs.Float.{binary64}
use Rattle.std.specs.Float.Ieee.{to_bits}
use Rattle.model.specs.declared.ConsolidationFn.{ConsolidationFn}
use Rattle.model.specs.declared.WindowAnswer.{WindowAnswer}
use Rattle.model.specs.declared.WindowAnswer.TheVariants.{Empty, Number, NothingFinite}
use Rattle.model.specs.Words.{function_no}
use Rattle.model.specs.Layout.{fresh_value}
use Rattle.model.specs.Image.{row_count, unless, first, open_check}
use Rattle.model.specs.Ring.{Ring, write, slots, newest, is_infinite}
use Rattle.model.specs.Window.{Job, window_answer}
use Rattle.model.specs.Lent.{Lent, row, ring, opening}
use Rattle.model.specs.Record.{Entry, handle_ok, stamp_ok, every_entry, record_on, batch_on}
use Rattle.model.specs.Consolidate.{Filled, Run, write_check, unless_refused, refuse_run, stamps_below, or_zero, windows, job_of, close_pair}
use Rattle.model.specs.Store.{Call, Deed, reads, records, records_all, runs, opens, deed, Reply, Done, done_or, finished}

-- ---- record and record_batch

unfoldable pub record_check : Lent → ℕ → ℕ → ℕ → ℕ → ℕ
record_check l k c v t = first (open_check l.image ∷ unless (handle_ok l k c) 11 ∷ unless (not (is_infinite v)) 12 ∷ unless (stamp_ok t) 13 ∷ [])

unfoldable pub batch_check : Lent → List Entry → ℕ → ℕ
batch_check l [] t = open_check l.image
batch_check l (e ∷ es) t = first (
    open_check l.image ∷ unless (every_entry (λ x. handle_ok l x.schema x.column) (e ∷ es)) 11 ∷ unless (stamp_ok t) 13
    ∷ unless (every_entry (λ x. not (is_infinite x.value)) (e ∷ es)) 12 ∷ [])

-- ---- the writes to a pair's destination

unfoldable pub write_on : ℕ → Filled → ℕ → ℕ → ℕ → Filled
write_on zero f w c v = record { ring = write f.ring (record { column = c; value = v } ∷ []) w; writes = suc f.writes; refusal = 0 }
write_on (suc n) f w c v = record { ring = f.ring; writes = f.writes; refusal = suc n }

unfoldable pub write_bits : Filled → ℕ → ℕ → ℕ → Filled
write_bits f w c v = write_on (write_check v w) f w c v

unfoldable pub write_answer : WindowAnswer → Filled → ℕ → ℕ → Filled
write_answer Empty f w c = f
write_answer (Number x) f w c = write_bits f w c (to_bits binary64 x)
write_answer NothingFinite f w c = write_bits f w c fresh_value

unfoldable pub fill_window : Job → Filled → ℕ → ℕ → ℕ → Filled
fill_window q f w c zero = f
fill_window q f w c (suc j) = let g = write_answer (window_answer q w c) f w c in fill_window q (unless_refused f.refusal f g) w (suc c) j

unfoldable pub fill : Job → Filled → List ℕ → ℕ → Filled
fill q f [] m = f
fill q f (w ∷ ws) m = fill q (fill_window q f w 0 m) ws m

-- ---- a pair, and the run

unfoldable pub filled : Job → Ring → ℕ → Filled
filled q r m = fill q (record { ring = r; writes = 0; refusal = 0 }) (windows q) m

unfoldable pub pair_with : Bool → ConsolidationFn → Run → ℕ → Run
pair_with false f u i = refuse_run u 10
pair_with true f u i =
    let l = u.lent in
    close_pair u i (or_zero (newest (ring l i))) (filled (job_of l i f) (ring l (suc i)) (row l i).series)

unfoldable pub pair_by : Option ConsolidationFn → Run → ℕ → Run
pair_by None u i = refuse_run u 16
pair_by (Some f) u i = pair_with (stamps_below (ring u.lent i).slab 0 (slots (ring u.lent i).slab)) f u i

unfoldable pub pair : Run → ℕ → Run
pair u i = pair_by (function_no (row u.lent (suc i)).function) u i

unfoldable pub pair_if : Bool → ℕ → Run → ℕ → Run
pair_if true zero u i = pair u i
pair_if true (suc n) u i = u
pair_if false n u i = u

unfoldable pub pairs : Run → ℕ → ℕ → Run
pairs u i zero = u
pairs u i (suc k) = pairs (pair_if (eqb (row u.lent i).schema (row u.lent (suc i)).schema) u.refusal u i) (suc i) k

unfoldable pub run_on : ℕ → Lent → Run
run_on zero l = pairs (record { lent = l; count = 0; refusal = 0 }) 0 (row_count l.image - 1)
run_on (suc n) l = record { lent = l; count = 0; refusal = suc n }

unfoldable pub run : Lent → Run
run l = run_on (open_check l.image) l

-- ---- a call, and a list of them

abbrev pub doing : Lent → Deed → Done
doing l (reads reply) = record { reply = reply l; lent = l }
doing l (records k c v t) = let n = record_check l k c v t in record { reply = done_or n; lent = record_on n l k c v t }
doing l (records_all es t) = let n = batch_check l es t in record { reply = done_or n; lent = batch_on n l es t }
doing l runs = finished (run l)
doing l (opens fs) = record { reply = done_or (open_check l.image); lent = opening (record { image = l.image; flags = fs }) }

unfoldable pub call : Lent → Call → Done
call l c = doing l (deed c)

unfoldable pub after : Lent → List Call → Lent
after l [] = l
after l (c ∷ cs) = after (call l c).lent cs

unfoldable pub replies : Lent → List Call → List Reply
replies l [] = []
replies l (c ∷ cs) = let d = call l c in d.reply ∷ replies d.lent cs

-- names every definition of this module, for a proof by computation: `unfolding Before-defs`
unfoldable pub Before-defs : Unit {0}
unfolding record_check batch_check write_on write_bits write_answer fill_window fill filled pair_with pair_by pair pair_if pairs run_on run call after replies
Before-defs = tt
