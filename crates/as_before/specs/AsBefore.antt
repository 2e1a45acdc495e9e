-- Request 2026-05: histories in time order, no consolidation refused, behave as before. The claim, for every such list of calls; and what it rests on for runs,
-- which holds whatever the samples' order. The rules of then stand in Before, the proofs in the crate as_before_proved. Assumes nothing.
use Rattle.std.specs.Prelude.{ℕ, zero, suc, ◌+◌, ◌-◌, ◌≡◌, Bool, true, false, not, ◌&&◌, cond, List, [], ◌∷◌, ◌++◌, T, leb, eqb, Option, Some, None}
use Rattle.std.specs.Float.{binary64}
use Rattle.std.specs.Float.Ieee.{to_bits}
use Rattle.model.specs.declared.ConsolidationFn.{ConsolidationFn}
use Rattle.model.specs.declared.WindowAnswer.{WindowAnswer}
use Rattle.model.specs.declared.WindowAnswer.TheVariants.{Empty, Number, NothingFinite}
use Rattle.model.specs.Words.{function_no}
use Rattle.model.specs.Layout.{fresh_value}
use Rattle.model.specs.Image.{schemas, row_count, create_check, open_check}
use Rattle.model.specs.Ring.{slots, is_old}
use Rattle.model.specs.Window.{Job, window_answer}
use Rattle.model.specs.Lent.{Lent, creation, row, ring}
use Rattle.model.specs.Consolidate.{Filled, write_check, write_answer, unless_refused, fill_window, Run, stamps_below, windows, job_of, pair_if, run}
use Rattle.model.specs.Store.{Call, Deed, reads, records, records_all, runs, opens, deed, Reply, refused, done, wrote, read, Done, call, after, replies}
use Rattle.reopening.specs.Reopening.{names}
use Rattle.as_before.specs.Before as Before

-- ---- in time order, schema by schema

-- the stamp of a recording for schema k that passes the rules before 18
abbrev pub stamp_by : ℕ → Lent → Deed → List ℕ
stamp_by k l (reads reply) = []
stamp_by k l (records k' c v t) = cond (eqb (Before.record_check l k' c v t) 0 && eqb k' k) (t ∷ []) []
stamp_by k l (records_all es t) = cond (eqb (Before.batch_check l es t) 0 && names k es) (t ∷ []) []
stamp_by k l runs = []
stamp_by k l (opens fs) = []

-- each call is lent what the call before left, by the rules before 18
unfoldable pub stamps_of : ℕ → Lent → List Call → List ℕ
stamps_of k l [] = []
stamps_of k l (c ∷ cs) = stamp_by k l (deed c) ++ stamps_of k (Before.call l c).lent cs

-- none is below the one before it, the first not below t
unfoldable pub never_fall : ℕ → List ℕ → Bool
never_fall t [] = true
never_fall t (u ∷ us) = leb t u && never_fall u us

-- j schemas, from schema k on
unfoldable pub in_order_from : ℕ → ℕ → Lent → List Call → Bool
in_order_from k zero l cs = true
in_order_from k (suc j) l cs = never_fall 0 (stamps_of k l cs) && in_order_from (suc k) j l cs

unfoldable pub in_order : Lent → List Call → Bool
in_order l cs = in_order_from 0 (schemas l.image) l cs

-- ---- no consolidation refused, where each call does what `does` says

unfoldable pub is_refused : Reply → Bool
is_refused (refused n) = true
is_refused done = false
is_refused (wrote k) = false
is_refused (read a) = false

abbrev pub goes_on : Deed → Reply → Bool
goes_on (reads reply) r = true
goes_on (records k c v t) r = true
goes_on (records_all es t) r = true
goes_on runs r = not (is_refused r)
goes_on (opens fs) r = true

unfoldable pub no_run_refused : (Lent → Call → Done) → Lent → List Call → Bool
no_run_refused does l [] = true
no_run_refused does l (c ∷ cs) = let d = does l c in goes_on (deed c) d.reply && no_run_refused does d.lent cs

-- ---- the claim

-- For every plan that creation accepts, any buffer and flags, and every list of calls from there on, refused ones and openings with any flags among them: where
-- the list is in time order and no consolidation refused, both judged by the rules before, image and flags at its end are what they were by those rules, and so
-- is every reply.
unfoldable pub AsBefore : Type 0
AsBefore =
    (plan buf : List ℕ) (flags : List Bool) → create_check plan buf ≡ 0 → (calls : List Call)
    → let l = creation plan (record { image = buf; flags = flags }) in
    T (in_order l calls) → T (no_run_refused Before.call l calls)
    → (after l calls ≡ Before.after l calls) × (replies l calls ≡ Before.replies l calls)

-- ---- how many writes a run passes over

-- one, where its check passes 12 and 13 and it is old
unfoldable pub passed_if : ℕ → Bool → ℕ
passed_if zero true = 1
passed_if zero false = 0
passed_if (suc n) b = 0

-- by a window's answer, of the destination so far
unfoldable pub passed_answer : WindowAnswer → Filled → ℕ → ℕ
passed_answer Empty f w = 0
passed_answer (Number x) f w = passed_if (write_check (to_bits binary64 x) w) (is_old f.ring.slab w)
passed_answer NothingFinite f w = passed_if (write_check fresh_value w) (is_old f.ring.slab w)

-- none, once a refusal has ended the writes
unfoldable pub passed_unless : ℕ → ℕ → ℕ
passed_unless zero k = k
passed_unless (suc n) k = 0

-- along model's `fill_window`, `fill`, `pair_by`, `pairs` and `run`
unfoldable pub passed_window : Job → Filled → ℕ → ℕ → ℕ → ℕ
passed_window q f w c zero = 0
passed_window q f w c (suc j) =
    let a = window_answer q w c in
    passed_unless f.refusal (passed_answer a f w) + passed_window q (unless_refused f.refusal f (write_answer a f w c)) w (suc c) j

unfoldable pub passed_fill : Job → Filled → List ℕ → ℕ → ℕ
passed_fill q f [] m = 0
passed_fill q f (w ∷ ws) m = passed_window q f w 0 m + passed_fill q (fill_window q f w 0 m) ws m

unfoldable pub passed_with : Bool → ConsolidationFn → Lent → ℕ → ℕ
passed_with false f l i = 0
passed_with true f l i = let q = job_of l i f in passed_fill q (record { ring = ring l (suc i); writes = 0; refusal = 0 }) (windows q) (row l i).series

unfoldable pub passed_by : Option ConsolidationFn → Lent → ℕ → ℕ
passed_by None l i = 0
passed_by (Some f) l i = passed_with (stamps_below (ring l i).slab 0 (slots (ring l i).slab)) f l i

unfoldable pub passed_pair : Bool → ℕ → Lent → ℕ → ℕ
passed_pair true zero l i = passed_by (function_no (row l (suc i)).function) l i
passed_pair true (suc n) l i = 0
passed_pair false n l i = 0

unfoldable pub passed_pairs : Run → ℕ → ℕ → ℕ
passed_pairs u i zero = 0
passed_pairs u i (suc k) =
    let same = eqb (row u.lent i).schema (row u.lent (suc i)).schema in
    passed_pair same u.refusal u.lent i + passed_pairs (pair_if same u.refusal u i) (suc i) k

unfoldable pub passed_on : ℕ → Lent → ℕ
passed_on zero l = passed_pairs (record { lent = l; count = 0; refusal = 0 }) 0 (row_count l.image - 1)
passed_on (suc n) l = 0

unfoldable pub passed_over : Lent → ℕ
passed_over l = passed_on (open_check l.image) l

-- ---- the claim on runs

-- Whatever was recorded and in whatever order: after any list of calls in which no run was refused, a run passes over no write, refused or not, and it is the
-- run of the rules before.
unfoldable pub NonePassedOver : Type 0
NonePassedOver =
    (plan buf : List ℕ) (flags : List Bool) → create_check plan buf ≡ 0 → (calls : List Call)
    → let l = creation plan (record { image = buf; flags = flags }) in
    T (no_run_refused call l calls) → (passed_over (after l calls) ≡ 0) × (run (after l calls) ≡ Before.run (after l calls))

-- names every definition of this module, for a proof by computation: `unfolding AsBefore-defs`
unfoldable pub AsBefore-defs : Unit {0}
unfolding stamps_of never_fall in_order_from in_order is_refused no_run_refused passed_if passed_answer passed_unless passed_window passed_fill passed_with passed_by passed_pair passed_pairs passed_on passed_over
AsBefore-defs = tt
