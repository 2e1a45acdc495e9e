-- Which sample supersedes which (request 2026-05), sentence by sentence: single records, batches over two schemas, what a run passes over. By computation.
-- Assumes nothing.
use Rattle.std.specs.Prelude.{ℕ, ◌-◌, ◌^◌, ◌≡◌, refl, Bool, true, false, List, [], ◌∷◌, map, take, replicate, Some}
use Rattle.model.specs.Bytes.{put}
use Rattle.model.specs.Layout.{fresh_value}
use Rattle.model.specs.Image.{rows}
use Rattle.model.specs.Ring.{cursor, stamp, cell}
use Rattle.model.specs.Lent.{Lent, creation, ring}
use Rattle.model.specs.Record.{Entry}
use Rattle.model.specs.Store.{Call, Reply, refused, done, wrote, read, call, after, replies, record_call, batch_call, consolidate_call, Shown, shown, points, writes, refusal}
use Rattle.model.specs.Cases.{Cases-defs, tier_of, plan_of, ring10, fresh, num, rec, infinity, everything, at, end64}

unfoldable pub number_in : Reply → ℕ
number_in (refused n) = n
number_in done = 0
number_in (wrote k) = 0
number_in (read a) = 0

unfoldable pub entry : ℕ → ℕ → ℕ → Entry
entry k c v = record { schema = k; column = c; value = v }

-- the refusals of calls in a row, 0 where one is accepted
unfoldable pub answers_of : Lent → List Call → List ℕ
answers_of l cs = map number_in (replies l cs)

-- what column 0 of tier 0 reads
unfoldable pub reads : Lent → Shown
reads l = shown (call l (everything 0)).reply

-- a ring of four slots: 90 in slot 1, 100 in slot 2, at the cursor
unfoldable pub held100 : Lent
held100 = after (creation (plan_of 1 (ring10 4)) (record { image = replicate 264 0; flags = replicate 32 true })) (record_call 0 0 0 90 ∷ record_call 0 0 0 100 ∷ [])

-- two schemas, one ring of four slots each; then 90 and 100 in the second
unfoldable pub both : Lent
both = creation (plan_of 2 (tier_of 0 0 10 40 0 2 ∷ tier_of 1 0 10 40 0 2 ∷ [])) (record { image = replicate 496 0; flags = replicate 32 true })

unfoldable pub second90 : Lent
second90 = after both (record_call 1 0 0 90 ∷ record_call 1 0 0 100 ∷ [])

-- averages of 30 ns; windows 30, 120 and 150 hold numbers, 180 an infinite sum: 12 ends the run, which keeps its writes and no mark. The coarser ring has three
-- slots: 30 and 120 share slot 1, 150 has slot 2
unfoldable pub huge : ℕ
huge = 0x7fef_ffff_ffff_ffff

unfoldable pub halted : Lent
halted =
    after (fresh (tier_of 0 0 10 200 0 1 ∷ tier_of 0 1 30 90 1 1 ∷ []))
    (rec 30 1 ∷ rec 120 4 ∷ rec 150 5 ∷ record_call 0 0 huge 180 ∷ record_call 0 0 huge 190 ∷ consolidate_call ∷ [])

-- 180 and 190 recorded again, with numbers; or all but 30 made NaN
unfoldable pub mended : List Call
mended = rec 180 6 ∷ rec 190 8 ∷ []

unfoldable pub emptied : List Call
emptied = map (λ t. record_call 0 0 fresh_value t) (120 ∷ 150 ∷ 180 ∷ 190 ∷ [])

-- x in the 8 bytes at o, by hand
unfoldable pub poked : ℕ → ℕ → Lent → Lent
poked o x l = record { image = put 8 l.image o x; flags = l.flags }

-- a coarser ring whose one slot holds 90, by hand: one column, its stamp at 376; two columns; and a third tier behind it, the value 4 with the stamp
unfoldable pub late90 : Lent
late90 = poked 376 90 (fresh (tier_of 0 0 10 50 0 1 ∷ tier_of 0 1 30 30 1 1 ∷ []))

unfoldable pub two90 : Lent
two90 = poked 424 90 (fresh (tier_of 0 0 10 50 0 2 ∷ tier_of 0 1 30 30 1 2 ∷ []))

unfoldable pub three90 : Lent
three90 = poked 448 (num 4) (poked 440 90 (fresh (tier_of 0 0 10 50 0 1 ∷ tier_of 0 1 30 30 1 1 ∷ tier_of 0 2 60 60 1 1 ∷ [])))

-- a run's answer; then the pair's mark, and cursor, flag and stamps of the coarser ring
pub record Coarse : Type 0 where
  pub reply : Shown
  pub mark : List ℕ
  pub cursor : ℕ
  pub wrapped : Bool
  pub stamps : List ℕ

unfoldable pub coarse : Lent → Coarse
coarse l =
    let d = call l consolidate_call in
    let r = ring d.lent 1 in
    record {
      reply = shown d.reply;
      mark = map (λ x. x.mark) (take 1 (rows d.lent.image));
      cursor = cursor r.slab;
      wrapped = r.wrapped;
      stamps = stamp r.slab 0 ∷ stamp r.slab 1 ∷ stamp r.slab 2 ∷ [];
    }

unfoldable pub runs : List Call → Shown
runs cs = shown (call (after late90 cs) consolidate_call).reply

unfoldable Supersede-defs : Unit {0}
unfolding Cases-defs number_in entry answers_of reads held100 both second90 huge halted mended emptied poked late90 two90 three90 coarse runs
Supersede-defs = tt

-- ---- a single record

-- 50 and 90 have slot 1. Then old: 50; 10; 50 as NaN; 50 of another column, since a slot has one stamp. 60 is below the newest, but its slot is fresh; 70, above
-- it, is taken; then 60 again is equal
pub singles_are :
    answers_of (fresh (ring10 4)) (rec 50 5 ∷ rec 90 9 ∷ rec 50 1 ∷ rec 10 1 ∷ record_call 0 0 fresh_value 50 ∷ record_call 0 1 0 50 ∷ rec 60 1 ∷ rec 70 1 ∷ rec 60 2 ∷ [])
    ≡ 0 ∷ 0 ∷ 18 ∷ 18 ∷ 18 ∷ 18 ∷ 0 ∷ 0 ∷ 0 ∷ []
unfolding Supersede-defs
singles_are = refl

-- stamps are compared, not interval numbers: 91 is later than 90, and 90 then is old
pub edges_are : answers_of (fresh (ring10 4)) (rec 90 9 ∷ rec 90 8 ∷ rec 91 1 ∷ rec 90 7 ∷ rec 91 2 ∷ []) ≡ 0 ∷ 0 ∷ 0 ∷ 18 ∷ 0 ∷ []
unfolding Supersede-defs
edges_are = refl

-- on equal stamps the later call's value reads; an old one left nothing
pub later-reads :
    reads (after (fresh (ring10 4)) (rec 50 5 ∷ rec 90 9 ∷ rec 90 8 ∷ rec 50 7 ∷ [])) ≡ points 0 (Some 90) (Some 90) 0 end64 true (at 90 8 ∷ [])
unfolding Supersede-defs
later-reads = refl

-- refused, it leaves image and flags: slot 1 is below the cursor
pub refused_leaves : (call held100 (record_call 0 0 (num 5) 50)).lent ≡ held100
unfolding Supersede-defs
refused_leaves = refl

-- a stamp of 0 is no sample's: the first sample of a slot is never old. 13 comes first; the greatest good stamp is never old
pub ends_are :
    answers_of (fresh (ring10 4)) (rec 1 1 ∷ record_call 0 0 0 0 ∷ record_call 0 0 0 (2 ^ 63 - 1) ∷ []) ≡ 0 ∷ 13 ∷ 0 ∷ []
unfolding Supersede-defs
ends_are = refl

-- a slot whose stamp is 2^63 or more, written by somebody else, takes no sample; its stamp stands at 176. NaN holds its slot's stamp as a number does
pub held-by-others :
    number_in (call (record { image = put 8 (fresh (ring10 4)).image 176 (2 ^ 63); flags = [] }) (rec 50 1)).reply
    ∷ answers_of (fresh (ring10 4)) (record_call 0 0 fresh_value 90 ∷ rec 50 1 ∷ [])
    ≡ 18 ∷ 0 ∷ 18 ∷ []
unfolding Supersede-defs
held-by-others = refl

-- each schema's own ring is asked
pub schemas_are : answers_of second90 (record_call 1 0 0 50 ∷ record_call 0 0 0 50 ∷ []) ≡ 18 ∷ 0 ∷ []
unfolding Supersede-defs
schemas_are = refl

-- ---- a batch over several schemas

-- schema 1 holds 90: a batch over both is refused, in either order; over schema 0 alone it is not asked there; over both at 90 it is taken, a column named twice too
pub batches_are :
    answers_of second90 (batch_call (entry 0 0 0 ∷ entry 1 1 0 ∷ []) 50 ∷ batch_call (entry 1 1 0 ∷ entry 0 0 0 ∷ []) 50 ∷ batch_call (entry 0 0 0 ∷ []) 50
    ∷ batch_call (entry 0 0 (num 1) ∷ entry 1 1 0 ∷ entry 0 0 (num 2) ∷ []) 90 ∷ [])
    ≡ 18 ∷ 18 ∷ 0 ∷ 0 ∷ []
unfolding Supersede-defs
batches_are = refl

-- 11, then 13, then 12, then 18; an empty batch is accepted
pub batch_order-is :
    answers_of second90 (batch_call (entry 1 0 0 ∷ entry 1 2 0 ∷ []) 50 ∷ batch_call (entry 1 0 infinity ∷ []) 0 ∷ batch_call (entry 1 0 infinity ∷ []) 50
    ∷ batch_call (entry 1 0 0 ∷ []) 50 ∷ batch_call [] 50 ∷ []) ≡ 11 ∷ 13 ∷ 12 ∷ 18 ∷ 0 ∷ []
unfolding Supersede-defs
batch_order-is = refl

-- a refused batch stores in no ring, schema 0's included
pub batch_leaves : (call second90 (batch_call (entry 0 0 0 ∷ entry 1 1 0 ∷ []) 50)).lent ≡ second90
unfolding Supersede-defs
batch_leaves = refl

-- ---- a run

-- the mended run: 30 is passed over and not counted; 120 and 150 are equal and written again, 180 is new: 3 writes, the mark at the newest; the coarser ring's flag
-- is true, since 120 has slot 1, below the cursor
pub mended-is :
    coarse (after halted mended) ≡ record { reply = writes 3; mark = 190 ∷ []; cursor = 0; wrapped = true; stamps = 180 ∷ 120 ∷ 150 ∷ [] }
unfolding Supersede-defs
mended-is = refl

-- the one write is passed over: nothing was written, so mark, cursor and flag stay
pub emptied-is :
    coarse (after halted emptied) ≡ record { reply = writes 0; mark = 0 ∷ []; cursor = 2; wrapped = false; stamps = 0 ∷ 120 ∷ 150 ∷ [] }
unfolding Supersede-defs
emptied-is = refl

-- the cell behind a write that is passed over stays: 120's value, 4
pub passed_leaves_cell : cell (ring (call (after halted emptied) consolidate_call).lent 1).slab 0 1 ≡ num 4
unfolding Supersede-defs
passed_leaves_cell = refl

-- 12 and 13 are tried before a write is passed over: window 30 is passed over, and nothing was written; with an infinite sum it is 12; window 0 is 13. Window 90 is
-- equal, and written
pub tried_first :
    runs (rec 30 1 ∷ []) ∷ runs (record_call 0 0 huge 30 ∷ record_call 0 0 huge 40 ∷ []) ∷ runs (rec 10 1 ∷ []) ∷ runs (rec 90 1 ∷ []) ∷ []
    ≡ writes 0 ∷ refusal 12 ∷ refusal 13 ∷ writes 1 ∷ []
unfolding Supersede-defs
tried_first = refl

-- a passed-over write ends nothing: the window after it is written; the next column is tried, whose sum is infinite; the next pair is filled, from 4 at 90
pub goes_on :
    runs (rec 30 1 ∷ rec 90 2 ∷ []) ∷ shown (call (after two90 (rec 30 1 ∷ record_call 0 1 huge 30 ∷ record_call 0 1 huge 40 ∷ [])) consolidate_call).reply
    ∷ shown (call (after three90 (rec 30 1 ∷ [])) consolidate_call).reply ∷ []
    ≡ writes 1 ∷ refusal 12 ∷ writes 1 ∷ []
unfolding Supersede-defs
goes_on = refl

-- the NaN of a window with nothing finite is passed over, too: 30's cell, at 292, made infinite by hand
pub nothing_finite : shown (call (poked 292 infinity (after late90 (rec 30 1 ∷ []))) consolidate_call).reply ≡ writes 0
unfolding Supersede-defs
nothing_finite = refl
