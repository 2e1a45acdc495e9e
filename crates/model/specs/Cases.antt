-- The cases A to L of document 01 as rows of one table, and the theorem that each row holds, by computation; then the figures of the request 2026-04.
-- The stores have two series, so that the Rust can run A to L. Assumes nothing.
use Rattle.std.specs.Prelude.{ℕ, zero, suc, ◌*◌, ◌≡◌, refl, Bool, true, false, List, [], ◌∷◌, ◌++◌, map, length, take, replicate, pos, neg_ℤ, Some}
use Rattle.std.specs.Float.{binary64}
use Rattle.std.specs.Float.Ieee.{of_bits, to_bits, of_int, add, div, lt}
use Rattle.model.specs.declared.Row.{Row}
use Rattle.model.specs.declared.Point.{Point}
use Rattle.model.specs.declared.ConsolidationFn.{ConsolidationFn}
use Rattle.model.specs.declared.ConsolidationFn.TheVariants.{Average}
use Rattle.model.specs.declared.WindowAnswer.{WindowAnswer}
use Rattle.model.specs.declared.WindowAnswer.TheVariants.{Empty, Number, NothingFinite}
use Rattle.model.specs.Bytes.{Bytes-defs, bytes}
use Rattle.model.specs.Words.{Words-defs}
use Rattle.model.specs.Layout.{Layout-defs, fresh_value, stamps_at, column_at, slab_length}
use Rattle.model.specs.Image.{Image-defs, rows, row_place, row_count, placed_rows, all_rows, plan_check, image_length, row_slots}
use Rattle.model.specs.Ring.{Ring-defs}
use Rattle.model.specs.Read.{Read-defs, full, incomplete}
use Rattle.model.specs.Window.{Window-defs, held_value, seen, finites, answer_of}
use Rattle.model.specs.Lent.{Lent-defs, Lent, creation}
use Rattle.model.specs.Record.{Record-defs}
use Rattle.model.specs.Query.{Query-defs}
use Rattle.model.specs.Consolidate.{Consolidate-defs}
use Rattle.model.specs.Figure.{Figure-defs, panel, service, shows, shows_nothing, serves, serves_nothing}
use Rattle.model.specs.Store.{Store-defs, Call, Done, call, after, record_call, batch_call, query_call, consolidate_call, open_call, done, Shown, refusal, writes, points, shown}

-- ---- plans, samples, stores

-- a plan's row: schema k, tier j
unfoldable pub tier_of : (k j interval retention function series : ℕ) → Row
tier_of k j i r f m =
    record { schema = k; tier = j; interval = i; retention = r; function = f; series = m; offset = 0; len = 0; mark = 0; hash = 7 }

-- of schema 0, with two series
unfoldable pub tier : (j interval retention function : ℕ) → Row
tier j i r f = tier_of 0 j i r f 2

-- the bytes of a plan of k schemas
unfoldable pub plan_of : ℕ → List Row → List ℕ
plan_of k rs = (0x52 ∷ 0x53 ∷ 0x54 ∷ 0x4f ∷ []) ++ bytes 4 1 ++ bytes 4 k ++ bytes 4 (length rs) ++ replicate 16 0 ++ all_rows rs

unfoldable pub plan : List Row → List ℕ
plan rs = plan_of 1 rs

-- a whole number as a sample
unfoldable pub num : ℕ → ℕ
num n = to_bits binary64 (of_int binary64 (pos n))

unfoldable pub infinity : ℕ
infinity = 0x7ff0_0000_0000_0000

unfoldable pub fresh : List Row → Lent
fresh rs = creation (plan rs) (record { image = replicate 700 0; flags = replicate 32 true })

-- ---- what a case asks, and what it is answered

pub data Question : Type 0 where
  -- where a slab of n slots and m series has its stamps and columns, and its length
  slab : (n m : ℕ) → Question
  -- a plan's slots, offsets and total
  layout : List Row → Question
  -- a plan's check, the slice to be written aside
  check : List Row → Question
  -- calls on a fresh store: flags and marks at the end, and the last reply
  story : List Row → List Call → Question
  -- whether a ring with these ends covers the range from start up to end in full, and whether the answer may be incomplete
  coverage : (oldest newest start end : ℕ) → Question
  -- what a function makes of a window's values
  window : ConsolidationFn → List ℕ → Question

pub data Result : Type 0 where
  numbers : List ℕ → Result
  last : (flags : List Bool) (marks : List ℕ) → Shown → Result
  covered : (full incomplete : Bool) → Result
  value : ℕ → Result
  empty nothingFinite : Result

unfoldable pub columns : ℕ → ℕ → ℕ → ℕ → List ℕ
columns n m c zero = []
columns n m c (suc k) = column_at n m c ∷ columns n m (suc c) k

-- the last of the calls: what it answers and leaves
unfoldable pub last_call : Done → List Call → Done
last_call d [] = d
last_call d (c ∷ cs) = last_call (call d.lent c) cs

unfoldable pub result_of : WindowAnswer → Result
result_of Empty = empty
result_of (Number x) = value (to_bits binary64 x)
result_of NothingFinite = nothingFinite

unfoldable pub shown_on : Done → Result
shown_on d = let l = d.lent in last (take (row_count l.image) l.flags) (map (λ x. x.mark) (rows l.image)) (shown d.reply)

unfoldable pub result : Question → Result
result (slab n m) = numbers (stamps_at m ∷ columns n m 0 m ++ slab_length n m ∷ [])
result (layout rs) =
    numbers (map row_slots rs ++ map (λ r. r.offset) (placed_rows (row_place (length rs)) rs) ++ image_length (plan rs) ∷ [])
result (check rs) = numbers (plan_check (plan rs) ∷ [])
result (story rs cs) = shown_on (last_call (record { reply = done; lent = fresh rs }) cs)
result (coverage o n start end) = covered (full (Some o) (Some n) start end) (incomplete (Some o) (Some n) start end)
result (window f vs) = let hs = map held_value vs in result_of (answer_of f (seen hs) (finites hs))

-- ---- the table

pub record Case : Type 0 where
  pub ask : Question
  pub reply : Result

infix 5 ◌gives◌
unfoldable pub ◌gives◌ : Question → Result → Case
q gives a = record { ask = q; reply = a }

unfoldable pub seconds : ℕ → ℕ
seconds n = n * 1_000_000_000

-- B: 1 s for 1 h, 60 s for 24 h, 1 h for 30 days
unfoldable pub three : List Row
three = tier 0 (seconds 1) (seconds 3600) 0 ∷ tier 1 (seconds 60) (seconds 86_400) 1 ∷ tier 2 (seconds 3600) (seconds 2_592_000) 1 ∷ []

-- interval 10 and n slots
unfoldable pub ring10 : ℕ → List Row
ring10 n = tier 0 10 (10 * n) 0 ∷ []

-- 10 into 30
unfoldable pub two : List Row
two = tier 0 10 90 0 ∷ tier 1 30 90 1 ∷ []

-- a sample n at t, of column 0
unfoldable pub rec : ℕ → ℕ → Call
rec t n = record_call 0 0 (num n) t

unfoldable pub end64 : ℕ
end64 = 0xffff_ffff_ffff_ffff

-- a query of column 0 at tier j over all time
unfoldable pub everything : ℕ → Call
everything j = query_call 0 0 j 0 end64

unfoldable pub at : ℕ → ℕ → Point
at t n = record { stamp = t; value = num n }

unfoldable pub cases : List Case
cases =
    -- A
    (slab 60 2 gives numbers (72 ∷ 552 ∷ 1_032 ∷ 1_512 ∷ []))
    -- B
    ∷ (layout three gives numbers (3_600 ∷ 1_440 ∷ 720 ∷ 224 ∷ 86_696 ∷ 121_328 ∷ 138_680 ∷ []))
    -- C
    ∷ (check (tier 0 1 1_000_000_000 0 ∷ []) gives numbers (0 ∷ []))
    ∷ (check (tier 0 1 1_000_000_001 0 ∷ []) gives numbers (5 ∷ []))
    -- D
    ∷ (story (ring10 4) (rec 10 1 ∷ rec 20 2 ∷ rec 30 3 ∷ rec 40 4 ∷ everything 0 ∷ [])
    gives last (true ∷ []) (0 ∷ []) (points 0 (Some 10) (Some 40) 0 end64 true (at 10 1 ∷ at 20 2 ∷ at 30 3 ∷ at 40 4 ∷ [])))
    -- beside D: another column at the same stamp leaves this column's cell
    ∷ (story (ring10 4) (rec 10 1 ∷ record_call 0 1 (num 2) 10 ∷ everything 0 ∷ [])
    gives last (false ∷ []) (0 ∷ []) (points 0 (Some 10) (Some 10) 0 end64 true (at 10 1 ∷ [])))
    -- E
    ∷ (story (ring10 4) (rec 10 1 ∷ rec 20 2 ∷ rec 30 3 ∷ rec 40 4 ∷ record_call 0 0 fresh_value 15 ∷ everything 0 ∷ [])
    gives last (true ∷ []) (0 ∷ []) (points 0 (Some 20) (Some 15) 0 end64 true (at 20 2 ∷ at 30 3 ∷ at 40 4 ∷ [])))
    -- F
    ∷ (coverage 10 40 10 40 gives covered true false)
    ∷ (coverage 10 40 10 41 gives covered false false)
    ∷ (coverage 10 40 9 40 gives covered false true)
    -- G
    ∷ (story (ring10 4) (record_call 0 0 infinity 0 ∷ []) gives last (false ∷ []) (0 ∷ []) (refusal 12))
    ∷ (story (ring10 4) (batch_call (record { schema = 0; column = 0; value = infinity } ∷ []) 0 ∷ []) gives last (false ∷ []) (0 ∷ []) (refusal 13))
    -- H
    ∷ (window Average (num 1 ∷ num 2 ∷ num 4 ∷ []) gives value 0x4002_aaaa_aaaa_aaab)
    ∷ (window Average (infinity ∷ infinity ∷ []) gives nothingFinite)
    -- I
    ∷ (story (tier 0 10 40 0 ∷ tier 1 20 80 1 ∷ tier 2 40 80 1 ∷ []) (query_call 0 0 3 5 5 ∷ [])
    gives last (false ∷ false ∷ false ∷ []) (0 ∷ 0 ∷ 0 ∷ []) (refusal 14))
    -- J, with the request 2026-01: the window that holds the mark is read again from its start. In document 01 the run after 5 at 60 wrote the window at 60
    -- alone (writes 1), and that window then held 8, the mean of 7 and 9
    ∷ (story two (rec 30 1 ∷ rec 40 2 ∷ rec 50 6 ∷ consolidate_call ∷ []) gives last (false ∷ false ∷ []) (50 ∷ 0 ∷ []) (writes 1))
    ∷ (story two (rec 30 1 ∷ rec 40 2 ∷ rec 50 6 ∷ consolidate_call ∷ everything 1 ∷ [])
    gives last (false ∷ false ∷ []) (50 ∷ 0 ∷ []) (points 1 (Some 30) (Some 30) 0 end64 true (at 30 3 ∷ [])))
    ∷ (story two (rec 30 1 ∷ rec 40 2 ∷ rec 50 6 ∷ consolidate_call ∷ rec 60 5 ∷ consolidate_call ∷ []) gives last (false ∷ false ∷ []) (60 ∷ 0 ∷ []) (writes 2))
    ∷ (story two (rec 30 1 ∷ rec 40 2 ∷ rec 50 6 ∷ consolidate_call ∷ rec 60 5 ∷ consolidate_call ∷ rec 70 7 ∷ rec 80 9 ∷ consolidate_call ∷ everything 1 ∷ [])
    gives last (false ∷ false ∷ []) (80 ∷ 0 ∷ []) (points 1 (Some 30) (Some 60) 0 end64 true (at 30 3 ∷ at 60 7 ∷ [])))
    -- beside J: two windows in one run are two writes
    ∷ (story two (rec 30 1 ∷ rec 40 2 ∷ rec 50 6 ∷ rec 60 5 ∷ consolidate_call ∷ []) gives last (false ∷ false ∷ []) (60 ∷ 0 ∷ []) (writes 2))
    -- K
    ∷ (story two (rec 10 1 ∷ consolidate_call ∷ []) gives last (false ∷ false ∷ []) (0 ∷ 0 ∷ []) (refusal 13))
    -- L, with the request 2026-02: a stamp in any slot above the cursor tells of the wrap, whatever flags opening is handed. In document 01 the reading
    -- after it gave 100 and 110 only
    ∷ (story (ring10 10) (rec 50 1 ∷ rec 60 2 ∷ rec 70 3 ∷ rec 80 4 ∷ rec 90 5 ∷ rec 100 6 ∷ rec 110 7 ∷ open_call (replicate 32 false) ∷ everything 0 ∷ [])
    gives last (true ∷ []) (0 ∷ []) (points 0 (Some 50) (Some 110) 0 end64 true (at 50 1 ∷ at 60 2 ∷ at 70 3 ∷ at 80 4 ∷ at 90 5 ∷ at 100 6 ∷ at 110 7 ∷ [])))
    -- beside L: slots up to the cursor do not count. Document 01's rule took slot 0 for the one after the last, and set the flag; the points are the same
    ∷ (story (ring10 4) (rec 40 1 ∷ rec 50 2 ∷ rec 60 3 ∷ rec 70 4 ∷ open_call (replicate 32 true) ∷ everything 0 ∷ [])
    gives last (false ∷ []) (0 ∷ []) (points 0 (Some 40) (Some 70) 0 end64 true (at 40 1 ∷ at 50 2 ∷ at 60 3 ∷ at 70 4 ∷ [])))
    ∷ []

unfoldable pub Cases-defs : Unit {0}
unfolding Bytes-defs Words-defs Layout-defs Image-defs Ring-defs Read-defs Window-defs Lent-defs Record-defs Query-defs Consolidate-defs Figure-defs Store-defs tier_of tier plan_of plan num infinity fresh columns last_call result_of shown_on result ◌gives◌ seconds three ring10 two rec end64 everything at of_bits to_bits of_int add div lt
Cases-defs = tt

-- a row holds: what the definitions give is what it says
abbrev pub Holds : List Case → Type 0
Holds [] = Unit {0}
Holds (c ∷ cs) = (result c.ask ≡ c.reply) × Holds cs

pub every_case : Holds cases
unfolding Cases-defs cases
every_case = (refl, (refl, (refl, (refl, (refl, (refl, (refl, (refl, (refl, (refl, (refl, (refl, (refl, (refl, (refl, (refl, (refl, (refl, (refl, (refl, (refl, (refl, (refl, tt)))))))))))))))))))))))

-- ---- the request 2026-04

-- minus 0.5 shows 0, 1.5 shows 2, minus 2.5 shows minus 2
pub panel_rounds :
    map (λ v. panel (after (fresh (ring10 4)) (record_call 0 0 v 10 ∷ [])) 0 0 0) (0xbfe0_0000_0000_0000 ∷ 0x3ff8_0000_0000_0000 ∷ 0xc004_0000_0000_0000 ∷ [])
    ≡ shows (pos 0) ∷ shows (pos 2) ∷ shows (neg_ℤ (pos 2)) ∷ []
unfolding Cases-defs
panel_rounds = refl

-- E: the stamp at the cursor is 15, with NaN; the last point that is handed out is 40's, and the ends are the ring's. Column 1 has none: no 0, and no ends
pub figures_of_e :
    let e = after (fresh (ring10 4)) (rec 10 1 ∷ rec 20 2 ∷ rec 30 3 ∷ rec 40 4 ∷ record_call 0 0 fresh_value 15 ∷ []) in
    (panel e 0 0 0 ≡ shows (pos 4)) × (service e 0 0 0 ≡ serves 40 (num 4) (Some 20) (Some 15)) × (panel e 0 1 0 ≡ shows_nothing) × (service e 0 1 0 ≡ serves_nothing)
unfolding Cases-defs
figures_of_e = (refl, refl, refl, refl)
