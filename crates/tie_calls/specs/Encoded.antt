-- A list of calls in bytes, 32 bytes a call: kind u32, schema u32, column u32, tier u32, then two u64. Kind 0 records (value, stamp); 1 is a batch (the
-- number of its entries stands in the tier's place, its stamp in the second u64, and the entries follow, 16 bytes each); 2 queries a tier and 3
-- automatically (start, end); 4 opens (the 32 flags that it is handed stand in the schema's place, bit i is flag i); any other kind consolidates. A last part
-- too short for its call is surplus. Assumes nothing.
use Rattle.std.specs.Prelude.{ℕ, zero, suc, ◌+◌, ◌*◌, ◌/◌, ◌≤◌, Bool, true, false, cond, List, [], ◌∷◌, length, leb, eqb}
use Rattle.std.proofs.Common.{arith}
use Rattle.model.specs.Bytes.{u32, u64, part}
use Rattle.model.specs.Record.{entries}
use Rattle.model.specs.Store.{Call, record_call, batch_call, query_call, auto_call, consolidate_call, open_call}
use Rattle.flag_bits.specs.Bits.{bits}

-- ---- the call at offset o

unfoldable pub batch_size : List ℕ → ℕ → ℕ
batch_size b o = 32 + 16 * u32 b (o + 12)

-- how many bytes it takes
unfoldable pub size_at : List ℕ → ℕ → ℕ
size_at b o = cond (eqb (u32 b o) 1) (batch_size b o) 32

pub size_low : (b : List ℕ) (o : ℕ) → 32 ≤ size_at b o
unfolding size_at batch_size
size_low b o = go (eqb (u32 b o) 1)
  where
    go : (t : Bool) → 32 ≤ cond t (32 + 16 * u32 b (o + 12)) 32
    go true = omega arith
    go false = omega arith

unfoldable pub record_at : List ℕ → ℕ → Call
record_at b o = record_call (u32 b (o + 4)) (u32 b (o + 8)) (u64 b (o + 16)) (u64 b (o + 24))

unfoldable pub batch_at : List ℕ → ℕ → Call
batch_at b o = batch_call (entries (part b (o + 32) (16 * u32 b (o + 12)))) (u64 b (o + 24))

unfoldable pub query_at : List ℕ → ℕ → Call
query_at b o = query_call (u32 b (o + 4)) (u32 b (o + 8)) (u32 b (o + 12)) (u64 b (o + 16)) (u64 b (o + 24))

unfoldable pub auto_at : List ℕ → ℕ → Call
auto_at b o = auto_call (u32 b (o + 4)) (u32 b (o + 8)) (u64 b (o + 16)) (u64 b (o + 24))

-- the flags that an opening is handed
unfoldable pub handed_at : List ℕ → ℕ → List Bool
handed_at b o = bits 32 (u32 b (o + 4))

unfoldable pub open_at : List ℕ → ℕ → Call
open_at b o = open_call (handed_at b o)

unfoldable pub call_at : List ℕ → ℕ → Call
call_at b o =
    cond (eqb (u32 b o) 0) (record_at b o)
    (cond (eqb (u32 b o) 1) (batch_at b o)
    (cond (eqb (u32 b o) 2) (query_at b o) (cond (eqb (u32 b o) 3) (auto_at b o) (cond (eqb (u32 b o) 4) (open_at b o) consolidate_call))))

-- ---- the list

-- at most k calls, from offset o on
unfoldable pub calls_from : List ℕ → ℕ → ℕ → List Call
calls_from b o zero = []
calls_from b o (suc k) = let rest = calls_from b (o + size_at b o) k in cond (leb (o + size_at b o) (length b)) (call_at b o ∷ rest) []

-- all of them: a call takes 32 bytes or more
unfoldable pub calls_in : List ℕ → List Call
calls_in b = calls_from b 0 (length b / 32)
