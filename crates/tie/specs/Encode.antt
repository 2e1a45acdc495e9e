-- Every list of calls whose fields fit their widths, an opening's flags 32, and so every list that can be made, stands in some bytes: reading `encoded cs`
-- gives cs again (`calls_are`, proofs/Encoded.antt). So what `tie::demand` promises of calls in bytes it promises of all these lists. Assumes nothing.
use Rattle.std.specs.Prelude.{ℕ, ◌^◌, ◌<◌, ◌≡◌, List, [], ◌∷◌, ◌++◌, length}
use Rattle.model.specs.Bytes.{bytes}
use Rattle.model.specs.Record.{Entry}
use Rattle.model.specs.Store.{Call, record_call, batch_call, query_call, auto_call, consolidate_call, open_call}
use Rattle.flag_bits.specs.Bits.{number}

-- ---- the bytes of calls

unfoldable pub head : (kind k c j x y : ℕ) → List ℕ
head kind k c j x y = bytes 4 kind ++ bytes 4 k ++ bytes 4 c ++ bytes 4 j ++ bytes 8 x ++ bytes 8 y

unfoldable pub entry_bytes : Entry → List ℕ
entry_bytes e = bytes 4 e.schema ++ bytes 4 e.column ++ bytes 8 e.value

unfoldable pub entries_bytes : List Entry → List ℕ
entries_bytes [] = []
entries_bytes (e ∷ es) = entry_bytes e ++ entries_bytes es

unfoldable pub encode : Call → List ℕ
encode (record_call k c v t) = head 0 k c 0 v t
encode (batch_call es t) = head 1 0 0 (length es) 0 t ++ entries_bytes es
encode (query_call k c j start end) = head 2 k c j start end
encode (auto_call k c start end) = head 3 k c 0 start end
encode (open_call fs) = head 4 (number fs) 0 0 0 0
encode consolidate_call = head 5 0 0 0 0 0

unfoldable pub encoded : List Call → List ℕ
encoded [] = []
encoded (c ∷ cs) = encode c ++ encoded cs

-- ---- fields within their widths

pub record EntryFits (e : Entry) : Type 0 where
  pub schema : e.schema < 2 ^ 32
  pub column : e.column < 2 ^ 32
  pub value : e.value < 2 ^ 64

unfoldable pub EntriesFit : List Entry → Type 0
EntriesFit [] = Unit {0}
EntriesFit (e ∷ es) = EntryFits e × EntriesFit es

unfoldable pub Fits : Call → Type 0
Fits (record_call k c v t) = (k < 2 ^ 32) × (c < 2 ^ 32) × (v < 2 ^ 64) × (t < 2 ^ 64)
Fits (batch_call es t) = (length es < 2 ^ 32) × EntriesFit es × (t < 2 ^ 64)
Fits (query_call k c j start end) = (k < 2 ^ 32) × (c < 2 ^ 32) × (j < 2 ^ 32) × (start < 2 ^ 64) × (end < 2 ^ 64)
Fits (auto_call k c start end) = (k < 2 ^ 32) × (c < 2 ^ 32) × (start < 2 ^ 64) × (end < 2 ^ 64)
Fits (open_call fs) = length fs ≡ 32
Fits consolidate_call = Unit {0}

unfoldable pub AllFit : List Call → Type 0
AllFit [] = Unit {0}
AllFit (c ∷ cs) = Fits c × AllFit cs
