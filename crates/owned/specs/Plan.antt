-- A plan of one schema, made from its tiers. Assumes nothing.
use Rattle.std.specs.Prelude.{ℕ, suc, cond, ltb, List, [], ◌∷◌, ◌++◌, length}
use Rattle.model.specs.declared.Row.{Row}
use Rattle.model.specs.Bytes.{bytes}
use Rattle.model.specs.Image.{all_rows}
use Rattle.owned.specs.declared.Tier.{Tier}

-- tier i's row: two series, and averages but for the finest tier
abbrev pub plan_row : ℕ → Tier → Row
plan_row i t = record {
  schema = 0;
  tier = i;
  interval = t.interval;
  retention = t.retention;
  function = cond (ltb 0 i) 1 0;
  series = 2;
  offset = 0;
  len = 0;
  mark = 0;
  hash = 7;
}

-- the rows of these tiers, numbered from i on
unfoldable pub plan_rows : ℕ → List Tier → List Row
plan_rows i [] = []
plan_rows i (t ∷ ts) = plan_row i t ∷ plan_rows (suc i) ts

-- the header: magic, version, schemas, rows, length
abbrev pub plan_header : ℕ → List ℕ
plan_header n = bytes 4 0x4f545352 ++ bytes 4 1 ++ bytes 4 1 ++ bytes 4 n ++ bytes 8 0 ++ bytes 8 0

-- a plan's bytes, the finest tier first: a header, and a row a tier
unfoldable pub plan_bytes : List Tier → List ℕ
plan_bytes ts = plan_header (length ts) ++ all_rows (plan_rows 0 ts)
