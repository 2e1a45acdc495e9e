-- A row's slab as it is handed on, `&s[offset..end]`. Assumes nothing.
use Rattle.std.specs.Prelude.{ℕ, ◌+◌, ◌-◌, ◌≡◌, List, take, drop}
use Rattle.std.proofs.Common.{arith}
use Rattle.model.specs.declared.Row.{Row}
use Rattle.model.specs.Bytes.{part}
use Rattle.model.specs.Image.{slab_of}

pub handed : (s : List ℕ) (r : Row) → take (r.offset + r.len - r.offset) (drop r.offset s) ≡ slab_of s r
unfolding slab_of part
handed s r = let e : r.offset + r.len - r.offset ≡ r.len = omega arith in rw e
