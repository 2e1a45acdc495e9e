-- `rows::is_blank` meets its contract: the total length and the rows, read as the definition reads them. Assumes nothing.
use native.Mathlib.Omega.{arith}
use Rattle.rows.specs.Rows.{sizes}
use Rattle.rows.proofs.Laws.{blank-is}
use Rattle.rows.proofs.is_blank.Goals as goal

pub get_u64-total-requires : goal.get_u64-total-requires
get_u64-total-requires c =
    let h = sizes c.args.s.now c.requires in omega arith

pub of-table-requires : goal.of-table-requires
of-table-requires c =
    let h = sizes c.args.s.now c.requires in h.there

pub returns : goal.returns
returns c =
    let e = blank-is c.args.s.now in cc
