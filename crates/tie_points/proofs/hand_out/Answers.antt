-- `tie_points::hand_out` meets its contract: what is fetched are the reader's points. Assumes nothing.
use Prim.Native.Nat.{◌/◌}
use lib.ListN.{length}
use Rattle.model.specs.Read.{points_of}
use Rattle.fetch.specs.Laws.{fetched_are}
use Rattle.tie_points.proofs.Laws.{same_points}
use borrow.Author.Rules.{rules}
use Rattle.tie_points.proofs.hand_out.Goals as goal

pub returns : goal.returns
unfolding points_of
returns c =
    let a = c.args in
    let got = c.fetch-fetched.ensures in
    let w = same_points a.out.now (fetched_are a.slab.now a.column a.start a.end (length a.out.now / 2) a.from) (got.count, got.stored) in
    record { count = w.0; stored = w.1 }
