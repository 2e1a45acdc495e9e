-- `rondo::rondo_read` meets its contract: `fetch::fetch`, its place as two words. Assumes nothing.
use Prim.Native.Nat.{◌/◌}
use mathlib.Core.Path.{◌≡◌, ap}
use lib.ListN.{length}
use Rattle.rondo.specs.Edge.{fetch_at, place_words}
use Rattle.rondo.proofs.rondo_read.Goals as goal

pub returns : goal.returns
returns c =
    let moved : (let a = c.args in c.fetch-fetched.result.place ≡ (fetch_at (length a.points.now / 2) a.slab.now a.column a.start a.end a.place.now).place) = cc in
    let done = c.fetch-fetched.ensures in
    record { count = done.count; moved = ap place_words moved; stored = done.stored }
