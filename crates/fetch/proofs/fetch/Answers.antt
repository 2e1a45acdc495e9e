-- `fetch::fetch` meets its contract. Assumes nothing.
use Prim.Native.Nat.{◌≤◌}
use native.Mathlib.Omega.{arith}
use mathlib.Core.Path.{◌≡◌, sym, ◌∙◌}
use mathlib.Core.Bool.{true}
use lib.ListN.{length}
use Rattle.model.specs.Read.{readable}
use Rattle.reader.proofs.Laws.{header_there, held}
use Rattle.fetch.proofs.Turn.{no_room, unread}
use Rattle.fetch.proofs.fetch.Goals as goal

-- it can be read
reads : (c : goal.Then-reads) → readable c.args.slab.now c.args.column c.args.place ≡ true
reads c = sym c.is_readable-reads.ensures ∙ c.if-reads.true

long : (c : goal.Then-reads) → 64 ≤ length c.args.slab.now
long c = let a = c.args in header_there a.slab.now a.column a.place (reads c)

pub returns-then-points-lt2 : goal.returns-then-points-lt2
returns-then-points-lt2 c =
    let a = c.args in
    let e = no_room a.slab.now a.column a.start a.end a.points.now a.place c.if-points-lt2.true in
    record { count = e.counted; place = e.placed; stored = e.stored }

pub get_u32-n-requires : goal.get_u32-n-requires
get_u32-n-requires c = omega (arith, long c)

pub get_u32-m-requires : goal.get_u32-m-requires
get_u32-m-requires c = omega (arith, (let it : 64 ≤ length c.args.slab.now = let a = c.args in header_there a.slab.now a.column a.place (sym c.is_readable-reads.ensures ∙ c.if-reads.true) in it))

pub fetch_from-requires : goal.fetch_from-requires
fetch_from-requires c =
    let a = c.args in
    record { held = (held a.slab.now a.column a.place (sym c.is_readable-reads.ensures ∙ c.if-reads.true) c.get_u32-n.ensures.0 c.get_u32-m.ensures.0).0; place_value = (sym c.is_readable-reads.ensures ∙ c.if-reads.true) }

pub returns : goal.returns
returns c =
    let a = c.args in
    let not-read = sym c.is_readable-reads.ensures ∙ c.if-reads.false in
    let e = unread a.slab.now a.column a.start a.end a.points.now a.place c.if-points-lt2.false not-read in
    record { count = e.counted; place = e.placed; stored = e.stored }
