-- `image_quick::joins` meets its contract: the next tier by its word, or the first row of the next schema. Assumes nothing.
use Rattle.std.proofs.Common.{◌+◌, arith}
use Rattle.image_quick.specs.Seen.{Begun, Followed, Joined, good-map}
use Rattle.image_quick.proofs.Laws.{schema_low, tier-low, next_start, next-tier}
use Rattle.image_quick.proofs.joins.Goals as goal

pub overflow_add-w : goal.overflow_add-w
overflow_add-w c =
    let p = c.requires in omega (arith, c.two_u32-w.ensures.0, schema_low p.2, tier-low p.2, p.1)

pub follows-requires : goal.follows-requires
follows-requires c =
    let p = c.requires in (p.0, p.3)

pub returns-then-x-w : goal.returns-then-x-w
returns-then-x-w c =
    let s = c.args.s.now in
    let i = c.args.i in
    good-map (Followed s i) (Joined s i) (λ q. next-tier s i c.two_u32-w.ensures c.two_u32-x.ensures c.if-x-w.true) c.follows.result c.follows.ensures

pub overflow_add-k : goal.overflow_add-k
overflow_add-k c = omega (arith, c.get_u32-k.ensures.1)

pub starts-requires : goal.starts-requires
starts-requires c =
    let p = c.requires in (omega (arith, p.0), omega (arith, c.get_u32-k.ensures.0, schema_low p.2, p.1))

pub returns : goal.returns
returns c =
    let a = c.args in
    let s = a.s.now in
    let i = a.i in
    good-map (Begun s (i + 1) (c.get_u32-k.result + 1)) (Joined s i) (λ q. next_start s i c.get_u32-k.ensures.0) c.starts.result c.starts.ensures
