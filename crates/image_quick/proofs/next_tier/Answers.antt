-- `image_quick::next_tier` meets its contract: schema and tier by one word. Assumes nothing.
use Rattle.image_quick.specs.Seen.{Followed, NextTier, good-map}
use Rattle.image_quick.proofs.Laws.{next_only}
use Rattle.image_quick.proofs.next_tier.Goals as goal

pub returns-then-x-i : goal.returns-then-x-i
returns-then-x-i c = tt

pub follows-requires : goal.follows-requires
follows-requires c = (c.requires.0, c.requires.3)

pub returns : goal.returns
returns c =
    let s = c.args.s.now in
    let i = c.args.i in
    good-map (Followed s i) (NextTier s i) (λ q. next_only s i c.requires.2 c.two_u32-x.ensures c.if-x-i.false) c.follows.result c.follows.ensures
