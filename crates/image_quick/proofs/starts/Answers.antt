-- `image_quick::starts` meets its contract: the tests that were passed are the facts. Assumes nothing.
use Rattle.std.proofs.Common.{refl}
use Rattle.image_quick.proofs.Laws.{start_is, known_start}
use Rattle.image_quick.proofs.starts.Goals as goal

pub returns-then-w-k : goal.returns-then-w-k
returns-then-w-k c = tt

pub returns-then-get_u32-ne0 : goal.returns-then-get_u32-ne0
returns-then-get_u32-ne0 c = tt

pub returns-then-m-eq0 : goal.returns-then-m-eq0
returns-then-m-eq0 c = tt

pub returns : goal.returns
returns c =
    let series = c.get_u32-m.ensures in
    let first = start_is c.args.s.now c.args.i c.args.k c.two_u32-w.ensures c.if-w-k.false c.requires.1
    c.get_u32.ensures.0 c.if-get_u32-ne0.false series.0 c.if-m-eq0.false in
    known_start c.args.s.now c.args.i c.args.k _ first series.0 series.1 refl c.get_u64-hash.ensures
