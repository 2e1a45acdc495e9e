-- `image_quick::begins` meets its contract: the first row, then its slab. Assumes nothing.
use Rattle.std.proofs.Common.{arith}
use Rattle.image_quick.specs.Seen.{good-is, Begun}
use Rattle.image_quick.proofs.begins.Goals as goal

pub starts-requires : goal.starts-requires
starts-requires c = (omega arith, omega arith)

pub returns-in_err-p : goal.returns-in_err-p
returns-in_err-p c = rw c.from_residual.ensures tt

pub place_good-here-requires : goal.place_good-here-requires
place_good-here-requires c = (omega arith, omega arith, (good-is (Begun c.args.span.now.bytes.now 0 0) c.in_ok-p.was c.starts.ensures).known)

pub returns-then-not-here : goal.returns-then-not-here
returns-then-not-here c = tt

pub returns : goal.returns
returns c =
    record {
      begun = good-is (Begun c.args.span.now.bytes.now 0 0) c.in_ok-p.was c.starts.ensures;
      here = c.place_good-here.ensures c.if-not-here.false;
    }
