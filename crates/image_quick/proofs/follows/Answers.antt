-- `image_quick::follows` meets its contract: series and function by one word. Assumes nothing.
use Rattle.image_quick.proofs.Laws.{followed_is}
use Rattle.image_quick.proofs.follows.Goals as goal

pub returns-then-function-gt-FUNCTIONS : goal.returns-then-function-gt-FUNCTIONS
returns-then-function-gt-FUNCTIONS c = tt

pub returns-then-get_u64-p : goal.returns-then-get_u64-p
returns-then-get_u64-p c = tt

pub returns-then-get_u64 : goal.returns-then-get_u64
returns-then-get_u64 c = tt

pub returns : goal.returns
returns c =
    followed_is c.args.s.now c.args.i c.args.p c.requires.1 c.two_u32-x.ensures c.wrapping_sub_u64-function.ensures.value c.if-function-gt-FUNCTIONS.false
    c.get_u64.ensures c.if-get_u64-p.false c.get_u64-2.ensures c.get_u64-3.ensures c.if-get_u64.false
