-- `image_quick::slots_good` meets its contract: the product cannot wrap, and the rest is below the interval. Assumes nothing.
use Rattle.std.proofs.Common.{arith}
use Rattle.laws.specs.Tests.{lt-is}
use Rattle.image_quick.proofs.Laws.{slotted_is}
use Rattle.image_quick.proofs.slots_good.Goals as goal

pub overflow_mul-n : goal.overflow_mul-n
overflow_mul-n c = omega (arith, c.requires)

pub returns : goal.returns
returns c =
    let a = c.args in
    λ e. slotted_is a.n a.interval a.retention c.requires c.wrapping_sub_u64-rest.ensures.value (lt-is c.wrapping_sub_u64-rest.result a.interval e)
