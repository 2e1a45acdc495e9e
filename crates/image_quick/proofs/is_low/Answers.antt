-- `image_quick::is_low` meets its contract. Assumes nothing.
use Rattle.std.proofs.Common.{◌≤◌, mul-le-mul_right, arith}
use Rattle.laws.specs.Tests.{lt-is}
use Rattle.image_quick.proofs.Laws.{product_low}
use Rattle.image_quick.proofs.is_low.Goals as goal

pub overflow_mul-result : goal.overflow_mul-result
overflow_mul-result c =
    let up : c.args.high ≤ 4_294_967_295 = omega (arith, c.requires.2) in omega (arith, mul-le-mul_right c.args.n up, c.requires.1)

pub returns : goal.returns
returns c = λ e. product_low c.args.n c.args.high c.requires.0 c.requires.1 (lt-is _ 1_006_632_960 e)
