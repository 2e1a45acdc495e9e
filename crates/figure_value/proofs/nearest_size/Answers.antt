-- `figure_value::nearest_size` meets its contract: below a half, from 2^52 on, between. Assumes nothing.
use Prim.Native.Nat.{◌+◌, ◌-◌, ◌/◌, ◌%◌, ◌^◌}
use native.Mathlib.Nat.{lt_of_le_of_lt, mod-eq_of_lt}
use native.Mathlib.Omega.{arith}
use lib.Dec.{lit<, lit≤}
use Rattle.figure_value.proofs.Laws.{size_none, size_whole, size_between, whole-fits, closest_fits}
use Rattle.figure_value.proofs.nearest_size.Goals as goal

pub returns-then-exponent-lt-HALF : goal.returns-then-exponent-lt-HALF
returns-then-exponent-lt-HALF c = (size_none c.args.size c.requires c.if-exponent-lt-HALF.true, lit≤ tt)

pub returns-then-exponent-ge-WHOLE : goal.returns-then-exponent-ge-WHOLE
returns-then-exponent-ge-WHOLE c =
    let n = c.args.size in
    let b = whole-fits n c.requires c.if-exponent-ge-WHOLE.true in
    rw (mod-eq_of_lt (lt_of_le_of_lt b (lit< tt))) (size_whole n c.requires c.if-exponent-ge-WHOLE.true, b)

pub returns : goal.returns
returns c =
    let n = c.args.size in
    rw c.nearest_shifted.ensures
    (size_between n c.requires (omega arith) (omega arith), closest_fits (2 ^ 52 + n % 2 ^ 52) (1075 - n / 2 ^ 52) (omega arith))
