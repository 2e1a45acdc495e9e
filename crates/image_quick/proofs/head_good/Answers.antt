-- `image_quick::head_good` meets its contract: the tests that were passed are the facts. Assumes nothing.
use mathlib.Core.Bool.{false≢true}
use Rattle.std.proofs.Common.{◌+◌, ◌*◌, ◌/◌, sym, ◌∙◌, arith}
use Rattle.laws.specs.Tests.{le_is}
use Rattle.model.specs.Image.{row_count, total_length}
use Rattle.image_quick.proofs.Laws.{or_zero}
use Rattle.image_quick.proofs.head_good.Goals as goal

pub returns-then-s-lt-LEAST : goal.returns-then-s-lt-LEAST
returns-then-s-lt-LEAST c = λ e. absurd (false≢true e)

pub returns-then-named-ne-RSTO : goal.returns-then-named-ne-RSTO
returns-then-named-ne-RSTO c = λ e. absurd (false≢true e)

pub returns-then-total-s : goal.returns-then-total-s
returns-then-total-s c = λ e. absurd (false≢true e)

pub returns-then-total-zero-ne0 : goal.returns-then-total-zero-ne0
returns-then-total-zero-ne0 c = λ e. absurd (false≢true e)

pub returns : goal.returns
unfolding row_count total_length
returns c =
    let name = c.two_u32-named.ensures in
    let is = c.if-named-ne-RSTO.false in
    let total = c.get_u64-total.ensures in
    let zeros = or_zero (c.get_u64-total.result / 1_099_511_627_776) c.get_u64-zero.result c.if-total-zero-ne0.false in
    λ e. record {
      long = c.if-s-lt-LEAST.false;
      magic_is = omega (arith, name.0, name.1, is);
      version_is = omega (arith, name.0, name.1, is);
      zero_is = sym c.get_u64-zero.ensures ∙ zeros.1;
      head-low = omega (arith, c.get_u32-n.ensures.0, total, le_is (96 + 64 * c.get_u32-n.result) c.get_u64-total.result e);
      total_low = omega (arith, total, zeros.0);
      fits = omega (arith, total, c.if-total-s.false);
    }
