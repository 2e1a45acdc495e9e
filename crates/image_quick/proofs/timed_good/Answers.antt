-- `image_quick::timed_good` meets its contract: the tests that were passed are the facts; the interval's upper half is the second word of the two that stand in the
use mathlib.Core.Bool.{false≢true}
use Rattle.std.proofs.Common.{◌≡◌, ◌+◌, ◌*◌, ◌^◌, ◌<◌, sym, ap, ◌∙◌, arith}
use Rattle.model.specs.Bytes.{get}
use Rattle.image_quick.specs.Seen.{Low, get-two}
use Rattle.image_quick.proofs.timed_good.Goals as goal

pub is_low-low-requires : goal.is_low-low-requires
is_low-low-requires c =
    let p = c.requires in (p.1, p.2, c.get_u32-high.ensures.1)

pub returns-then-not-low : goal.returns-then-not-low
returns-then-not-low c = λ e. absurd (false≢true e)

pub returns-then-x-interval : goal.returns-then-x-interval
returns-then-x-interval c = λ e. absurd (false≢true e)

pub slots_good-requires : goal.slots_good-requires
slots_good-requires c =
    let low : Low c.args.n c.get_u32-high.result = c.is_low-low.ensures c.if-not-low.false in
    let bounded : let a = c.args in a.n * a.r.interval + a.r.interval < 2 ^ 63 =
    let a = c.args in
    let four : a.at + 24 + 4 ≡ a.at + 28 = omega arith in
    let halves = c.two_u32-x.ensures in
    low a.r.interval (omega (arith, c.if-x-interval.false, halves.0, halves.1, ap (get 4 a.s.now) four, c.get_u32-high.ensures.0)) in
    bounded

pub returns : goal.returns
returns c =
    let same : let a = c.args in get 8 a.s.now (a.at + 24) ≡ a.r.interval =
    get-two c.args.s.now (c.args.at + 24) (omega (arith, c.requires.0)) ∙ sym c.two_u32-x.ensures.0 ∙ c.if-x-interval.false in
    λ e. record { interval-is = same; slotted = c.slots_good.ensures e }
