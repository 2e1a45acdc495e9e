-- `tiers::choose_behind` meets its contract. The loop's invariant (`Choosing`): the choice among the tiers from this one on, with the best so far, is the choice,
use Prim.Native.Nat.{◌+◌, ◌<◌}
use native.Mathlib.Omega.{arith}
use mathlib.Core.Path.{◌≡◌, sym, ◌∙◌}
use mathlib.Core.Bool.{true}
use lib.Dec.{ltb}
use lib.ListN.{length}
use Rattle.model.specs.Image.{row_count, rows, tiers_of}
use Rattle.laws.specs.Tests.{lt-is}
use Rattle.lookup.proofs.Laws.{few_rows}
use Rattle.tiers.proofs.Laws.{tier_there, behind-first, chosen_best, chosen-here, best_here, best_stays}
use Rattle.tiers.proofs.choose_behind.Goals as goal

pub loop-wrapped-init : goal.loop-wrapped-init
loop-wrapped-init c =
    let p = c.requires in
    let a = c.args in
    behind-first a.image.now.bytes.now a.flags a.schema a.first a.start a.end (omega (arith, few_rows a.image.now.bytes.now c.args.image.now.good, tier_there a.image.now.bytes.now c.args.image.now.good a.schema 0 p.first-is p.some_tier)) p

pub has_tier-requires : goal.has_tier-requires
has_tier-requires c =
    let p = c.requires in
    let a = c.args in
    (p.first-is, omega (arith, tier_there a.image.now.bytes.now c.args.image.now.good a.schema 0 p.first-is p.some_tier), omega (arith, c.loop-wrapped.invariant.tier-low))

pub returns : goal.returns
returns c =
    let a = c.args in
    chosen_best a.image.now.bytes.now a.flags a.schema a.first a.start a.end c.loop-wrapped.invariant (sym c.has_tier.ensures ∙ c.loop-wrapped-test.false)

pub overflow_add-first : goal.overflow_add-first
overflow_add-first c =
    let more : let a = c.args in ltb c.loop-wrapped.tier (length (tiers_of a.schema (rows a.image.now.bytes.now))) ≡ true = sym c.has_tier.ensures ∙ c.loop-wrapped-test.true in
    let there : c.args.first + c.loop-wrapped.tier < row_count c.args.image.now.bytes.now =
    let a = c.args in
    tier_there a.image.now.bytes.now c.args.image.now.good a.schema c.loop-wrapped.tier c.requires.first-is (lt-is _ _ more) in
    let low : c.args.first + c.loop-wrapped.tier < 32 = omega (arith, there, few_rows c.args.image.now.bytes.now c.args.image.now.good) in
    omega (arith, low)

pub flag_at-wrapped-requires : goal.flag_at-wrapped-requires
flag_at-wrapped-requires c =
    let more : let a = c.args in ltb c.loop-wrapped.tier (length (tiers_of a.schema (rows a.image.now.bytes.now))) ≡ true = sym c.has_tier.ensures ∙ c.loop-wrapped-test.true in
    let there : c.args.first + c.loop-wrapped.tier < row_count c.args.image.now.bytes.now =
    let a = c.args in
    tier_there a.image.now.bytes.now c.args.image.now.good a.schema c.loop-wrapped.tier c.requires.first-is (lt-is _ _ more) in
    let low : c.args.first + c.loop-wrapped.tier < 32 = omega (arith, there, few_rows c.args.image.now.bytes.now c.args.image.now.good) in
    omega (arith, low)

pub overflow_add-first-in-loop-wrapped : goal.overflow_add-first-in-loop-wrapped
overflow_add-first-in-loop-wrapped c =
    let more : let a = c.args in ltb c.loop-wrapped.tier (length (tiers_of a.schema (rows a.image.now.bytes.now))) ≡ true = sym c.has_tier.ensures ∙ c.loop-wrapped-test.true in
    let there : c.args.first + c.loop-wrapped.tier < row_count c.args.image.now.bytes.now =
    let a = c.args in
    tier_there a.image.now.bytes.now c.args.image.now.good a.schema c.loop-wrapped.tier c.requires.first-is (lt-is _ _ more) in
    let low : c.args.first + c.loop-wrapped.tier < 32 = omega (arith, there, few_rows c.args.image.now.bytes.now c.args.image.now.good) in
    omega (arith, low)

pub ring_at-here-requires : goal.ring_at-here-requires
ring_at-here-requires c =
    let more : let a = c.args in ltb c.loop-wrapped.tier (length (tiers_of a.schema (rows a.image.now.bytes.now))) ≡ true = sym c.has_tier.ensures ∙ c.loop-wrapped-test.true in
    let there : c.args.first + c.loop-wrapped.tier < row_count c.args.image.now.bytes.now =
    let a = c.args in
    tier_there a.image.now.bytes.now c.args.image.now.good a.schema c.loop-wrapped.tier c.requires.first-is (lt-is _ _ more) in
    there

pub returns-then-covers : goal.returns-then-covers
returns-then-covers c =
    let more : let a = c.args in ltb c.loop-wrapped.tier (length (tiers_of a.schema (rows a.image.now.bytes.now))) ≡ true = sym c.has_tier.ensures ∙ c.loop-wrapped-test.true in
    let there : c.args.first + c.loop-wrapped.tier < row_count c.args.image.now.bytes.now =
    let a = c.args in
    tier_there a.image.now.bytes.now c.args.image.now.good a.schema c.loop-wrapped.tier c.requires.first-is (lt-is _ _ more) in
    let low : c.args.first + c.loop-wrapped.tier < 32 = omega (arith, there, few_rows c.args.image.now.bytes.now c.args.image.now.good) in
    let a = c.args in
    chosen-here a.image.now.bytes.now a.flags a.schema a.first a.start a.end c.requires.first-is c.loop-wrapped.invariant
    more low c.ring_at-here.ensures c.flag_at-wrapped.ensures (sym c.is_full-covers.ensures ∙ c.if-covers.true)

pub overflow_add-tier : goal.overflow_add-tier
overflow_add-tier c = omega (arith, c.loop-wrapped.invariant.tier-low)

pub loop-wrapped-smaller : goal.loop-wrapped-smaller
loop-wrapped-smaller c = omega (arith, c.loop-wrapped.invariant.tier-low)

pub loop-wrapped-preserved-then-both : goal.loop-wrapped-preserved-then-both
loop-wrapped-preserved-then-both c =
    let more : let a = c.args in ltb c.loop-wrapped.tier (length (tiers_of a.schema (rows a.image.now.bytes.now))) ≡ true = sym c.has_tier.ensures ∙ c.loop-wrapped-test.true in
    let there : c.args.first + c.loop-wrapped.tier < row_count c.args.image.now.bytes.now =
    let a = c.args in
    tier_there a.image.now.bytes.now c.args.image.now.good a.schema c.loop-wrapped.tier c.requires.first-is (lt-is _ _ more) in
    let low : c.args.first + c.loop-wrapped.tier < 32 = omega (arith, there, few_rows c.args.image.now.bytes.now c.args.image.now.good) in
    let a = c.args in
    let uncovered = sym c.is_full-covers.ensures ∙ c.if-covers.false in
    best_here a.image.now.bytes.now a.flags a.schema a.first a.start a.end c.requires.first-is c.loop-wrapped.invariant
    more low c.ring_at-here.ensures c.flag_at-wrapped.ensures uncovered (sym c.has_both-both.ensures ∙ c.if-both.true)

pub loop-wrapped-preserved : goal.loop-wrapped-preserved
loop-wrapped-preserved c =
    let more : let a = c.args in ltb c.loop-wrapped.tier (length (tiers_of a.schema (rows a.image.now.bytes.now))) ≡ true = sym c.has_tier.ensures ∙ c.loop-wrapped-test.true in
    let there : c.args.first + c.loop-wrapped.tier < row_count c.args.image.now.bytes.now =
    let a = c.args in
    tier_there a.image.now.bytes.now c.args.image.now.good a.schema c.loop-wrapped.tier c.requires.first-is (lt-is _ _ more) in
    let low : c.args.first + c.loop-wrapped.tier < 32 = omega (arith, there, few_rows c.args.image.now.bytes.now c.args.image.now.good) in
    let a = c.args in
    let uncovered = sym c.is_full-covers.ensures ∙ c.if-covers.false in
    best_stays a.image.now.bytes.now a.flags a.schema a.first a.start a.end c.requires.first-is c.loop-wrapped.invariant
    more low c.ring_at-here.ensures c.flag_at-wrapped.ensures uncovered (sym c.has_both-both.ensures ∙ c.if-both.false)
