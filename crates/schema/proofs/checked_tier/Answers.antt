-- `schema::checked_tier` meets its contract: 4 where the spans fail, 5 where the slots are too many, else the row. Assumes nothing.
use mathlib.Core.Path.{sym}
use native.Mathlib.Omega.{arith}
use Rattle.schema.proofs.Laws.{tier_4, tier_5, tier_0}
use borrow.Author.Rules.{rules}
use Rattle.schema.proofs.checked_tier.Goals as goal

pub returns-then-not-spans : goal.returns-then-not-spans
returns-then-not-spans c =
    let r = c.args.r in record { number = sym (tier_4 r c.if-not-spans.true); row = search rules }

pub returns-then-n-gt-SLOTS : goal.returns-then-n-gt-SLOTS
returns-then-n-gt-SLOTS c = record { number = sym (tier_5 c.args.r (c.if-not-spans.false) (omega arith)); row = search rules }

pub returns : goal.returns
returns c = record { number = sym (tier_0 c.args.r (c.if-not-spans.false) (omega arith)); row = search rules }
