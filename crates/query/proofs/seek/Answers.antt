-- `query::seek` meets its contract, one law a way. Assumes nothing.
use Rattle.std.specs.Prelude.{Some}
use native.Mathlib.Omega.{arith}
use mathlib.Core.Path.{◌≡◌, sym, ◌∙◌}
use borrow.Author.Tests.{ltb-true, ltb-false}
use Rattle.lookup.specs.Parts.{finest_of}
use Rattle.query.proofs.Laws.{bad_handle, bad_tier, bad_range, finest-is, finest_there, row_low, sought_at}
use borrow.Author.Rules.{rules}
use Rattle.query.proofs.seek.Goals as goal

pub returns-in_default : goal.returns-in_default
returns-in_default c =
    let a = c.args in
    λ bs. bad_handle a.image.now.bytes.now bs a.handle.schema a.handle.column a.start a.end c.args.image.now.good (sym c.finest_row.ensures ∙ c.in_default.is) a.tier

pub has_tier-there-requires : goal.has_tier-there-requires
has_tier-there-requires c =
    let found : let a = c.args in finest_of a.image.now.bytes.now a.handle.schema a.handle.column ≡ Some c.in-Some.first = sym c.finest_row.ensures ∙ c.in-Some.is in
    let a = c.args in
    let h = c.args.image.now.good in
    (finest-is a.image.now.bytes.now a.handle.schema a.handle.column h found, finest_there a.image.now.bytes.now a.handle.schema a.handle.column h found, search rules)

pub returns-then-not-there : goal.returns-then-not-there
returns-then-not-there c =
    let found : let a = c.args in finest_of a.image.now.bytes.now a.handle.schema a.handle.column ≡ Some c.in-Some.first = sym c.finest_row.ensures ∙ c.in-Some.is in
    let a = c.args in
    let none = ltb-false a.tier _ (sym c.has_tier-there.ensures ∙ c.if-not-there.true) in
    λ bs. bad_tier a.image.now.bytes.now bs a.handle.schema a.handle.column a.start a.end c.args.image.now.good found a.tier none

pub overflow_add-row : goal.overflow_add-row
overflow_add-row c =
    let found : let a = c.args in finest_of a.image.now.bytes.now a.handle.schema a.handle.column ≡ Some c.in-Some.first = sym c.finest_row.ensures ∙ c.in-Some.is in
    let a = c.args in
    let some = ltb-true a.tier _ (sym c.has_tier-there.ensures ∙ c.if-not-there.false) in
    omega (arith, row_low a.image.now.bytes.now a.handle.schema a.handle.column c.args.image.now.good found a.tier some)

pub returns-then-start-end : goal.returns-then-start-end
returns-then-start-end c =
    let found : let a = c.args in finest_of a.image.now.bytes.now a.handle.schema a.handle.column ≡ Some c.in-Some.first = sym c.finest_row.ensures ∙ c.in-Some.is in
    let a = c.args in
    let some = ltb-true a.tier _ (sym c.has_tier-there.ensures ∙ c.if-not-there.false) in
    sought_at a.image.now.bytes.now a.handle.schema a.handle.column c.args.image.now.good found a.tier some a.start a.end c.if-start-end.true

pub returns : goal.returns
returns c =
    let found : let a = c.args in finest_of a.image.now.bytes.now a.handle.schema a.handle.column ≡ Some c.in-Some.first = sym c.finest_row.ensures ∙ c.in-Some.is in
    let a = c.args in
    let some = ltb-true a.tier _ (sym c.has_tier-there.ensures ∙ c.if-not-there.false) in
    λ bs. bad_range a.image.now.bytes.now bs a.handle.schema a.handle.column a.start a.end c.args.image.now.good found a.tier some c.if-start-end.false
