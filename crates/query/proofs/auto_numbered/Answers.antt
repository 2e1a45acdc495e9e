-- `query::auto_numbered` meets its contract, one case a return. Assumes nothing.
use Rattle.std.specs.Prelude.{Some}
use native.Mathlib.Omega.{arith}
use mathlib.Core.Path.{◌≡◌, refl, sym, ◌∙◌}
use Rattle.lookup.specs.Parts.{finest_of}
use Rattle.flag_bits.specs.Bits.{bits}
use Rattle.tiers.proofs.Laws.{answer_is}
use Rattle.query.proofs.Laws.{auto_bad_handle, auto_bad_range, auto_answers, finest-is, some_tier_there, row_low}
use Rattle.query.proofs.auto_numbered.Goals as goal

pub returns-in_default : goal.returns-in_default
returns-in_default c =
    let a = c.args in
    auto_bad_handle a.image.now.bytes.now (bits 32 a.flags) a.handle.schema a.handle.column a.start a.end c.args.image.now.good (sym c.finest_row.ensures ∙ c.in_default.is)

pub returns-then-start-end : goal.returns-then-start-end
returns-then-start-end c =
    let found : let a = c.args in finest_of a.image.now.bytes.now a.handle.schema a.handle.column ≡ Some c.in-Some.first = sym c.finest_row.ensures ∙ c.in-Some.is in
    let a = c.args in
    auto_bad_range a.image.now.bytes.now (bits 32 a.flags) a.handle.schema a.handle.column a.start a.end c.args.image.now.good found c.if-start-end.true

pub choose-chosen-requires : goal.choose-chosen-requires
choose-chosen-requires c =
    let found : let a = c.args in finest_of a.image.now.bytes.now a.handle.schema a.handle.column ≡ Some c.in-Some.first = sym c.finest_row.ensures ∙ c.in-Some.is in
    let a = c.args in
    let h = c.args.image.now.good in
    (finest-is a.image.now.bytes.now a.handle.schema a.handle.column h found, some_tier_there a.image.now.bytes.now a.handle.schema a.handle.column h found)

pub overflow_cast-tier : goal.overflow_cast-tier
overflow_cast-tier c =
    let found : let a = c.args in finest_of a.image.now.bytes.now a.handle.schema a.handle.column ≡ Some c.in-Some.first = sym c.finest_row.ensures ∙ c.in-Some.is in
    let a = c.args in
    let r = c.choose-chosen in
    omega (arith, row_low a.image.now.bytes.now a.handle.schema a.handle.column c.args.image.now.good found r.result.tier r.ensures.tier_in_lem)

pub returns : goal.returns
returns c =
    let found : let a = c.args in finest_of a.image.now.bytes.now a.handle.schema a.handle.column ≡ Some c.in-Some.first = sym c.finest_row.ensures ∙ c.in-Some.is in
    let a = c.args in
    let s = a.image.now.bytes.now in
    let bs = bits 32 a.flags in
    let r = c.choose-chosen in
    let answer = answer_is s _ r.result.reach a.handle.column r.result.tier a.start a.end r.ensures.reached bs refl in
    auto_answers s bs a.handle.schema a.handle.column a.start a.end c.args.image.now.good found r.result.tier r.ensures.tier-is c.if-start-end.false (rw c.answer_of-found.ensures answer)
