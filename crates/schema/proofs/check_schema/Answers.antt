-- `schema::check_schema` meets its contract: each way out is one test of the definition's list. Assumes nothing.
use Rattle.std.specs.Prelude.{Some}
use Prim.Native.Nat.{◌≤◌}
use mathlib.Core.Path.{◌≡◌, sym, ap, ◌∙◌}
use mathlib.Core.List.{List, [], ◌∷◌}
use lib.Dec.{eqb}
use native.Mathlib.Omega.{arith}
use Rattle.model.specs.declared.Row.{Row}
use Rattle.model.specs.Image.{tier_check, first, unless, tiers_of, schema_check}
use Rattle.rows.specs.Rows.{rows_to}
use Rattle.schema.specs.Tiers.{reach}
use Rattle.std.proofs.lemmas.Result.{err_from_is_err_and}
use Rattle.rows.specs.First.{accepted, refusal_no}
use Rattle.schema.proofs.Laws as laws
use Rattle.schema.proofs.check_schema.Goals as goal

pub returns-in_default : goal.returns-in_default
returns-in_default c =
    let a = c.args in laws.schema_2 tier_check a.table.now.bytes.now a.table.now.count a.j c.first_tier.ensures.0 c.in_default.is

pub row-r-requires : goal.row-r-requires
row-r-requires c =
    let below : reach (Some c.in-Some.i) ≤ c.args.table.now.count = omega (arith, ap reach c.in-Some.is, c.first_tier.ensures.1) in
    omega (arith, below)

pub returns-then-r-eq0 : goal.returns-then-r-eq0
returns-then-r-eq0 c =
    let a = c.args in
    laws.schema_3 tier_check a.table.now.bytes.now a.table.now.count a.j c.first_tier.ensures.0 c.in-Some.is c.row-r.ensures c.if-r-eq0.true

pub returns-in_err-check_tiers : goal.returns-in_err-check_tiers
returns-in_err-check_tiers c =
    let a = c.args in
    let w = c.in_err-check_tiers.field-0.0 in
    let stopped = laws.schema_tiers tier_check a.table.now.bytes.now a.table.now.count a.j c.first_tier.ensures.0 c.in-Some.is c.row-r.ensures c.if-r-eq0.false c.in_err-check_tiers.ensures (refusal_no w) in
    let p = err_from_is_err_and c.from_residual.result c.from_residual.ensures.1 in rw (p.1, p.2) stopped

pub is_rising-rises-requires : goal.is_rising-rises-requires
is_rising-rises-requires c =
    let below : reach (Some c.in-Some.i) ≤ c.args.table.now.count = omega (arith, ap reach c.in-Some.is, c.first_tier.ensures.1) in
    below

pub returns-then-not-rises : goal.returns-then-not-rises
returns-then-not-rises c =
    let all : List Row =
    let a = c.args in
    tiers_of a.j (rows_to a.table.now.bytes.now a.table.now.count 0) in
    let left : schema_check tier_check all ≡ first (unless c.is_rising-rises.result 6 ∷ unless (eqb c.row-r.result.function 0) 7 ∷ []) =
    let a = c.args in
    laws.past_tiers tier_check a.table.now.bytes.now a.table.now.count a.j c.first_tier.ensures.0 c.in-Some.is c.row-r.ensures c.if-r-eq0.false (sym c.check_tiers.ensures ∙ accepted c.in_ok-check_tiers.was) c.is_rising-rises.ensures in
    laws.schema_6 _ c.row-r.result.function left c.if-not-rises.true

pub returns-then-function-ne0 : goal.returns-then-function-ne0
returns-then-function-ne0 c =
    let all : List Row =
    let a = c.args in
    tiers_of a.j (rows_to a.table.now.bytes.now a.table.now.count 0) in
    let left : schema_check tier_check all ≡ first (unless c.is_rising-rises.result 6 ∷ unless (eqb c.row-r.result.function 0) 7 ∷ []) =
    let a = c.args in
    laws.past_tiers tier_check a.table.now.bytes.now a.table.now.count a.j c.first_tier.ensures.0 c.in-Some.is c.row-r.ensures c.if-r-eq0.false (sym c.check_tiers.ensures ∙ accepted c.in_ok-check_tiers.was) c.is_rising-rises.ensures in
    laws.schema_7 _ c.row-r.result.function left c.if-not-rises.false c.if-function-ne0.true

pub returns : goal.returns
returns c =
    let all : List Row =
    let a = c.args in
    tiers_of a.j (rows_to a.table.now.bytes.now a.table.now.count 0) in
    let left : schema_check tier_check all ≡ first (unless c.is_rising-rises.result 6 ∷ unless (eqb c.row-r.result.function 0) 7 ∷ []) =
    let a = c.args in
    laws.past_tiers tier_check a.table.now.bytes.now a.table.now.count a.j c.first_tier.ensures.0 c.in-Some.is c.row-r.ensures c.if-r-eq0.false (sym c.check_tiers.ensures ∙ accepted c.in_ok-check_tiers.was) c.is_rising-rises.ensures in
    laws.schema_0 _ c.row-r.result.function left c.if-not-rises.false c.if-function-ne0.false
