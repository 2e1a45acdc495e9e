-- `consolidate::run_pairs` meets its contract: the pairs so far, gone on with those that remain, are all. Assumes nothing.
use Prim.Native.Nat.{ℕ, suc, ◌+◌, ◌-◌, ◌<◌}
use native.Mathlib.Omega.{arith}
use native.Mathlib.Nat.{sub-zero}
use mathlib.Core.Path.{◌≡◌, refl, sym, ap, ◌∙◌}
use mathlib.Core.Bool.{true}
use Rattle.model.specs.Image.{row_count}
use Rattle.model.specs.Consolidate.{pairs}
use Rattle.laws.specs.Tests.{eq_is}
use Rattle.rows.specs.First.{accepted, not_accepted}
use Rattle.lookup.proofs.Laws.{some_row}
use Rattle.pair.specs.Parts.{run_of}
use Rattle.consolidate.specs.Parts.{fresh}
use Rattle.consolidate.proofs.Laws.{goes_same, goes_then, goes_pair, same_schema, skip_row, pair_turn, pair-last, rows_done, few_rows, header-inside}
use Rattle.consolidate.proofs.run_pairs.Goals as goal

pub get_u32-n-requires : goal.get_u32-n-requires
get_u32-n-requires c = omega (arith, header-inside c.args.image.now c.requires)

pub loop-i-init : goal.loop-i-init
unfolding row_count
loop-i-init c =
    let s = c.args.image.now in
    let n = c.get_u32-n.ensures.0 in
    record {
      goes = goes_same s c.requires;
      rows_are = sym n;
      few_rows = omega (arith, n, few_rows s c.requires);
      accepted = refl;
      few_writes = omega arith;
      same = rw sub-zero (ap (λ (k : ℕ). pairs (fresh s c.args.flags) 0 (k - 1)) n);
    }

pub overflow_sub-i-end : goal.overflow_sub-i-end
unfolding row_count
overflow_sub-i-end c = let r = some_row c.args.image.now c.requires in omega (arith, r, c.get_u32-n.ensures.0)

pub same_schema-same-requires : goal.same_schema-same-requires
same_schema-same-requires c =
    let next_in : suc c.loop-i.i < row_count c.loop-i.image =
    let v = c.loop-i.invariant in
    omega (arith, v.goes.count-is, v.rows_are, c.loop-i-test.true) in
    next_in

pub loop-i-preserved-then-not-same : goal.loop-i-preserved-then-not-same
loop-i-preserved-then-not-same c =
    let l = c.loop-i in
    let other = sym c.same_schema-same.ensures ∙ c.if-not-same.true in
    record {
      goes = l.invariant.goes;
      rows_are = l.invariant.rows_are;
      few_rows = l.invariant.few_rows;
      accepted = l.invariant.accepted;
      few_writes = omega (arith, l.invariant.few_writes);
      same = skip_row (run_of c.loop-i.image c.loop-i.u) l.i c.get_u32-n.result c.loop-i-test.true l.invariant.same other;
    }

pub pair-u-requires : goal.pair-u-requires
pair-u-requires c =
    let next_in : suc c.loop-i.i < row_count c.loop-i.image =
    let v = c.loop-i.invariant in
    omega (arith, v.goes.count-is, v.rows_are, c.loop-i-test.true) in
    let one_schema : same_schema (run_of c.loop-i.image c.loop-i.u) c.loop-i.i ≡ true = sym c.same_schema-same.ensures ∙ c.if-not-same.false in
    let v = c.loop-i.invariant in
    record { adjacent = record { opened = v.goes.opened; next_in = next_in; same_schema_lem = eq_is _ _ one_schema }; count_bound = omega (arith, v.few_writes, v.few_rows, c.loop-i-test.true) }

pub returns-in_default : goal.returns-in_default
returns-in_default c =
    let one_schema : same_schema (run_of c.loop-i.image c.loop-i.u) c.loop-i.i ≡ true = sym c.same_schema-same.ensures ∙ c.if-not-same.false in
    let l = c.loop-i in
    pair-last (run_of c.loop-i.image c.loop-i.u) l.i c.get_u32-n.result c.loop-i-test.true l.invariant.same one_schema (accepted l.invariant.accepted)
    c.pair-u.ensures.0 (not_accepted c.in_default.is)

pub loop-i-preserved : goal.loop-i-preserved
loop-i-preserved c =
    let one_schema : same_schema (run_of c.loop-i.image c.loop-i.u) c.loop-i.i ≡ true = sym c.same_schema-same.ensures ∙ c.if-not-same.false in
    let s0 = c.args.image.now in
    let turned : pairs (run_of c.pair-u.new.image c.pair-u.result) (c.loop-i.i + 1) (c.get_u32-n.result - 1 - (c.loop-i.i + 1)) ≡ pairs (fresh s0 c.args.flags) 0 (row_count s0 - 1) =
    let l = c.loop-i in
    pair_turn (run_of c.loop-i.image c.loop-i.u) l.i c.get_u32-n.result c.loop-i-test.true l.invariant.same one_schema (accepted l.invariant.accepted) c.pair-u.ensures.0 in
    let next_in : suc c.loop-i.i < row_count c.loop-i.image =
    let v = c.loop-i.invariant in
    omega (arith, v.goes.count-is, v.rows_are, c.loop-i-test.true) in
    let l = c.loop-i in
    let s = c.pair-u.new.image in
    let g = goes_pair l.image s l.u l.i c.pair-u.result l.invariant.goes.opened next_in c.pair-u.ensures.0 in
    record {
      goes = goes_then c.args.image.now l.image s l.invariant.goes g;
      rows_are = l.invariant.rows_are;
      few_rows = l.invariant.few_rows;
      accepted = c.in-Ok.is;
      few_writes = omega (arith, c.pair-u.ensures.1, l.invariant.few_writes);
      same = turned;
    }

pub returns : goal.returns
returns c = rows_done (run_of c.loop-i.image c.loop-i.u) c.loop-i.i c.get_u32-n.result c.loop-i-test.false c.loop-i.invariant.same
