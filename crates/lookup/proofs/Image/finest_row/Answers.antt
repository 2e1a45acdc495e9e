-- `lookup::Image::finest_row` meets its contract, one case a return. The loop's invariant: the schema's first row is the first of those from row i on. Assumes nothing.
use Prim.Native.Nat.{◌+◌}
use native.Mathlib.Omega.{arith}
use mathlib.Core.Path.{◌≡◌, refl, sym, ◌∙◌}
use Rattle.model.specs.Image.{row_count, rows}
use Rattle.model.specs.Lent.{first_row}
use Rattle.lookup.proofs.Laws.{header_in_slice, few_rows, some_row, Finding, begins, goes_on, found, ends, finest_none, finest_wide, finest-at}
use Rattle.lookup.proofs.Image.finest_row.Goals as goal

pub loop-series-init : goal.loop-series-init
loop-series-init c = record { in_rows = some_row _ c.args.self.now.good; finding = begins _ _ refl }

pub row_u32-s-requires : goal.row_u32-s-requires
row_u32-s-requires c = (c.loop-series.invariant.in_rows, omega arith)

pub row_u32-series-requires : goal.row_u32-series-requires
row_u32-series-requires c = (c.loop-series.invariant.in_rows, omega arith)

pub returns-then-column-series : goal.returns-then-column-series
returns-then-column-series c =
    let here : (c.loop-series.i ≡ first_row c.args.schema (rows c.args.self.now.bytes.now)) =
    let i = c.loop-series.invariant in
    found i.finding i.in_rows c.row_u32-s.ensures.0 c.if-s-schema.true in
    sym (finest_wide _ c.args.self.now.good _ _ _ here _ c.loop-series.invariant.in_rows c.row_u32-series.ensures.0 c.if-column-series.true)

pub returns-then-s-schema : goal.returns-then-s-schema
returns-then-s-schema c =
    let here : (c.loop-series.i ≡ first_row c.args.schema (rows c.args.self.now.bytes.now)) =
    let i = c.loop-series.invariant in
    found i.finding i.in_rows c.row_u32-s.ensures.0 c.if-s-schema.true in
    sym (finest-at _ c.args.self.now.good _ _ _ here _ c.loop-series.invariant.in_rows c.row_u32-series.ensures.0 c.if-column-series.false)

pub overflow_add-i : goal.overflow_add-i
overflow_add-i c = omega (arith, c.loop-series.invariant.in_rows, few_rows _ c.args.self.now.good)

pub get_u32-count-requires : goal.get_u32-count-requires
get_u32-count-requires c = omega (arith, header_in_slice _ c.args.self.now.good)

pub returns-then-i-count : goal.returns-then-i-count
unfolding row_count
returns-then-i-count c =
    let behind : (Finding c.args.self.now.bytes.now c.args.schema (row_count c.args.self.now.bytes.now) (c.loop-series.i + 1)) =
    let i = c.loop-series.invariant in
    goes_on i.finding i.in_rows c.row_u32-s.ensures.0 c.if-s-schema.false in
    let past = c.if-i-count.true ∙ c.get_u32-count.ensures.0 in
    sym (finest_none _ c.args.self.now.good _ _ _ (ends behind (omega (arith, past))) (omega (arith, past)))

pub loop-series-smaller : goal.loop-series-smaller
loop-series-smaller c = omega (arith, c.loop-series.invariant.in_rows)

pub loop-series-preserved : goal.loop-series-preserved
unfolding row_count
loop-series-preserved c =
    let behind : (Finding c.args.self.now.bytes.now c.args.schema (row_count c.args.self.now.bytes.now) (c.loop-series.i + 1)) =
    let i = c.loop-series.invariant in
    goes_on i.finding i.in_rows c.row_u32-s.ensures.0 c.if-s-schema.false in
    let b = behind in record { in_rows = omega (arith, b.in_bounds, c.if-i-count.false, c.get_u32-count.ensures.0); finding = b }
