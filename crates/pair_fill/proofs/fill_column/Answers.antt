-- `pair_fill::fill_column` meets its contract: the answer is of the source's part, and is written to the destination's. Assumes nothing.
use mathlib.Core.Path.{sym, ◌∙◌}
use native.Mathlib.Omega.{arith}
use Rattle.model.specs.Bytes.{part}
use Rattle.pair_fill.proofs.Kept.{column_filled}
use borrow.Author.Rules.{rules}
use Rattle.pair_fill.proofs.fill_column.Goals as goal

pub answer-x-requires : goal.answer-x-requires
unfolding part
answer-x-requires c =
    let p = c.requires in
    record { readable = p.lies.0.readable; asked = record { slot_in = p.lies.1.slot_in; few_left = p.lies.1.few_left; column_in = p.column_lt_series.0; starts = p.lies.1.starts } }

pub write_answer-requires : goal.write_answer-requires
unfolding part
write_answer-requires c =
    let p = c.requires in
    let l = p.lies.0 in (
      record { sound = l.sound; some_interval = l.some_interval; column_in = omega (arith, l.same-series, p.column_lt_series.0); few_writes = p.column_lt_series.1 },
      c.answer-x.ensures.1,
    )

pub returns : goal.returns
unfolding part
returns c =
    let w = c.write_answer in
    let a = c.args in
    let p = c.requires in
    let k = column_filled a.image.now a.p p.lies.0 w.new.slab (search rules) a.filling w.result a.window a.column
    (c.answer-x.ensures.0 ∙ sym (p.lies.1.same a.column)) w.ensures.result_after w.ensures.sound.0 in
    record { result_after = k.0; keeps = (k.1, w.ensures.sound.1) }
