-- `window_write::write_bits` meets its contract: 12, then 13, then the write, unless it is old. Assumes nothing.
use mathlib.Core.Path.{◌≡◌, sym, ◌∙◌}
use mathlib.Core.Bool.{true, false}
use native.Mathlib.Omega.{arith}
use Rattle.model.specs.Ring.{is_infinite, is_old}
use Rattle.model.specs.Record.{stamp_ok}
use Rattle.window_write.specs.Parts.{filled_of}
use Rattle.window_write.proofs.Laws.{refused_value, refused_stamp, passed_over, written}
use Rattle.window_write.proofs.write_bits.Goals as goal

pub is_old-old-requires : goal.is_old-old-requires
is_old-old-requires c = record { sound = c.requires.sound; interval_nonzero = c.requires.some_interval }

pub returns-then-infinite : goal.returns-then-infinite
returns-then-infinite c =
    let value_is : is_infinite c.args.bits ≡ c.is_infinite-infinite.result = sym c.is_infinite-infinite.ensures in
    record { result_after = refused_value (filled_of c.args.slab.now c.args.filling) c.args.window c.args.column c.args.bits (value_is ∙ c.if-infinite.true); sound = (c.requires.sound, omega arith) }

pub returns-then-not-good : goal.returns-then-not-good
returns-then-not-good c =
    let value_is : is_infinite c.args.bits ≡ c.is_infinite-infinite.result = sym c.is_infinite-infinite.ensures in
    let stamp-is : stamp_ok c.args.window ≡ c.is_good_stamp-good.result = sym c.is_good_stamp-good.ensures in
    let bad = stamp-is ∙ c.if-not-good.true in
    record { result_after = refused_stamp (filled_of c.args.slab.now c.args.filling) c.args.window c.args.column c.args.bits (value_is ∙ c.if-infinite.false) bad; sound = (c.requires.sound, omega arith) }

pub returns-then-old : goal.returns-then-old
returns-then-old c =
    let value_is : is_infinite c.args.bits ≡ c.is_infinite-infinite.result = sym c.is_infinite-infinite.ensures in
    let finite : is_infinite c.args.bits ≡ false = value_is ∙ c.if-infinite.false in
    let stamp-is : stamp_ok c.args.window ≡ c.is_good_stamp-good.result = sym c.is_good_stamp-good.ensures in
    let stamp-good : stamp_ok c.args.window ≡ true = stamp-is ∙ c.if-not-good.false in
    let old_is : is_old c.args.slab.now c.args.window ≡ c.is_old-old.result = sym c.is_old-old.ensures in
    record { result_after = passed_over (filled_of c.args.slab.now c.args.filling) c.args.window c.args.column c.args.bits finite stamp-good (old_is ∙ c.if-old.true); sound = (c.requires.sound, omega arith) }

pub write-flag-requires : goal.write-flag-requires
write-flag-requires c = record { sound = c.requires.sound; interval_nonzero = (c.requires.some_interval, c.requires.column_in) }

pub returns : goal.returns
returns c =
    let value_is : is_infinite c.args.bits ≡ c.is_infinite-infinite.result = sym c.is_infinite-infinite.ensures in
    let finite : is_infinite c.args.bits ≡ false = value_is ∙ c.if-infinite.false in
    let stamp-is : stamp_ok c.args.window ≡ c.is_good_stamp-good.result = sym c.is_good_stamp-good.ensures in
    let stamp-good : stamp_ok c.args.window ≡ true = stamp-is ∙ c.if-not-good.false in
    let old_is : is_old c.args.slab.now c.args.window ≡ c.is_old-old.result = sym c.is_old-old.ensures in
    let new = old_is ∙ c.if-old.false in
    record { result_after = written (filled_of c.args.slab.now c.args.filling) c.args.window c.args.column c.args.bits finite stamp-good new c.write-flag.ensures.0; sound = (c.write-flag.ensures.1, omega arith) }
