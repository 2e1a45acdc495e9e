-- `batch::check_batch` meets its contract, one law a way. Assumes nothing.
use native.Mathlib.Omega.{arith}
use mathlib.Core.Path.{◌≡◌, sym, ◌∙◌}
use mathlib.Core.Logic.{◌≢◌}
use lib.ListN.{length}
use mathlib.Core.Bool.{true, not}
use Rattle.model.specs.Image.{unless}
use Rattle.model.specs.Record.{stamp_ok, entries, every_entry}
use Rattle.batch_entries.specs.Entries.{fits, finite}
use borrow.Author.Tests.{not-true, not-false}
use Rattle.batch.proofs.Laws.{length-entries, empty_batch, refused_handle, refused_stamp, refused_value, last_check}
use Rattle.batch.proofs.check_batch.Goals as goal

pub returns-then-batch-lt-ENTRY : goal.returns-then-batch-lt-ENTRY
returns-then-batch-lt-ENTRY c = empty_batch _ _ c.args.image.now.good _ (omega (arith, length-entries c.args.batch.now))

pub returns-then-outside : goal.returns-then-outside
returns-then-outside c =
    let some : length (entries c.args.batch.now) ≢ 0 = λ e. omega (arith, length-entries c.args.batch.now) in
    refused_handle _ _ c.args.image.now.good _ some (not-true _ (sym c.any_outside-outside.ensures ∙ c.if-outside.true))

pub any_old-old-requires : goal.any_old-old-requires
any_old-old-requires c =
    let fit : every_entry (fits c.args.image.now.bytes.now) (entries c.args.batch.now) ≡ true = not-false _ (sym c.any_outside-outside.ensures ∙ c.if-outside.false) in
    fit

pub returns-then-not-good : goal.returns-then-not-good
returns-then-not-good c =
    let stamp-is : stamp_ok c.args.stamp ≡ c.is_good_stamp-good.result = sym c.is_good_stamp-good.ensures in
    let fit : every_entry (fits c.args.image.now.bytes.now) (entries c.args.batch.now) ≡ true = not-false _ (sym c.any_outside-outside.ensures ∙ c.if-outside.false) in
    let some : length (entries c.args.batch.now) ≢ 0 = λ e. omega (arith, length-entries c.args.batch.now) in
    refused_stamp _ _ c.args.image.now.good _ some fit (stamp-is ∙ c.if-not-good.true)

pub returns-then-infinite : goal.returns-then-infinite
returns-then-infinite c =
    let stamp-is : stamp_ok c.args.stamp ≡ c.is_good_stamp-good.result = sym c.is_good_stamp-good.ensures in
    let values_are : not (every_entry finite (entries c.args.batch.now)) ≡ c.any_infinite-infinite.result = sym c.any_infinite-infinite.ensures in
    let fit : every_entry (fits c.args.image.now.bytes.now) (entries c.args.batch.now) ≡ true = not-false _ (sym c.any_outside-outside.ensures ∙ c.if-outside.false) in
    let some : length (entries c.args.batch.now) ≢ 0 = λ e. omega (arith, length-entries c.args.batch.now) in
    refused_value _ _ c.args.image.now.good _ some fit (stamp-is ∙ c.if-not-good.false) (not-true _ (values_are ∙ c.if-infinite.true))

pub returns-then-old : goal.returns-then-old
unfolding unless
returns-then-old c =
    let stamp-is : stamp_ok c.args.stamp ≡ c.is_good_stamp-good.result = sym c.is_good_stamp-good.ensures in
    let stamp-good : stamp_ok c.args.stamp ≡ true = stamp-is ∙ c.if-not-good.false in
    let values_are : not (every_entry finite (entries c.args.batch.now)) ≡ c.any_infinite-infinite.result = sym c.any_infinite-infinite.ensures in
    let all-finite : every_entry finite (entries c.args.batch.now) ≡ true = not-false _ (values_are ∙ c.if-infinite.false) in
    let fit : every_entry (fits c.args.image.now.bytes.now) (entries c.args.batch.now) ≡ true = not-false _ (sym c.any_outside-outside.ensures ∙ c.if-outside.false) in
    let some : length (entries c.args.batch.now) ≢ 0 = λ e. omega (arith, length-entries c.args.batch.now) in
    let old = not-true _ (sym c.any_old-old.ensures ∙ c.if-old.true) in
    last_check _ _ c.args.image.now.good _ some fit stamp-good all-finite old

pub returns : goal.returns
unfolding unless
returns c =
    let stamp-is : stamp_ok c.args.stamp ≡ c.is_good_stamp-good.result = sym c.is_good_stamp-good.ensures in
    let stamp-good : stamp_ok c.args.stamp ≡ true = stamp-is ∙ c.if-not-good.false in
    let values_are : not (every_entry finite (entries c.args.batch.now)) ≡ c.any_infinite-infinite.result = sym c.any_infinite-infinite.ensures in
    let all-finite : every_entry finite (entries c.args.batch.now) ≡ true = not-false _ (values_are ∙ c.if-infinite.false) in
    let fit : every_entry (fits c.args.image.now.bytes.now) (entries c.args.batch.now) ≡ true = not-false _ (sym c.any_outside-outside.ensures ∙ c.if-outside.false) in
    let some : length (entries c.args.batch.now) ≢ 0 = λ e. omega (arith, length-entries c.args.batch.now) in
    let new = not-false _ (sym c.any_old-old.ensures ∙ c.if-old.false) in
    last_check _ _ c.args.image.now.good _ some fit stamp-good all-finite new
