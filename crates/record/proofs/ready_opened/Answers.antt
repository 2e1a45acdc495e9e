-- `record::ready_opened` meets its contract, one law a way. Assumes nothing.
use Rattle.std.specs.Prelude.{Some}
use mathlib.Core.Path.{◌≡◌, sym, ◌∙◌}
use mathlib.Core.Bool.{true, false}
use mathlib.Core.List.{[]}
use Rattle.model.specs.Image.{row_at, slab_of}
use Rattle.model.specs.Ring.{is_infinite, is_old}
use Rattle.model.specs.Record.{stamp_ok}
use Rattle.lookup.specs.Parts.{finest_of}
use Rattle.lookup.specs.Handle.{row_there}
use Rattle.record.specs.Ready.{lent_by}
use Rattle.record.proofs.Laws.{refused_handle, refused_value, refused_stamp, refused_old, ready_at}
use Rattle.record.proofs.ready_opened.Goals as goal

pub returns-in_default : goal.returns-in_default
returns-in_default c = refused_handle _ _ _ _ _ c.args.image.now.good (sym c.finest_row-found.ensures ∙ c.in_default.is)

pub is_old-old-requires : goal.is_old-old-requires
is_old-old-requires c =
    let row_is : finest_of c.args.image.now.bytes.now c.args.handle.schema c.args.handle.column ≡ Some c.in-Some.row = sym c.finest_row-found.ensures ∙ c.in-Some.is in
    (row_there (lent_by _ []) _ _ c.args.image.now.good row_is).0

pub returns-then-infinite : goal.returns-then-infinite
returns-then-infinite c =
    let row_is : finest_of c.args.image.now.bytes.now c.args.handle.schema c.args.handle.column ≡ Some c.in-Some.row = sym c.finest_row-found.ensures ∙ c.in-Some.is in
    let value_is : is_infinite c.args.value ≡ c.is_infinite-infinite.result = sym c.is_infinite-infinite.ensures in
    refused_value _ _ _ _ _ c.args.image.now.good row_is (value_is ∙ c.if-infinite.true)

pub returns-then-not-good : goal.returns-then-not-good
returns-then-not-good c =
    let row_is : finest_of c.args.image.now.bytes.now c.args.handle.schema c.args.handle.column ≡ Some c.in-Some.row = sym c.finest_row-found.ensures ∙ c.in-Some.is in
    let value_is : is_infinite c.args.value ≡ c.is_infinite-infinite.result = sym c.is_infinite-infinite.ensures in
    let stamp-is : stamp_ok c.args.stamp ≡ c.is_good_stamp-good.result = sym c.is_good_stamp-good.ensures in
    refused_stamp _ _ _ _ _ c.args.image.now.good row_is (value_is ∙ c.if-infinite.false) (stamp-is ∙ c.if-not-good.true)

pub returns-then-old : goal.returns-then-old
returns-then-old c =
    let value_is : is_infinite c.args.value ≡ c.is_infinite-infinite.result = sym c.is_infinite-infinite.ensures in
    let finite : is_infinite c.args.value ≡ false = value_is ∙ c.if-infinite.false in
    let stamp-is : stamp_ok c.args.stamp ≡ c.is_good_stamp-good.result = sym c.is_good_stamp-good.ensures in
    let stamp-good : stamp_ok c.args.stamp ≡ true = stamp-is ∙ c.if-not-good.false in
    let row_is : finest_of c.args.image.now.bytes.now c.args.handle.schema c.args.handle.column ≡ Some c.in-Some.row = sym c.finest_row-found.ensures ∙ c.in-Some.is in
    let old_is : (let s = c.args.image.now.bytes.now in is_old (slab_of s (row_at s c.in-Some.row)) c.args.stamp ≡ c.is_old-old.result) = sym c.is_old-old.ensures in
    refused_old _ _ _ _ _ c.args.image.now.good row_is finite stamp-good (old_is ∙ c.if-old.true)

pub returns : goal.returns
returns c =
    let value_is : is_infinite c.args.value ≡ c.is_infinite-infinite.result = sym c.is_infinite-infinite.ensures in
    let finite : is_infinite c.args.value ≡ false = value_is ∙ c.if-infinite.false in
    let stamp-is : stamp_ok c.args.stamp ≡ c.is_good_stamp-good.result = sym c.is_good_stamp-good.ensures in
    let stamp-good : stamp_ok c.args.stamp ≡ true = stamp-is ∙ c.if-not-good.false in
    let row_is : finest_of c.args.image.now.bytes.now c.args.handle.schema c.args.handle.column ≡ Some c.in-Some.row = sym c.finest_row-found.ensures ∙ c.in-Some.is in
    let old_is : (let s = c.args.image.now.bytes.now in is_old (slab_of s (row_at s c.in-Some.row)) c.args.stamp ≡ c.is_old-old.result) = sym c.is_old-old.ensures in
    ready_at _ _ _ _ _ c.args.image.now.good row_is finite stamp-good (old_is ∙ c.if-old.false)
