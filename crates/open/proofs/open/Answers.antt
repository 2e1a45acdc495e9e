-- `open::open` meets its contract: a refusal changes nothing; else the flags are those of the slabs. Assumes nothing.
use mathlib.Core.Path.{◌≡◌, sym, ◌∙◌}
use Rattle.model.specs.Image.{open_check}
use Rattle.rows.specs.First.{accepted, not_accepted}
use Rattle.image.specs.Lent.{lent}
use Rattle.open.specs.Left as left
use Rattle.open.proofs.open.Goals as goal

pub returns-in_default : goal.returns-in_default
returns-in_default c =
    let a = c.args in
    let e = c.check_image-checked.ensures in
    (e, left.refused_is (lent a.image.now a.flags) _ e (not_accepted c.in_default.is))

pub of-table-requires : goal.of-table-requires
of-table-requires c =
    let opened : open_check c.args.image.now ≡ 0 = sym c.check_image-checked.ensures ∙ accepted c.in-Ok.is in
    left.there c.args.image.now opened

pub flags_of-next-requires : goal.flags_of-next-requires
flags_of-next-requires c =
    let opened : open_check c.args.image.now ≡ 0 = sym c.check_image-checked.ensures ∙ accepted c.in-Ok.is in
    let is = c.of-table.ensures in rw is.0 (opened, is.1)

pub returns : goal.returns
returns c =
    let opened : open_check c.args.image.now ≡ 0 = sym c.check_image-checked.ensures ∙ accepted c.in-Ok.is in
    let a = c.args in
    (c.check_image-checked.ensures, left.accepted_is (lent a.image.now a.flags) opened c.of-table.ensures c.flags_of-next.ensures)
