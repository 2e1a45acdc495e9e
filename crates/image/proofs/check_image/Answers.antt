-- `image::check_image` meets its contract: each way out is one test of the definition's list. Assumes nothing.
use Rattle.std.proofs.lemmas.Result.{err_from_is_err_and}
use mathlib.Core.Path.{◌≡◌, sym, ap, ◌∙◌}
use mathlib.Core.Bool.{true, ◌&&◌}
use native.Mathlib.Omega.{arith}
use lib.Dec.{eqb, leb}
use lib.ListN.{length}
use borrow.Author.Tests.{leb-true}
use Rattle.laws.specs.Tests.{split3}
use Rattle.model.specs.Image.{tier_check, shape, layout_check, image_length}
use Rattle.rows.specs.Rows.{sizes}
use Rattle.rows.specs.First.{accepted, refusal_no}
use Rattle.image.specs.Ways as ways
use Rattle.image.proofs.check_image.Goals as goal

pub returns-then-not-shaped : goal.returns-then-not-shaped
returns-then-not-shaped c = ways.open_shape c.args.s.now (sym c.is_shaped-shaped.ensures ∙ c.if-not-shaped.true)

pub check_layout-requires : goal.check_layout-requires
check_layout-requires c =
    let shaped : shape c.args.s.now ≡ true = sym c.is_shaped-shaped.ensures ∙ c.if-not-shaped.false in
    shaped

pub returns-in_err-check_layout : goal.returns-in_err-check_layout
returns-in_err-check_layout c =
    let shaped : shape c.args.s.now ≡ true = sym c.is_shaped-shaped.ensures ∙ c.if-not-shaped.false in
    let w = c.in_err-check_layout.field-0.0 in
    let p = err_from_is_err_and c.from_residual.result c.from_residual.ensures.1 in rw (p.1, p.2) (ways.open_layout c.args.s.now shaped c.in_err-check_layout.ensures (refusal_no w))

pub of-table-requires : goal.of-table-requires
of-table-requires c =
    let shaped : shape c.args.s.now ≡ true = sym c.is_shaped-shaped.ensures ∙ c.if-not-shaped.false in
    let z = sizes c.args.s.now shaped in z.there

pub get_u64-total-requires : goal.get_u64-total-requires
get_u64-total-requires c =
    let shaped : shape c.args.s.now ≡ true = sym c.is_shaped-shaped.ensures ∙ c.if-not-shaped.false in
    let z = sizes c.args.s.now shaped in omega arith

pub length_of-l-requires : goal.length_of-l-requires
length_of-l-requires c =
    let shaped : shape c.args.s.now ≡ true = sym c.is_shaped-shaped.ensures ∙ c.if-not-shaped.false in
    shaped

pub is_placed-placed-requires : goal.is_placed-placed-requires
is_placed-placed-requires c =
    let shaped : shape c.args.s.now ≡ true = sym c.is_shaped-shaped.ensures ∙ c.if-not-shaped.false in
    let laid : layout_check tier_check c.args.s.now ≡ 0 = sym c.check_layout.ensures ∙ accepted c.in_ok-check_layout.was in
    let s = c.args.s.now in
    let z = sizes s shaped in
    let f = ways.layout_fits s tier_check laid in
    let t = c.of-table.ensures in
    record { few = omega (arith, z.count, t.1); ends_low = omega (arith, ways.ends_are s t.0 t.1, f) }

pub returns-then-not-right : goal.returns-then-not-right
returns-then-not-right c =
    let shaped : shape c.args.s.now ≡ true = sym c.is_shaped-shaped.ensures ∙ c.if-not-shaped.false in
    let laid : layout_check tier_check c.args.s.now ≡ 0 = sym c.check_layout.ensures ∙ accepted c.in_ok-check_layout.was in
    let long : c.length_of-l.result ≡ image_length c.args.s.now =
    let f = ways.layout_fits c.args.s.now tier_check laid in
    omega arith in
    let placed_as : ways.right c.args.s.now ≡ eqb c.get_u64-total.result c.length_of-l.result && c.is_placed-placed.result && leb c.length_of-l.result (length c.args.s.now) =
    ways.right_is c.args.s.now c.of-table.ensures.0 c.of-table.ensures.1 c.get_u64-total.ensures long c.is_placed-placed.ensures in
    ways.open_places c.args.s.now shaped laid (placed_as ∙ c.if-not-right.true)

pub slabs_sound-sound-requires : goal.slabs_sound-sound-requires
slabs_sound-sound-requires c =
    let shaped : shape c.args.s.now ≡ true = sym c.is_shaped-shaped.ensures ∙ c.if-not-shaped.false in
    let laid : layout_check tier_check c.args.s.now ≡ 0 = sym c.check_layout.ensures ∙ accepted c.in_ok-check_layout.was in
    let long : c.length_of-l.result ≡ image_length c.args.s.now =
    let f = ways.layout_fits c.args.s.now tier_check laid in
    omega arith in
    let s = c.args.s.now in
    let z = sizes s shaped in
    let f = ways.layout_fits s tier_check laid in
    let l = long in
    let t = split3 (eqb c.get_u64-total.result c.length_of-l.result) c.is_placed-placed.result (leb c.length_of-l.result (length s)) c.if-not-right.false in
    let is = c.of-table.ensures in
    record { placed = sym c.is_placed-placed.ensures ∙ t.1; ends_in = omega (arith, ways.ends_are s is.0 is.1, ap length is.0, leb-true c.length_of-l.result (length s) t.2) }

pub returns-then-not-sound : goal.returns-then-not-sound
returns-then-not-sound c =
    let laid : layout_check tier_check c.args.s.now ≡ 0 = sym c.check_layout.ensures ∙ accepted c.in_ok-check_layout.was in
    let long : c.length_of-l.result ≡ image_length c.args.s.now =
    let f = ways.layout_fits c.args.s.now tier_check laid in
    omega arith in
    let placed_as : ways.right c.args.s.now ≡ eqb c.get_u64-total.result c.length_of-l.result && c.is_placed-placed.result && leb c.length_of-l.result (length c.args.s.now) =
    ways.right_is c.args.s.now c.of-table.ensures.0 c.of-table.ensures.1 c.get_u64-total.ensures long c.is_placed-placed.ensures in
    let right : ways.right c.args.s.now ≡ true = placed_as ∙ c.if-not-right.false in
    let slabs = ways.sounds_are c.args.s.now c.of-table.ensures.0 c.of-table.ensures.1 c.slabs_sound-sound.ensures in
    let shaped : shape c.args.s.now ≡ true = sym c.is_shaped-shaped.ensures ∙ c.if-not-shaped.false in
    ways.open_slabs c.args.s.now shaped laid right (slabs ∙ c.if-not-sound.true)

pub returns : goal.returns
returns c =
    let laid : layout_check tier_check c.args.s.now ≡ 0 = sym c.check_layout.ensures ∙ accepted c.in_ok-check_layout.was in
    let long : c.length_of-l.result ≡ image_length c.args.s.now =
    let f = ways.layout_fits c.args.s.now tier_check laid in
    omega arith in
    let placed_as : ways.right c.args.s.now ≡ eqb c.get_u64-total.result c.length_of-l.result && c.is_placed-placed.result && leb c.length_of-l.result (length c.args.s.now) =
    ways.right_is c.args.s.now c.of-table.ensures.0 c.of-table.ensures.1 c.get_u64-total.ensures long c.is_placed-placed.ensures in
    let right : ways.right c.args.s.now ≡ true = placed_as ∙ c.if-not-right.false in
    let slabs = ways.sounds_are c.args.s.now c.of-table.ensures.0 c.of-table.ensures.1 c.slabs_sound-sound.ensures in
    let shaped : shape c.args.s.now ≡ true = sym c.is_shaped-shaped.ensures ∙ c.if-not-shaped.false in
    ways.open_all c.args.s.now shaped laid right (slabs ∙ c.if-not-sound.false)
