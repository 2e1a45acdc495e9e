-- `image_build::put_image` meets its contract: header, rows and slabs one behind the other are the fresh image, and later bytes stay. Assumes nothing.
use Prim.Native.Nat.{ℕ, ◌+◌, ◌*◌, ◌≤◌}
use mathlib.Core.Path.{◌≡◌, ◌∙◌}
use native.Mathlib.Omega.{arith}
use mathlib.Core.List.{List}
use mathlib.Core.Bool.{true}
use lib.ListN.{length}
use Rattle.model.specs.Bytes.{get}
use Rattle.model.specs.Image.{shape, image_length, slabs_end}
use Rattle.rows.specs.Rows.{sizes, rows_to}
use Rattle.layout.specs.Ends.{ends_ge}
use Rattle.image.specs.Ways.{ends_are}
use Rattle.image_build.specs.Made.{image_made}
use Rattle.image_build.proofs.put_image.Goals as goal

record Room (plan : List ℕ) (n room : ℕ) : Type 0 where
  few : n ≤ 32
  ends_low : slabs_end (32 + 64 * n) (rows_to plan n 0) ≤ 1099511627776
  ends_in : slabs_end (32 + 64 * n) (rows_to plan n 0) ≤ room
  rows_in : 32 + 64 * n ≤ room

-- what the plan's checks say of the image that it asks for, over the rows of its table, b
room_for : (plan : List ℕ) (room : ℕ) {b : List ℕ} {n : ℕ} → shape plan ≡ true → (b ≡ plan) × (n ≡ get 4 plan 12)
    → (image_length plan ≤ 1099511627776) × (image_length plan ≤ room) → Room b n room
room_for plan room {b} {n} shaped is fits =
    let z = sizes plan shaped in
    let e = ends_are plan is.0 is.1 in
    let g = ends_ge (32 + 64 * n) (rows_to b n 0) in
    record {
      few = omega (arith, z, is.1);
      ends_low = omega (arith, e, fits.0);
      ends_in = omega (arith, e, fits.1);
      rows_in = omega (arith, e, g, fits.1);
    }

pub of-table-requires : goal.of-table-requires
of-table-requires c =
    let z = sizes c.args.plan.now c.requires.plan_value in z.there

pub copy_head-requires : goal.copy_head-requires
copy_head-requires c =
    let room = room_for c.args.plan.now (length c.args.image.now) c.requires.plan_value c.of-table.ensures c.requires.plan_bound in
    let z = sizes c.args.plan.now c.requires.plan_value in
    (omega (arith, z.long), omega (arith, room.rows_in))

pub put_u64-requires : goal.put_u64-requires
put_u64-requires c =
    let long-head : length c.copy_head.new.image ≡ length c.args.image.now = c.copy_head.auto.image in
    let room = room_for c.args.plan.now (length c.args.image.now) c.requires.plan_value c.of-table.ensures c.requires.plan_bound in
    omega (arith, room.rows_in, long-head)

pub put_u64-requires-2 : goal.put_u64-requires-2
put_u64-requires-2 c =
    let long-head : length c.copy_head.new.image ≡ length c.args.image.now = c.copy_head.auto.image in
    let long-length : length c.put_u64.new.s ≡ length c.args.image.now = c.put_u64.auto.s ∙ long-head in
    let room = room_for c.args.plan.now (length c.args.image.now) c.requires.plan_value c.of-table.ensures c.requires.plan_bound in
    omega (arith, room.rows_in, long-length)

pub put_rows-requires : goal.put_rows-requires
put_rows-requires c =
    let long-head : length c.copy_head.new.image ≡ length c.args.image.now = c.copy_head.auto.image in
    let long-length : length c.put_u64.new.s ≡ length c.args.image.now = c.put_u64.auto.s ∙ long-head in
    let long_mark : length c.put_u64-2.new.s ≡ length c.args.image.now = c.put_u64-2.auto.s ∙ long-length in
    let room = room_for c.args.plan.now (length c.args.image.now) c.requires.plan_value c.of-table.ensures c.requires.plan_bound in
    record { few = room.few; ends_low = room.ends_low; rows_in = omega (arith, room.rows_in, long_mark) }

pub put_slabs-requires : goal.put_slabs-requires
put_slabs-requires c =
    let long-head : length c.copy_head.new.image ≡ length c.args.image.now = c.copy_head.auto.image in
    let long-length : length c.put_u64.new.s ≡ length c.args.image.now = c.put_u64.auto.s ∙ long-head in
    let long_mark : length c.put_u64-2.new.s ≡ length c.args.image.now = c.put_u64-2.auto.s ∙ long-length in
    let long-rows : length c.put_rows.new.image ≡ length c.args.image.now = c.put_rows.auto.image ∙ long_mark in
    let room = room_for c.args.plan.now (length c.args.image.now) c.requires.plan_value c.of-table.ensures c.requires.plan_bound in
    record { few = room.few; ends_low = room.ends_low; ends_in = omega (arith, room.ends_in, long-rows) }

pub returns : goal.returns
returns c =
    let z = sizes c.args.plan.now c.requires.plan_value in
    let l : c.length_of-len.result ≡ image_length c.args.plan.now = omega (arith, c.length_of-len.ensures, c.requires.plan_bound.0) in
    image_made c.args.plan.now c.args.image.now z.long c.requires.plan_bound.1 c.of-table.ensures.0 c.of-table.ensures.1 l c.copy_head.ensures c.put_u64.ensures
    c.put_u64-2.ensures c.put_rows.ensures c.put_slabs.ensures
