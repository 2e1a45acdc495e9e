-- `reader::is_readable` meets its contract: without a sum or a product that wraps. Assumes nothing.
use Prim.Native.Nat.{◌≤◌}
use native.Mathlib.Omega.{arith}
use mathlib.Core.Path.{◌≡◌}
use lib.ListN.{length}
use Rattle.model.specs.Bytes.{get}
use Rattle.model.specs.Layout.{stamps_at, stamps_behind, directory}
use Rattle.reader.proofs.Laws.{unreadable, no_directory, no_room, no_column, no_slot, left_decides}
use Rattle.reader.proofs.is_readable.Goals as goal

pub returns-then-slab-lt-SLAB_HEADER : goal.returns-then-slab-lt-SLAB_HEADER
returns-then-slab-lt-SLAB_HEADER c =
    let a = c.args in unreadable a.slab.now a.column a.place c.if-slab-lt-SLAB_HEADER.true

pub stamps_at-stamps-requires : goal.stamps_at-stamps-requires
unfolding stamps_at stamps_behind directory
stamps_at-stamps-requires c = omega (arith, c.get_u32-m.ensures.1)

pub returns-then-slab-stamps : goal.returns-then-slab-stamps
returns-then-slab-stamps c =
    let stamps_are : c.stamps_at-stamps.result ≡ stamps_at c.get_u32-m.result = c.stamps_at-stamps.ensures in
    let slots_are : c.get_u32-n.result ≡ get 4 c.args.slab.now 16 = c.get_u32-n.ensures.0 in
    let series_are : c.get_u32-m.result ≡ get 4 c.args.slab.now 20 = c.get_u32-m.ensures.0 in
    let header : 64 ≤ length c.args.slab.now = c.if-slab-lt-SLAB_HEADER.false in
    no_directory c.args.slab.now c.args.column c.args.place slots_are series_are stamps_are header c.if-slab-stamps.true

pub returns-then-slab-stamps-2 : goal.returns-then-slab-stamps-2
returns-then-slab-stamps-2 c =
    let stamps_are : c.stamps_at-stamps.result ≡ stamps_at c.get_u32-m.result = c.stamps_at-stamps.ensures in
    let slots_are : c.get_u32-n.result ≡ get 4 c.args.slab.now 16 = c.get_u32-n.ensures.0 in
    let series_are : c.get_u32-m.result ≡ get 4 c.args.slab.now 20 = c.get_u32-m.ensures.0 in
    let header : 64 ≤ length c.args.slab.now = c.if-slab-lt-SLAB_HEADER.false in
    no_room c.args.slab.now c.args.column c.args.place slots_are series_are stamps_are header c.if-slab-stamps-2.true

pub returns-then-column-m : goal.returns-then-column-m
returns-then-column-m c =
    let stamps_are : c.stamps_at-stamps.result ≡ stamps_at c.get_u32-m.result = c.stamps_at-stamps.ensures in
    let slots_are : c.get_u32-n.result ≡ get 4 c.args.slab.now 16 = c.get_u32-n.ensures.0 in
    let series_are : c.get_u32-m.result ≡ get 4 c.args.slab.now 20 = c.get_u32-m.ensures.0 in
    let header : 64 ≤ length c.args.slab.now = c.if-slab-lt-SLAB_HEADER.false in
    no_column c.args.slab.now c.args.column c.args.place slots_are series_are stamps_are header c.if-slab-stamps.false c.if-slab-stamps-2.false c.if-column-m.true

pub returns-then-place-n : goal.returns-then-place-n
returns-then-place-n c =
    let stamps_are : c.stamps_at-stamps.result ≡ stamps_at c.get_u32-m.result = c.stamps_at-stamps.ensures in
    let slots_are : c.get_u32-n.result ≡ get 4 c.args.slab.now 16 = c.get_u32-n.ensures.0 in
    let series_are : c.get_u32-m.result ≡ get 4 c.args.slab.now 20 = c.get_u32-m.ensures.0 in
    let header : 64 ≤ length c.args.slab.now = c.if-slab-lt-SLAB_HEADER.false in
    no_slot c.args.slab.now c.args.column c.args.place slots_are series_are stamps_are header c.if-slab-stamps.false c.if-slab-stamps-2.false c.if-column-m.false c.if-place-n.true

pub returns : goal.returns
returns c =
    let stamps_are : c.stamps_at-stamps.result ≡ stamps_at c.get_u32-m.result = c.stamps_at-stamps.ensures in
    let slots_are : c.get_u32-n.result ≡ get 4 c.args.slab.now 16 = c.get_u32-n.ensures.0 in
    let series_are : c.get_u32-m.result ≡ get 4 c.args.slab.now 20 = c.get_u32-m.ensures.0 in
    let header : 64 ≤ length c.args.slab.now = c.if-slab-lt-SLAB_HEADER.false in
    left_decides c.args.slab.now c.args.column c.args.place slots_are series_are stamps_are header c.if-slab-stamps.false c.if-slab-stamps-2.false c.if-column-m.false c.if-place-n.false
