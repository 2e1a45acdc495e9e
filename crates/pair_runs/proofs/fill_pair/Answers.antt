-- `pair_runs::fill_pair` meets its contract: strand by strand, the windows of the rest of the range are left. Assumes nothing.
use Prim.Native.Nat.{◌+◌, ◌*◌, ◌≤◌, ◌<◌}
use native.Mathlib.Omega.{arith}
use mathlib.Core.Path.{◌≡◌, refl, ◌∙◌}
use mathlib.Core.Logic.{inl}
use Rattle.model.specs.Bytes.{part}
use Rattle.model.specs.Consolidate.{Filled, fill, windows}
use Rattle.rows.specs.First.{not_accepted}
use Rattle.strand_theory.specs.Cuts.{none}
use Rattle.window_theory.specs.Cut.{onward}
use Rattle.window_runs.specs.Strand.{Stranded}
use Rattle.window_runs.specs.Rest.{empty_range}
use Rattle.pair_fill.specs.Parts.{Keeps, WholeOrder, source_in, pair_job, filled_in}
use Rattle.pair_fill.proofs.Kept.{keeps_same, keeps_then}
use Rattle.pair_runs.specs.Parts.{all_filled, in_part}
use Rattle.pair_runs.proofs.Laws.{first-whole}
use Rattle.pair_runs.proofs.Writes.{writes_few}
use Rattle.pair_runs.proofs.Strands.{Strands, passes, lies_part, keeps_part, end_low, gone_on, one_strand, part-rest, part_turn, part-last}
use Rattle.pair_runs.proofs.fill_pair.Goals as goal

pub source_of-source-requires : goal.source_of-source-requires
unfolding part
source_of-source-requires c = c.requires.lies.readable

pub loop-start-init : goal.loop-start-init
loop-start-init c =
    let a = c.args in
    record { keeps = keeps_same a.image.now a.p c.requires.lies; fine = c.requires.outcome_value.0; left = refl; counted = inl none; few = omega arith }

pub next_strand-k-requires : goal.next_strand-k-requires
unfolding part
next_strand-k-requires c =
    let whole : let a = c.args in WholeOrder (source_in a.image.now a.p) a.p.reading c.first_place-first.result =
    let a = c.args in
    let f = rw (c.source_of-source.ensures.0, c.source_of-source.ensures.1) at c.first_place-first.ensures in
    first-whole (source_in a.image.now a.p) a.p.reading c.requires.lies.readable f.0 f.1 f.2 in
    record { readable = c.loop-start.invariant.keeps.lies.readable; slot_lt_slots = (whole.slot_in, whole.few_left) }

pub fill_runs-done-requires : goal.fill_runs-done-requires
unfolding part
fill_runs-done-requires c =
    let stranded : let p = c.args.p in Stranded (onward (pair_job c.loop-start.image p) c.loop-start.start) p.reading.slots c.first_place-first.result c.next_strand-k.result =
    c.next_strand-k.ensures in
    let whole : let a = c.args in WholeOrder (source_in a.image.now a.p) a.p.reading c.first_place-first.result =
    let a = c.args in
    let f = rw (c.source_of-source.ensures.0, c.source_of-source.ensures.1) at c.first_place-first.ensures in
    first-whole (source_in a.image.now a.p) a.p.reading c.requires.lies.readable f.0 f.1 f.2 in
    let ends : c.next_strand-k.result.end ≤ c.args.p.reading.end =
    let a = c.args in
    end_low a.image.now c.loop-start.image a.p c.loop-start.start c.requires.lies c.loop-start.invariant.keeps whole stranded in
    let few_writes : let a = c.args in c.loop-start.done.writes ≤ a.filling.writes + a.p.reading.series * a.p.reading.slots =
    let a = c.args in
    let q = onward (pair_job a.image.now a.p) c.loop-start.start in
    writes_few a.image.now a.p c.requires.lies q (windows q) a.p.reading.series (filled_in c.loop-start.image a.p c.loop-start.done) (filled_in a.image.now a.p a.filling) c.loop-start.invariant.left in
    let a = c.args in
    let i = c.loop-start.invariant in
    rw c.part_of-part.ensures (record {
      lies = (lies_part i.keeps.lies c.loop-start.start c.next_strand-k.result.end ends, stranded.slot_in, omega (arith, stranded.fewer, whole.few_left));
      outcome_value = (i.fine, omega (arith, c.requires.outcome_value.1, few_writes));
      rest = part-rest a.image.now c.loop-start.image a.p c.loop-start.start c.requires.lies i.keeps whole stranded c.loop-start.done;
    })

pub returns-in_default : goal.returns-in_default
unfolding part
returns-in_default c =
    let stranded : let p = c.args.p in Stranded (onward (pair_job c.loop-start.image p) c.loop-start.start) p.reading.slots c.first_place-first.result c.next_strand-k.result =
    c.next_strand-k.ensures in
    let whole : let a = c.args in WholeOrder (source_in a.image.now a.p) a.p.reading c.first_place-first.result =
    let a = c.args in
    let f = rw (c.source_of-source.ensures.0, c.source_of-source.ensures.1) at c.first_place-first.ensures in
    first-whole (source_in a.image.now a.p) a.p.reading c.requires.lies.readable f.0 f.1 f.2 in
    let counts : let a = c.args in Strands (pair_job a.image.now a.p) (c.loop-start.strands + 1) c.next_strand-k.result.end =
    let a = c.args in
    one_strand a.image.now c.loop-start.image a.p c.loop-start.start c.requires.lies c.loop-start.invariant.keeps whole stranded c.loop-start-test.true c.loop-start.invariant.counted in
    let fills : let q = pair_job c.loop-start.image (in_part c.args.p c.loop-start.start c.next_strand-k.result.end) in filled_in c.fill_runs-done.new.image c.args.p c.fill_runs-done.result ≡
    fill q (filled_in c.loop-start.image c.args.p c.loop-start.done) (windows q) c.args.p.reading.series =
    rw c.part_of-part.ensures at c.fill_runs-done.ensures.result_after in
    let kept : Keeps c.args.image.now c.fill_runs-done.new.image c.args.p =
    let i = c.loop-start.invariant.keeps in
    keeps_then c.args.image.now c.loop-start.image c.fill_runs-done.new.image c.args.p c.requires.lies i (keeps_part i.lies c.loop-start.start c.next_strand-k.result.end (rw c.part_of-part.ensures at c.fill_runs-done.ensures.keeps.0)) in
    let total : Filled =
    let a = c.args in
    all_filled a.image.now a.p a.filling in
    let leaves : let q = onward (pair_job c.args.image.now c.args.p) c.next_strand-k.result.end in fill q (filled_in c.fill_runs-done.new.image c.args.p c.fill_runs-done.result) (windows q) c.args.p.reading.series ≡ total =
    part_turn c.args.image.now c.loop-start.image c.args.p c.loop-start.start c.requires.lies c.loop-start.invariant.keeps whole stranded c.loop-start.done c.loop-start.invariant.left c.fill_runs-done.new.image c.fill_runs-done.result fills in
    let a = c.args in
    let q = onward (pair_job a.image.now a.p) c.next_strand-k.result.end in
    let last = part-last a.image.now c.loop-start.image a.p c.loop-start.start c.requires.lies c.loop-start.invariant.keeps whole stranded
    c.loop-start.done c.loop-start.invariant.left c.fill_runs-done.new.image c.fill_runs-done.result fills
    (not_accepted c.in_default.is) in
    let few = writes_few a.image.now a.p c.requires.lies q (windows q) a.p.reading.series (filled_in c.fill_runs-done.new.image a.p c.fill_runs-done.result)
    (filled_in a.image.now a.p a.filling) leaves in
    record { filling_after = last; keeps = (kept, few); passes = passes counts }

pub loop-start-smaller : goal.loop-start-smaller
unfolding part
loop-start-smaller c =
    let whole : let a = c.args in WholeOrder (source_in a.image.now a.p) a.p.reading c.first_place-first.result =
    let a = c.args in
    let f = rw (c.source_of-source.ensures.0, c.source_of-source.ensures.1) at c.first_place-first.ensures in
    first-whole (source_in a.image.now a.p) a.p.reading c.requires.lies.readable f.0 f.1 f.2 in
    let stranded : let p = c.args.p in Stranded (onward (pair_job c.loop-start.image p) c.loop-start.start) p.reading.slots c.first_place-first.result c.next_strand-k.result =
    c.next_strand-k.ensures in
    let ends : c.next_strand-k.result.end ≤ c.args.p.reading.end =
    let a = c.args in
    end_low a.image.now c.loop-start.image a.p c.loop-start.start c.requires.lies c.loop-start.invariant.keeps whole stranded in
    let goes : c.loop-start.start < c.next_strand-k.result.end =
    let a = c.args in
    gone_on a.image.now c.loop-start.image a.p c.loop-start.start c.requires.lies c.loop-start.invariant.keeps whole stranded c.loop-start-test.true in
    omega (arith, goes, ends)

pub loop-start-preserved : goal.loop-start-preserved
unfolding part
loop-start-preserved c =
    let kept : Keeps c.args.image.now c.fill_runs-done.new.image c.args.p =
    let i = c.loop-start.invariant.keeps in
    keeps_then c.args.image.now c.loop-start.image c.fill_runs-done.new.image c.args.p c.requires.lies i (keeps_part i.lies c.loop-start.start c.next_strand-k.result.end (rw c.part_of-part.ensures at c.fill_runs-done.ensures.keeps.0)) in
    let total : Filled =
    let a = c.args in
    all_filled a.image.now a.p a.filling in
    let whole : let a = c.args in WholeOrder (source_in a.image.now a.p) a.p.reading c.first_place-first.result =
    let a = c.args in
    let f = rw (c.source_of-source.ensures.0, c.source_of-source.ensures.1) at c.first_place-first.ensures in
    first-whole (source_in a.image.now a.p) a.p.reading c.requires.lies.readable f.0 f.1 f.2 in
    let stranded : let p = c.args.p in Stranded (onward (pair_job c.loop-start.image p) c.loop-start.start) p.reading.slots c.first_place-first.result c.next_strand-k.result =
    c.next_strand-k.ensures in
    let fills : let q = pair_job c.loop-start.image (in_part c.args.p c.loop-start.start c.next_strand-k.result.end) in filled_in c.fill_runs-done.new.image c.args.p c.fill_runs-done.result ≡
    fill q (filled_in c.loop-start.image c.args.p c.loop-start.done) (windows q) c.args.p.reading.series =
    rw c.part_of-part.ensures at c.fill_runs-done.ensures.result_after in
    let leaves : let q = onward (pair_job c.args.image.now c.args.p) c.next_strand-k.result.end in fill q (filled_in c.fill_runs-done.new.image c.args.p c.fill_runs-done.result) (windows q) c.args.p.reading.series ≡ total =
    part_turn c.args.image.now c.loop-start.image c.args.p c.loop-start.start c.requires.lies c.loop-start.invariant.keeps whole stranded c.loop-start.done c.loop-start.invariant.left c.fill_runs-done.new.image c.fill_runs-done.result fills in
    let goes : c.loop-start.start < c.next_strand-k.result.end =
    let a = c.args in
    gone_on a.image.now c.loop-start.image a.p c.loop-start.start c.requires.lies c.loop-start.invariant.keeps whole stranded c.loop-start-test.true in
    let counts : let a = c.args in Strands (pair_job a.image.now a.p) (c.loop-start.strands + 1) c.next_strand-k.result.end =
    let a = c.args in
    one_strand a.image.now c.loop-start.image a.p c.loop-start.start c.requires.lies c.loop-start.invariant.keeps whole stranded c.loop-start-test.true c.loop-start.invariant.counted in
    record { keeps = kept; fine = c.in-Ok.is; left = leaves; counted = counts; few = omega (arith, c.loop-start.invariant.few, goes) }

pub returns : goal.returns
returns c =
    let few_writes : let a = c.args in c.loop-start.done.writes ≤ a.filling.writes + a.p.reading.series * a.p.reading.slots =
    let a = c.args in
    let q = onward (pair_job a.image.now a.p) c.loop-start.start in
    writes_few a.image.now a.p c.requires.lies q (windows q) a.p.reading.series (filled_in c.loop-start.image a.p c.loop-start.done) (filled_in a.image.now a.p a.filling) c.loop-start.invariant.left in
    let a = c.args in
    let i = c.loop-start.invariant in
    let q = onward (pair_job a.image.now a.p) c.loop-start.start in
    let done = empty_range q a.p.reading.series (filled_in c.loop-start.image a.p c.loop-start.done) (omega arith) ∙ i.left in
    record { filling_after = done; keeps = (i.keeps, few_writes); passes = passes i.counted }
