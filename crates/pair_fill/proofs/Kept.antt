-- The destination lent as `&mut image[start..end]` and come back: nothing else changed, and the pair lies in the image as before; one such step after another.
-- Assumes nothing.
use Prim.Native.Nat.{ℕ, zero, suc, ◌-◌}
use native.Mathlib.Omega.{arith}
use mathlib.Core.Path.{◌≡◌, refl, sym, ap, ◌∙◌, subst}
use mathlib.Core.List.{List, [], ◌∷◌}
use lib.ListN.{length}
use borrow.Rule.Slice.PartMut.{put_mid}
use Rattle.model.specs.declared.Place.{Place}
use Rattle.model.specs.declared.WindowAnswer.{WindowAnswer}
use Rattle.model.specs.Bytes.{part, splice}
use Rattle.model.specs.Window.{window_answer}
use Rattle.model.specs.Consolidate.{write_answer}
use Rattle.laws.specs.Bytes.{before, part-splice, part-splice-same, length_part, length-splice, splice-part, lent-splice}
use Rattle.ring_theory.specs.Sound.{Sound}
use Rattle.window.specs.Parts.{Readable, job_in}
use Rattle.window_write.specs.declared.Filling.{Filling}
use Rattle.window_write.specs.Parts.{filled_of}
use Rattle.pair_fill.specs.declared.Pair.{Pair}
use Rattle.pair_fill.specs.Parts.{source_in, dest_in, pair_job, filled_in, Lies, Covers, Keeps}

-- of two splices in one place the last counts
splice-again : (s x y : List ℕ) (o : ℕ) → length x ≡ length y → splice (splice s o x) o y ≡ splice s o y
unfolding splice
splice-again [] x y o e = refl
splice-again (a ∷ s) x y (suc o) e = ap (λ (l : List ℕ). a ∷ l) (splice-again s x y o e)
splice-again (a ∷ s) [] [] zero e = refl
splice-again (a ∷ s) [] (c ∷ y) zero e = absurd (omega arith)
splice-again (a ∷ s) (b ∷ x) [] zero e = absurd (omega arith)
splice-again (a ∷ s) (b ∷ x) (c ∷ y) zero e = ap (λ (l : List ℕ). c ∷ l) (splice-again s x y zero (omega arith))

module _ (s : List ℕ) (p : Pair) (h : Lies s p) where
  pub length_dest : length (dest_in s p) ≡ p.dest.to - p.dest.from
  length_dest = length_part s p.dest.from (p.dest.to - p.dest.from) (omega (arith, h.dest_forth, h.inside))

  -- with other bytes in the destination's place, in good order
  keeps_splice : (ys : List ℕ) → length ys ≡ p.dest.to - p.dest.from → Sound ys p.dest.sizes.slots p.dest.sizes.series p.dest.sizes.interval
      → (dest_in (splice s p.dest.from ys) p ≡ ys) × Keeps s (splice s p.dest.from ys) p
  keeps_splice ys l k =
      let b = p.dest.from in
      let t = splice s b ys in
      let d : dest_in t p ≡ ys = ap (part t b) (sym l) ∙ part-splice-same s b ys (omega (arith, h.dest_forth, h.inside)) in
      let e : source_in t p ≡ source_in s p = part-splice ys s p.from (p.to - p.from) b (before (omega (arith, h.source_forth, h.apart))) in (
        d,
        record {
          long = length-splice s b ys;
          only = ap (splice s b) (sym d);
          source_is = e;
          lies = record {
            source_forth = h.source_forth;
            apart = h.apart;
            dest_forth = h.dest_forth;
            inside = omega (arith, h.inside, length-splice s b ys);
            readable = subst (λ (x : List ℕ). Readable x p.reading) (sym e) h.readable;
            sound = subst (λ (x : List ℕ). Sound x p.dest.sizes.slots p.dest.sizes.series p.dest.sizes.interval) (sym d) k;
            some_interval = h.some_interval;
            end_low = h.end_low;
            same-series = h.same-series;
          };
        },
      )

  pub keeps_same : Keeps s s p
  keeps_same = record {
    long = refl;
    only = sym (splice-part s p.dest.from (p.dest.to - p.dest.from) (omega (arith, h.dest_forth, h.inside)));
    source_is = refl;
    lies = h;
  }

  -- one answer written
  pub column_filled : (ys : List ℕ) → length ys ≡ p.dest.to - p.dest.from → (filling r : Filling) (w c : ℕ) {x : WindowAnswer}
      → x ≡ window_answer (pair_job s p) w c → filled_of ys r ≡ write_answer x (filled_in s p filling) w c
      → Sound ys p.dest.sizes.slots p.dest.sizes.series p.dest.sizes.interval
      → (filled_in (put_mid p.dest.from (p.dest.to - p.dest.from) s ys) p r ≡ write_answer (window_answer (pair_job s p) w c) (filled_in s p filling) w c)
      × Keeps s (put_mid p.dest.from (p.dest.to - p.dest.from) s ys) p
  column_filled ys l filling r w c e f k =
      let z = lent-splice s p.dest.from (p.dest.to - p.dest.from) ys (omega (arith, h.dest_forth, h.inside)) l in
      let g = keeps_splice ys l k in
      rw z (ap (λ (t : List ℕ). filled_of t r) g.0 ∙ f ∙ ap (λ (a : WindowAnswer). write_answer a (filled_in s p filling) w c) e, g.1)

pub keeps_then : (s t u : List ℕ) (p : Pair) → Lies s p → Keeps s t p → Keeps t u p → Keeps s u p
keeps_then s t u p h a b = record {
  long = b.long ∙ a.long;
  only = b.only ∙ ap (λ (x : List ℕ). splice x p.dest.from (dest_in u p)) a.only
      ∙ splice-again s (dest_in t p) (dest_in u p) p.dest.from (length_dest t p a.lies ∙ sym (length_dest u p b.lies));
  source_is = b.source_is ∙ a.source_is;
  lies = b.lies;
}

-- the same job after a step, as the source's bytes did not change
pub job-kept : (s t : List ℕ) (p : Pair) → Keeps s t p → pair_job t p ≡ pair_job s p
job-kept s t p k = ap (λ (x : List ℕ). job_in x p.reading) k.source_is

-- and the same slots have all of the window
pub covers_kept : (s t : List ℕ) (p : Pair) → Keeps s t p → {w : ℕ} {place : Place} → Covers (source_in s p) p.reading w place → Covers (source_in t p) p.reading w place
covers_kept s t p k {w} {place} h = subst (λ (x : List ℕ). Covers x p.reading w place) (sym k.source_is) h
