-- Consolidation keeps an image in good order: the writes of a pair keep its destination sound, the mark stored is below 2^63, and so it goes on for all pairs,
-- whatever the windows and answers are, refusals too. Assumes nothing.
use Prim.Native.Nat.{ℕ, zero, suc, ◌+◌, ◌-◌, ◌^◌, ◌≤◌, ◌<◌}
use Rattle.std.proofs.Common.{arith, ◌∙◌, subst}
use Rattle.std.proofs.Math.Decide.{ℕ_discrete}
use Rattle.std.specs.Prelude.{◌≡◌, Bool, ◌&&◌, length, Option, Some, None}
use Rattle.std.proofs.Math.Path.{refl}
use Rattle.std.proofs.Math.Bool.{true, false}
use mathlib.Core.List.{List, [], ◌∷◌}
use Rattle.std.proofs.Math.Dec.{ltb, eqb}
use Rattle.model.specs.declared.ConsolidationFn.{ConsolidationFn}
use Rattle.model.specs.declared.WindowAnswer.{WindowAnswer}
use Rattle.model.specs.declared.WindowAnswer.TheVariants.{Empty, Number, NothingFinite}
use Rattle.model.specs.Words.{function_no}
use Rattle.model.specs.Bytes.{get}
use Rattle.model.specs.Image.{row_count, row_slots, sound}
use Rattle.model.specs.Ring.{Ring, ColumnValue, slots, cursor, stamp, is_old, end_of, newest}
use Rattle.model.specs.Window.{Job, window_answer}
use Rattle.model.specs.Lent.{Lent, row, ring, with_ring}
use Rattle.model.specs.Consolidate.{Filled, write_unless, write_on, write_bits, write_answer, unless_refused, fill_window, fill, Run, refuse_run, stamps_below}
use Rattle.model.specs.Consolidate.{or_zero, windows, job_of, filled, with_mark, close_pair, pair_with, pair_by, pair, pair_if, pairs}
use Rattle.laws.specs.Tests.{and_left, and_right, lt-is}
use Rattle.ring_theory.specs.Sound.{Sound, kept-by-write, sound-write}
use Rattle.image_theory.specs.Checks.{sound_keeps}
use Rattle.image_theory.specs.Good.{Good, length-sound, slab-sound, count_kept}
use Rattle.image_theory.specs.Stays.{Stays, stays_same, stays_then, stays_ring, stays_mark}

-- ---- what a window writes to a ring

-- r' after r: sound, with r's header
pub record Grown (n m d : ℕ) (r r' : Ring) : Type 0 where
  pub sound-is : Sound r'.slab n m d
  pub header_is : (w p : ℕ) → p + w ≤ 32 → get w r'.slab p ≡ get w r.slab p

module _ (n m d : ℕ) (r : Ring) where
  -- written, or passed over
  grown_unless_old : (b : Bool) (f : Filled) (w c v : ℕ) → Grown n m d r f.ring → Grown n m d r (write_unless b f w c v).ring
  unfolding write_unless
  grown_unless_old true f w c v h = h
  grown_unless_old false f w c v h =
      let es : List ColumnValue = record { column = c; value = v } ∷ [] in
      record {
        sound-is = sound-write f.ring es w n m d h.sound-is;
        header_is = λ x p l. (kept-by-write f.ring es w n m d h.sound-is).header x p l ∙ h.header_is x p l;
      }

  pub grown_on : (k : ℕ) (f : Filled) (w c v : ℕ) → Grown n m d r f.ring → Grown n m d r (write_on k f w c v).ring
  unfolding write_on
  grown_on zero f w c v h = grown_unless_old (is_old f.ring.slab w) f w c v h
  grown_on (suc k) f w c v h = h

  pub grown_answer : (a : WindowAnswer) (f : Filled) (w c : ℕ) → Grown n m d r f.ring → Grown n m d r (write_answer a f w c).ring
  unfolding write_answer write_bits
  grown_answer Empty f w c h = h
  grown_answer (Number x) f w c h = grown_on _ f w c _ h
  grown_answer NothingFinite f w c h = grown_on _ f w c _ h

  grown_unless : (k : ℕ) (f g : Filled) → Grown n m d r f.ring → Grown n m d r g.ring → Grown n m d r (unless_refused k f g).ring
  unfolding unless_refused
  grown_unless zero f g h k = k
  grown_unless (suc x) f g h k = h

  pub grown_window : (q : Job) (f : Filled) (w c j : ℕ) → Grown n m d r f.ring → Grown n m d r (fill_window q f w c j).ring
  unfolding fill_window
  grown_window q f w c zero h = h
  grown_window q f w c (suc j) h =
      let g = write_answer (window_answer q w c) f w c in
      grown_window q (unless_refused f.refusal f g) w (suc c) j (grown_unless f.refusal f g h (grown_answer (window_answer q w c) f w c h))

  pub grown_fill : (q : Job) (f : Filled) (ws : List ℕ) (k : ℕ) → Grown n m d r f.ring → Grown n m d r (fill q f ws k).ring
  unfolding fill
  grown_fill q f [] k h = h
  grown_fill q f (w ∷ ws) k h = grown_fill q (fill_window q f w 0 k) ws k (grown_window q f w 0 k h)

-- ---- one pair

-- the newest stamp, of stamps that passed the check
pub below_at : (s : List ℕ) (i k : ℕ) → stamps_below s i k ≡ true → (j : ℕ) → i ≤ j → j < i + k → stamp s j < 2 ^ 63
unfolding stamps_below
below_at s i zero h j p q = absurd (omega arith)
below_at s i (suc k) h j p q =
    go (ℕ_discrete i j) (lt-is (stamp s i) (2 ^ 63) (and_left (ltb (stamp s i) (2 ^ 63)) (stamps_below s (suc i) k) h))
    (below_at s (suc i) k (and_right (ltb (stamp s i) (2 ^ 63)) (stamps_below s (suc i) k) h) j)
  where
    go : Dec (i ≡ j) → stamp s i < 2 ^ 63 → (suc i ≤ j → j < suc i + k → stamp s j < 2 ^ 63) → stamp s j < 2 ^ 63
    go (yes e) here later = subst (λ (j : ℕ). stamp s j < 2 ^ 63) e here
    go (no e) here later = later (omega arith) (omega arith)

-- an end's stamp
pub end_back : (t : ℕ) → or_zero (end_of t) ≡ t
unfolding or_zero end_of
end_back zero = refl
end_back (suc t) = refl

pub newest-low : (r : Ring) → cursor r.slab < slots r.slab → stamps_below r.slab 0 (slots r.slab) ≡ true → or_zero (newest r) < 2 ^ 63
unfolding newest
newest-low r l h = rw (end_back (stamp r.slab (cursor r.slab))) (below_at r.slab 0 (slots r.slab) h (cursor r.slab) (omega arith) (omega arith))

module _ (l : Lent) (g : Good l.image) (i : ℕ) (hi : i < row_count l.image) where
  pub slab_of_lem : Sound (ring l i).slab (row_slots (row l i)) (row l i).series (row l i).interval
  unfolding ring row
  slab_of_lem = slab-sound l.image g i hi

  pub newest_of : stamps_below (ring l i).slab 0 (slots (ring l i).slab) ≡ true → or_zero (newest (ring l i)) < 2 ^ 63
  newest_of = newest-low (ring l i) (rw slab_of_lem.slots-is slab_of_lem.cursor_in)

  -- the ring, filled: as long as before, and sound
  module _ (q : Job) (k : ℕ) where
    grown_filled : Grown (row_slots (row l i)) (row l i).series (row l i).interval (ring l i) (filled q (ring l i) k).ring
    unfolding filled
    grown_filled =
        grown_fill (row_slots (row l i)) (row l i).series (row l i).interval (ring l i) q (record { ring = ring l i; writes = 0; refusal = 0 })
        (windows q) k (record { sound-is = slab_of_lem; header_is = λ w p x. refl })

    pub filled-long : length (filled q (ring l i) k).ring.slab ≡ (row l i).len
    unfolding row
    filled-long = length-sound l.image g i hi (filled q (ring l i) k).ring.slab grown_filled.sound-is

    pub filled-sound : sound (row l i) (filled q (ring l i) k).ring.slab ≡ true
    unfolding row ring
    filled-sound =
        sound_keeps (row l i) (ring l i).slab (filled q (ring l i) k).ring.slab grown_filled.header_is grown_filled.sound-is.cursor_in (g.sounds i hi)

module _ (l : Lent) (g : Good l.image) (i : ℕ) (hi : suc i < row_count l.image) where
  -- the destination's ring, filled and put back
  stays_filled : (q : Job) (k : ℕ) → Stays l (with_ring l (suc i) (filled q (ring l (suc i)) k).ring)
  stays_filled q k = stays_ring l (suc i) (filled q (ring l (suc i)) k).ring g hi (filled-long l g (suc i) hi q k) (filled-sound l g (suc i) hi q k)

  stays_with : (b : Bool) (f : ConsolidationFn) (c n : ℕ) → stamps_below (ring l i).slab 0 (slots (ring l i).slab) ≡ b
      → Stays l (pair_with b f (record { lent = l; count = c; refusal = n }) i).lent
  unfolding pair_with refuse_run close_pair
  stays_with false f c n e = stays_same l g
  stays_with true f c n e =
      let p = filled (job_of l i f) (ring l (suc i)) (row l i).series in
      let m = with_ring l (suc i) p.ring in
      let a = stays_filled (job_of l i f) (row l i).series in
      let t = or_zero (newest (ring l i)) in
      let b = eqb p.refusal 0 && ltb 0 p.writes in
      stays_then l m (with_mark b m i t) a
      (stays_mark m b i t a.good (rw (count_kept m.image l.image a.image_is) (omega arith)) (newest_of l g i (omega arith) e))

  -- whatever the pair's function
  pub stays_pair : (c n : ℕ) → Stays l (pair (record { lent = l; count = c; refusal = n }) i).lent
  unfolding pair
  stays_pair c n = go (function_no (row l (suc i)).function)
    where
      go : (f : Option ConsolidationFn) → Stays l (pair_by f (record { lent = l; count = c; refusal = n }) i).lent
      go None = unfold pair_by refuse_run in (stays_same l g)
      go (Some f) = unfold pair_by in (stays_with (stamps_below (ring l i).slab 0 (slots (ring l i).slab)) f c n refl)

-- ---- the run

pub stays_if : (b : Bool) (n : ℕ) (u : Run) (i : ℕ) → Good u.lent.image → suc i < row_count u.lent.image → Stays u.lent (pair_if b n u i).lent
unfolding pair_if
stays_if true zero u i g h = stays_pair u.lent g i h u.count u.refusal
stays_if true (suc n) u i g h = stays_same u.lent g
stays_if false n u i g h = stays_same u.lent g

pub stays_pairs : (u : Run) (i k : ℕ) → Good u.lent.image → i + k ≤ row_count u.lent.image - 1 → Stays u.lent (pairs u i k).lent
unfolding pairs
stays_pairs u i zero g h = stays_same u.lent g
stays_pairs u i (suc k) g h =
    let v = pair_if (eqb (row u.lent i).schema (row u.lent (suc i)).schema) u.refusal u i in
    let a = stays_if (eqb (row u.lent i).schema (row u.lent (suc i)).schema) u.refusal u i g (omega arith) in
    stays_then u.lent v.lent (pairs v (suc i) k).lent a
    (stays_pairs v (suc i) k a.good (rw (count_kept v.lent.image u.lent.image a.image_is) (omega arith)))
