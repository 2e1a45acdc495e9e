-- Two flags, one run: two stores with one image and all rings tidy, whatever their flags, read alike, ring by ring; a run over them writes the same bytes, counts
-- the same and is refused alike. Assumes nothing.
use Prim.Native.Nat.{ℕ, zero, suc, ◌+◌, ◌-◌, ◌≤◌, ◌<◌}
use Rattle.std.proofs.Common.{arith, sym, ap}
use Rattle.std.specs.Prelude.{◌≡◌, Bool, ◌&&◌, ltb, eqb, Option, Some, None}
use Rattle.std.proofs.Math.Path.{refl, subst}
use Rattle.std.proofs.Math.Bool.{true, false}
use mathlib.Core.List.{List, [], ◌∷◌}
use Rattle.std.specs.Float.{binary64}
use Rattle.std.specs.Float.Ieee.{to_bits}
use Rattle.model.specs.declared.Row.{Row}
use Rattle.model.specs.declared.ConsolidationFn.{ConsolidationFn}
use Rattle.model.specs.declared.WindowAnswer.{WindowAnswer}
use Rattle.model.specs.declared.WindowAnswer.TheVariants.{Empty, Number, NothingFinite}
use Rattle.model.specs.Words.{function_no}
use Rattle.model.specs.Layout.{fresh_value}
use Rattle.model.specs.Image.{row_count, row_slots}
use Rattle.model.specs.Ring.{Ring, ColumnValue, slots, is_old, write, newest}
use Rattle.model.specs.Window.{Job, window_answer}
use Rattle.model.specs.Lent.{Lent, row, ring, with_ring}
use Rattle.model.specs.Consolidate.{Filled, write_check, write_unless, write_on, write_bits, write_answer, unless_refused, fill_window, fill, Run, refuse_run, stamps_below, or_zero, start_of, end_after, windows, job_of, filled}
use Rattle.model.specs.Consolidate.{with_mark, close_pair, pair_with, pair_by, pair, pair_if, pairs}
use Rattle.ring_theory.specs.Write.{write-is}
use Rattle.image_theory.specs.Checks.{tiers_ok}
use Rattle.image_theory.specs.Good.{count_kept}
use Rattle.image_theory.specs.Pairs.{slab_of_lem, stays_if}
use Rattle.reopening_proved.specs.Tidy.{Tidy, tidy_write, tidy_opened}
use Rattle.reopening_proved.proofs.Same.{Same, same-reading}
use Rattle.reopening_proved.specs.Each.{Each, pair_if_lem}
use Rattle.reopening_proved.proofs.Windows.{filled-same}

-- every ring of the store is tidy
abbrev pub AllTidy : Lent → Type 0
AllTidy = Each Tidy tidy_write tidy_opened

-- ---- one image

module _ (l l' : Lent) (img : l'.image ≡ l.image) where
  row_same : (i : ℕ) → row l' i ≡ row l i
  unfolding row
  row_same i = rw img

  ring_flag : (i : ℕ) → ring l' i ≡ record { slab = (ring l i).slab; wrapped = (ring l' i).wrapped }
  unfolding ring row
  ring_flag i = rw img

  pub slab-same : (i : ℕ) → (ring l' i).slab ≡ (ring l i).slab
  unfolding ring row
  slab-same i = rw img

-- ---- and all rings tidy

module _ (l l' : Lent) (img : l'.image ≡ l.image) (t : AllTidy l) (t' : AllTidy l') where
  tidy_other : (i : ℕ) → i < row_count l.image → Tidy (row_slots (row l i)) (row l i).series (record { slab = (ring l i).slab; wrapped = (ring l' i).wrapped })
  tidy_other i hi = go (ring_flag l l' img i) (rw (row_same l l' img i) at (t'.rings i (rw img hi)))
    where
      go : {r : Ring} → ring l' i ≡ r → Tidy (row_slots (row l i)) (row l i).series (ring l' i) → Tidy (row_slots (row l i)) (row l i).series r
      go e h = subst (Tidy (row_slots (row l i)) (row l i).series) e h

  pub rings-same : (i : ℕ) → i < row_count l.image → Same (row l i).series (ring l' i) (ring l i)
  rings-same i hi =
      subst (λ (r : Ring). Same (row l i).series r (ring l i)) (sym (ring_flag l l' img i))
      (same-reading (ring l i).slab (slab_of_lem l t.good i hi) (ring l' i).wrapped (ring l i).wrapped (tidy_other i hi) (t.rings i hi))

-- ---- a write's bytes do not turn on the flag

pub write-slab : (r r' : Ring) (es : List ColumnValue) (t : ℕ) → r'.slab ≡ r.slab → (write r' es t).slab ≡ (write r es t).slab
write-slab r r' es t e = rw (write-is r' es t, write-is r es t, e)

-- the destination of a pair, with one flag and with another
record Level (p p' : Filled) : Type 0 where
  slab-is : p'.ring.slab ≡ p.ring.slab
  writes_are : p'.writes ≡ p.writes
  refusal_is : p'.refusal ≡ p.refusal

level_unless_old : (b : Bool) (p p' : Filled) (w c v : ℕ) → Level p p' → Level (write_unless b p w c v) (write_unless b p' w c v)
unfolding write_unless
level_unless_old true p p' w c v h = h
level_unless_old false p p' w c v h =
    record { slab-is = write-slab p.ring p'.ring (record { column = c; value = v } ∷ []) w h.slab-is; writes_are = ap suc h.writes_are; refusal_is = refl }

level_on : (k : ℕ) (p p' : Filled) (w c v : ℕ) → Level p p' → Level (write_on k p w c v) (write_on k p' w c v)
unfolding write_on
level_on zero p p' w c v h =
    subst (λ (s : List ℕ). Level (write_unless (is_old p.ring.slab w) p w c v) (write_unless (is_old s w) p' w c v)) (sym h.slab-is) (level_unless_old (is_old p.ring.slab w) p p' w c v h)
level_on (suc k) p p' w c v h = record { slab-is = h.slab-is; writes_are = h.writes_are; refusal_is = refl }

level_answer : (a : WindowAnswer) (p p' : Filled) (w c : ℕ) → Level p p' → Level (write_answer a p w c) (write_answer a p' w c)
unfolding write_answer write_bits
level_answer Empty p p' w c h = h
level_answer (Number x) p p' w c h = level_on (write_check (to_bits binary64 x) w) p p' w c (to_bits binary64 x) h
level_answer NothingFinite p p' w c h = level_on (write_check fresh_value w) p p' w c fresh_value h

level_unless : (n n' : ℕ) (p p' g g' : Filled) → n' ≡ n → Level p p' → Level g g' → Level (unless_refused n p g) (unless_refused n' p' g')
level_unless n n' p p' g g' e h k = subst (λ (x : ℕ). Level (unless_refused n p g) (unless_refused x p' g')) (sym e) (go n)
  where
    go : (n : ℕ) → Level (unless_refused n p g) (unless_refused n p' g')
    go zero = unfold unless_refused in k
    go (suc n) = unfold unless_refused in h

level_window : (q : Job) (j c : ℕ) (p p' : Filled) (w : ℕ) → Level p p' → Level (fill_window q p w c j) (fill_window q p' w c j)
unfolding fill_window
level_window q zero c p p' w h = h
level_window q (suc j) c p p' w h =
    let g = write_answer (window_answer q w c) p w c in
    let g' = write_answer (window_answer q w c) p' w c in
    level_window q j (suc c) (unless_refused p.refusal p g) (unless_refused p'.refusal p' g') w
    (level_unless p.refusal p'.refusal p p' g g' h.refusal_is h (level_answer (window_answer q w c) p p' w c h))

level_fill : (q : Job) (ws : List ℕ) (m : ℕ) (p p' : Filled) → Level p p' → Level (fill q p ws m) (fill q p' ws m)
unfolding fill
level_fill q [] m p p' h = h
level_fill q (w ∷ ws) m p p' h = level_fill q ws m (fill_window q p w 0 m) (fill_window q p' w 0 m) (level_window q m 0 p p' w h)

-- ---- a pair

mark_image : (b : Bool) (l l' : Lent) (i t : ℕ) → l'.image ≡ l.image → (with_mark b l' i t).image ≡ (with_mark b l i t).image
unfolding with_mark
mark_image true l l' i t e = rw e
mark_image false l l' i t e = e

pub put_image : (l l' : Lent) (i : ℕ) (r r' : Ring) → l'.image ≡ l.image → r'.slab ≡ r.slab → (with_ring l' i r').image ≡ (with_ring l i r).image
unfolding with_ring row
put_image l l' i r r' e f = rw (e, f)

-- two runs so far
pub record Even (u u' : Run) : Type 0 where
  pub image_is : u'.lent.image ≡ u.lent.image
  pub count-is : u'.count ≡ u.count
  pub refusal_is : u'.refusal ≡ u.refusal

module _ (l l' : Lent) (img : l'.image ≡ l.image) (t : AllTidy l) (t' : AllTidy l') (i : ℕ) (hi : suc i < row_count l.image) where
  source : Same (row l i).series (ring l' i) (ring l i)
  source = rings-same l l' img t t' i (omega arith)

  long : 0 < (row l (suc i)).interval
  unfolding row
  long = (tiers_ok l.image t.good.shape_is t.good.layout_is (suc i) hi).long

  -- the job, with the other's flag
  abbrev other : ConsolidationFn → Job
  other f = record {
    source = record { slab = (ring l i).slab; wrapped = (ring l' i).wrapped };
    function = f;
    long = (row l (suc i)).interval;
    start = start_of (row l i).mark (row l (suc i)).interval (ring l i);
    end = end_after (newest (ring l i));
  }

  job_is : (f : ConsolidationFn) → job_of l' i f ≡ other f
  unfolding job_of
  job_is f = rw (row_same l l' img i, row_same l l' img (suc i), source.newest-is, start_same (row l i).mark, ring_flag l l' img i)
    where
      start_same : (k : ℕ) → start_of k (row l (suc i)).interval (ring l' i) ≡ start_of k (row l (suc i)).interval (ring l i)
      start_same zero = unfold start_of in (ap or_zero source.oldest-is)
      start_same (suc k) = unfold start_of in refl

  level_pair : (f : ConsolidationFn) → Level (filled (job_of l i f) (ring l (suc i)) (row l i).series) (filled (job_of l' i f) (ring l' (suc i)) (row l' i).series)
  level_pair f =
      rw (job_is f, row_same l l' img i)
      (subst (λ (p : Filled). Level p (filled (other f) (ring l' (suc i)) (row l i).series)) (sym there)
      (unfold filled in (level_fill (other f) (windows (other f)) (row l i).series (record { ring = ring l (suc i); writes = 0; refusal = 0 }) (record { ring = ring l' (suc i); writes = 0; refusal = 0 })
      (record { slab-is = slab-same l l' img (suc i); writes_are = refl; refusal_is = refl }))))
    where
      there : filled (job_of l i f) (ring l (suc i)) (row l i).series ≡ filled (other f) (ring l (suc i)) (row l i).series
      there = unfold job_of in
          (filled-same (ring l i).slab (slab_of_lem l t.good i (omega arith)) f (row l (suc i)).interval (start_of (row l i).mark (row l (suc i)).interval (ring l i)) (end_after (newest (ring l i)))
          (ring l i).wrapped (ring l' i).wrapped (t.rings i (omega arith)) (tidy_other l l' img t t' i (omega arith)) long (ring l (suc i)))

-- the pair is closed alike
closed : (u u' : Run) (i t t' : ℕ) (p p' : Filled) → Even u u' → t' ≡ t → Level p p' → Even (close_pair u i t p) (close_pair u' i t' p')
unfolding close_pair
closed u u' i t t' p p' e f h =
    let b = eqb p.refusal 0 && ltb 0 p.writes in
    let same : eqb p'.refusal 0 && ltb 0 p'.writes ≡ b = rw (h.refusal_is, h.writes_are) in
    record {
      image_is = rw (same, f) (mark_image b (with_ring u.lent (suc i) p.ring) (with_ring u'.lent (suc i) p'.ring) i t
          (put_image u.lent u'.lent (suc i) p.ring p'.ring e.image_is h.slab-is));
      count-is = rw (e.count-is, h.writes_are);
      refusal_is = h.refusal_is;
    }

refused_alike : (u u' : Run) (n : ℕ) → Even u u' → Even (refuse_run u n) (refuse_run u' n)
unfolding refuse_run
refused_alike u u' n e = record { image_is = e.image_is; count-is = e.count-is; refusal_is = refl }

module _ (u u' : Run) (e : Even u u') (t : AllTidy u.lent) (t' : AllTidy u'.lent) (i : ℕ) (hi : suc i < row_count u.lent.image) where
  even_with : (b : Bool) (f : ConsolidationFn) → Even (pair_with b f u i) (pair_with b f u' i)
  unfolding pair_with
  even_with false f = refused_alike u u' 10 e
  even_with true f =
      closed u u' i (or_zero (newest (ring u.lent i))) (or_zero (newest (ring u'.lent i))) (filled (job_of u.lent i f) (ring u.lent (suc i)) (row u.lent i).series)
      (filled (job_of u'.lent i f) (ring u'.lent (suc i)) (row u'.lent i).series) e
      (ap or_zero (source u.lent u'.lent e.image_is t t' i hi).newest-is) (level_pair u.lent u'.lent e.image_is t t' i hi f)

  even_by : (f : Option ConsolidationFn) → Even (pair_by f u i) (pair_by f u' i)
  unfolding pair_by
  even_by None = refused_alike u u' 16 e
  even_by (Some f) =
      let s = slab-same u.lent u'.lent e.image_is i in
      subst (λ (s : List ℕ). Even (pair_with (stamps_below (ring u.lent i).slab 0 (slots (ring u.lent i).slab)) f u i) (pair_with (stamps_below s 0 (slots s)) f u' i)) (sym s)
      (even_with (stamps_below (ring u.lent i).slab 0 (slots (ring u.lent i).slab)) f)

  even_pair : Even (pair u i) (pair u' i)
  unfolding pair
  even_pair =
      subst (λ (r : Row). Even (pair_by (function_no (row u.lent (suc i)).function) u i) (pair_by (function_no r.function) u' i)) (sym (row_same u.lent u'.lent e.image_is (suc i)))
      (even_by (function_no (row u.lent (suc i)).function))

  even_if : (b b' : Bool) (n n' : ℕ) → b' ≡ b → n' ≡ n → Even (pair_if b n u i) (pair_if b' n' u' i)
  even_if b b' n n' p q = subst (λ (x : Bool). Even (pair_if b n u i) (pair_if x n' u' i)) (sym p) (subst (λ (x : ℕ). Even (pair_if b n u i) (pair_if b x u' i)) (sym q) (go b n))
    where
      go : (b : Bool) (n : ℕ) → Even (pair_if b n u i) (pair_if b n u' i)
      go true zero = unfold pair_if in even_pair
      go true (suc n) = unfold pair_if in e
      go false n = unfold pair_if in e

-- ---- the run

pub even_pairs : (k i : ℕ) (u u' : Run) → Even u u' → AllTidy u.lent → AllTidy u'.lent → i + k ≤ row_count u.lent.image - 1 → Even (pairs u i k) (pairs u' i k)
unfolding pairs
even_pairs zero i u u' e t t' b = e
even_pairs (suc k) i u u' e t t' b =
    let same = eqb (row u.lent i).schema (row u.lent (suc i)).schema in
    let same' = eqb (row u'.lent i).schema (row u'.lent (suc i)).schema in
    let s = stays_if same u.refusal u i t.good (omega arith) in
    let v = pair_if same u.refusal u i in
    let v' = pair_if same' u'.refusal u' i in
    let hi' : suc i < row_count u'.lent.image = rw e.image_is (omega arith) in
    even_pairs k (suc i) v v'
    (even_if u u' e t t' i (omega arith) same same' u.refusal u'.refusal (rw (row_same u.lent u'.lent e.image_is i, row_same u.lent u'.lent e.image_is (suc i))) e.refusal_is)
    (pair_if_lem Tidy tidy_write tidy_opened same u.refusal u i t (omega arith)) (pair_if_lem Tidy tidy_write tidy_opened same' u'.refusal u' i t' hi')
    (rw (count_kept v.lent.image u.lent.image s.image_is) (omega arith))
