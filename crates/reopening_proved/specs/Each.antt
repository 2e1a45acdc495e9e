-- A property of a ring that every accepted write keeps, and opening: then every call keeps it of every ring of the store, and so does every list of calls,
-- refused ones and openings among them, whatever is recorded and in whatever order. Where a fresh ring has it, every list of calls from creation on leaves it.
-- Assumes nothing.
use Prim.Native.Nat.{ℕ, zero, suc, ◌+◌, ◌-◌, ◌^◌, ◌≤◌, ◌<◌}
use Rattle.std.proofs.Common.{arith, sym, ap, ◌∙◌}
use Rattle.std.proofs.Math.Decide.{ℕ_discrete}
use Rattle.std.specs.Prelude.{◌≡◌, Bool, ◌&&◌, length, Option, Some, None}
use Rattle.std.proofs.Math.Path.{refl, subst}
use Rattle.std.proofs.Math.Bool.{true, false}
use mathlib.Core.List.{List, [], ◌∷◌}
use Rattle.std.proofs.Math.Dec.{ltb, eqb}
use Rattle.std.specs.Float.Ieee.{binary64, to_bits}
use Rattle.model.specs.declared.Row.{Row}
use Rattle.model.specs.declared.ConsolidationFn.{ConsolidationFn}
use Rattle.model.specs.declared.WindowAnswer.{WindowAnswer}
use Rattle.model.specs.declared.WindowAnswer.TheVariants.{Empty, Number, NothingFinite}
use Rattle.model.specs.Words.{function_no}
use Rattle.model.specs.Layout.{fresh_value}
use Rattle.model.specs.Image.{schemas, row_count, row_at, row_slots, sound, create_check, open_check}
use Rattle.model.specs.Ring.{Ring, ColumnValue, slots, cell, is_old, wrap_flag, write, newest}
use Rattle.model.specs.Window.{Job, window_answer}
use Rattle.model.specs.Lent.{Lent, row, ring, with_ring, row_no, opening, creation}
use Rattle.model.specs.Record.{Entry, write_to, record_check, record_on, batch_check, entries_of, write_some, write_schemas, batch_on}
use Rattle.model.specs.Consolidate.{Filled, write_check, write_unless, write_on, write_bits, write_answer, unless_refused, fill_window, fill, Run, refuse_run, stamps_below, or_zero, windows, job_of, filled}
use Rattle.model.specs.Consolidate.{with_mark, close_pair, pair_with, pair_by, pair, pair_if, pairs, run_on, run}
use Rattle.model.specs.Store.{Call, Deed, reads, records, records_all, runs, opens, deed, doing, finished, call, after}
use Rattle.reopening.specs.Reopening.{History, created, left}
use Rattle.laws.specs.Checks.{each_zero, unless_zero}
use Rattle.ring_theory.specs.Sound.{Sound, sound-write}
use Rattle.ring_theory.specs.Hold.{Blank}
use Rattle.image_theory.specs.Recorded.{stamp-low, stamp_pos, handle_in, record_zero, batch_zero, batch_none}
use Rattle.image_theory.specs.Good.{Good, SameRows, set_mark, count_kept, schemas-kept}
use Rattle.image_theory.specs.Frame.{count-with, ring-same, ring-other, length-write, sound-written}
use Rattle.image_theory.specs.Mark.{ring-with_mark}
use Rattle.image_theory.specs.Stays.{kept_refl, stays_ring, stays_mark, stays_some, finest}
use Rattle.image_theory.specs.Pairs.{slab_of_lem, newest_of, filled-long, filled-sound, stays_if}
use Rattle.image_theory.specs.Calls.{opened_image, opened_flags, ring-opened}
use Rattle.image_theory.proofs.Calls.{verdict_after}
use Rattle.fresh_theory.specs.Creation.{low_open, good-created, created_like, created_flags, created-blank, created-cell}

-- a window's write that is accepted has a stamp
write_zero : (v w : ℕ) → write_check v w ≡ 0 → (0 < w) × (w < 2 ^ 63)
unfolding write_check
write_zero v w h =
    let z = unless_zero _ (each_zero _ h 1) in
    (stamp_pos w z, stamp-low w z)

-- a row that is the same but for its mark has the same sizes
same-sizes : (p q : Row) → set_mark p 0 ≡ set_mark q 0 → (row_slots p ≡ row_slots q) × (p.series ≡ q.series)
unfolding set_mark row_slots
same-sizes p q e =
    let i : p.interval ≡ q.interval = ap (λ (x : Row). x.interval) e in
    let t : p.retention ≡ q.retention = ap (λ (x : Row). x.retention) e in
    (rw (i, t) refl, ap (λ (x : Row). x.series) e)

-- a ring after an opening that was handed the flags fs
pub ring-again : (l : Lent) → Good l.image → (fs : List Bool) (i : ℕ) → i < row_count l.image
    → ring (opening (record { image = l.image; flags = fs })) i ≡ record { slab = (ring l i).slab; wrapped = wrap_flag (ring l i).slab }
unfolding ring row
ring-again l g fs i hi = unfold ring row in (ring-opened (record { image = l.image; flags = fs }) g i hi)

-- the property, of a ring with n slots and m series
module _ (P : ℕ → ℕ → Ring → Type 0)
    (on-write : (n m d : ℕ) (r : Ring) (es : List ColumnValue) (t : ℕ) → Sound r.slab n m d → 0 < t → t < 2 ^ 63 → P n m r → P n m (write r es t))
    (on_open : (n m d : ℕ) (r : Ring) → Sound r.slab n m d → P n m r → P n m (record { slab = r.slab; wrapped = wrap_flag r.slab })) where
  -- a store in good order, each of whose rings has it
  pub record Each (l : Lent) : Type 0 where
    pub good : Good l.image
    pub flags_are : row_count l.image ≤ length l.flags
    pub rings : (i : ℕ) → i < row_count l.image → P (row_slots (row l i)) (row l i).series (ring l i)

  -- header and rows stay, but for marks, and the rings have it
  moved : (l l' : Lent) → Good l'.image → SameRows l'.image l.image → row_count l.image ≤ length l'.flags
      → ((i : ℕ) → i < row_count l.image → P (row_slots (row l i)) (row l i).series (ring l' i)) → Each l'
  unfolding row
  moved l l' g k f h =
      let c = count_kept l'.image l.image k in
      record {
        good = g;
        flags_are = rw c f;
        rings = λ i hi. let s = same-sizes (row_at l'.image i) (row_at l.image i) (k.row_is i (rw c at hi)) in rw (s.0, s.1) (h i (rw c at hi));
      }

  -- ---- a ring put back, and a mark

  put_back : (l : Lent) (i : ℕ) (r : Ring) → Each l → i < row_count l.image → length r.slab ≡ (row l i).len → sound (row l i) r.slab ≡ true
      → P (row_slots (row l i)) (row l i).series r → Each (with_ring l i r)
  put_back l i r h hi len sd p =
      let s = stays_ring l i r h.good hi len sd in
      moved l (with_ring l i r) s.good s.image_is (rw s.flags_are h.flags_are) (λ j hj. go j hj (ℕ_discrete j i))
    where
      go : (j : ℕ) → j < row_count l.image → Dec (j ≡ i) → P (row_slots (row l j)) (row l j).series (ring (with_ring l i r) j)
      go j hj (yes e) =
          subst (λ (x : ℕ). P (row_slots (row l x)) (row l x).series (ring (with_ring l i r) x)) (sym e)
          (subst (P (row_slots (row l i)) (row l i).series) (sym (ring-same l i r h.good hi len (omega (arith, h.flags_are)))) p)
      go j hj (no ne) = subst (P (row_slots (row l j)) (row l j).series) (sym (ring-other l i r h.good hi len j hj ne)) (h.rings j hj)

  marked : (b : Bool) (l : Lent) (i t : ℕ) → Each l → i < row_count l.image → t < 2 ^ 63 → Each (with_mark b l i t)
  marked false l i t h hi low = unfold with_mark in h
  marked true l i t h hi low =
      let s = stays_mark l true i t h.good hi low in
      moved l (with_mark true l i t) s.good s.image_is (rw s.flags_are h.flags_are)
      (λ j hj. subst (P (row_slots (row l j)) (row l j).series) (sym (ring-with_mark l i t h.good hi low j hj)) (h.rings j hj))

  -- ---- record and record_batch

  module _ (t : ℕ) (pos : 0 < t) (low : t < 2 ^ 63) where
    written : (l : Lent) → Each l → (k : ℕ) → k < schemas l.image → (es : List ColumnValue) → Each (write_to l k es t)
    unfolding write_to
    written l h k hk es =
        let i = row_no l k 0 in
        let hi = finest l h.good k hk in
        put_back l i (write (ring l i) es t) h hi (length-write l i es t h.good hi) (sound-written l i es t h.good hi)
        (on-write (row_slots (row l i)) (row l i).series (row l i).interval (ring l i) es t (slab_of_lem l h.good i hi) pos low (h.rings i hi))

    some : (l : Lent) → Each l → (k : ℕ) → k < schemas l.image → (es : List ColumnValue) → Each (write_some l k es t)
    unfolding write_some
    some l h k hk [] = h
    some l h k hk (e ∷ es) = written l h k hk (e ∷ es)

    by_schema : (es : List Entry) (j k : ℕ) (l : Lent) → Each l → k + j ≤ schemas l.image → Each (write_schemas l k j es t)
    unfolding write_schemas
    by_schema es zero k l h b = h
    by_schema es (suc j) k l h b =
        let m = write_some l k (entries_of k es) t in
        let s = stays_some l h.good k (omega arith) (entries_of k es) t in
        by_schema es j (suc k) m (some l h k (omega arith) (entries_of k es)) (rw (schemas-kept m.image l.image s.image_is) (omega arith))

  -- by the check's number
  recorded : (n : ℕ) (l : Lent) (k c v t : ℕ) → record_check l k c v t ≡ n → Each l → Each (record_on n l k c v t)
  unfolding record_on
  recorded zero l k c v t e h =
      let z = record_zero l k c v t e in
      written t z.3 z.2 l h k (handle_in l k c z.1).0 (record { column = c; value = v } ∷ [])
  recorded (suc n) l k c v t e h = h

  batched : (n : ℕ) (l : Lent) (es : List Entry) (t : ℕ) → batch_check l es t ≡ n → Each l → Each (batch_on n l es t)
  unfolding batch_on
  batched zero l [] t e h = rw (batch_none l 0 (schemas l.image) t) h
  batched zero l (x ∷ es) t e h = let z = batch_zero l x es t e in by_schema t z.3 z.2 (x ∷ es) (schemas l.image) 0 l h (omega arith)
  batched (suc n) l es t e h = h

  -- ---- a pair's writes to its destination

  module _ (n m d : ℕ) where
    -- a ring in good order that has it
    record Having (r : Ring) : Type 0 where
      is-sound : Sound r.slab n m d
      has : P n m r

    on-unless : (b : Bool) (f : Filled) (w c v : ℕ) → 0 < w → w < 2 ^ 63 → Having f.ring → Having (write_unless b f w c v).ring
    unfolding write_unless
    on-unless true f w c v pos low h = h
    on-unless false f w c v pos low h =
        let es : List ColumnValue = record { column = c; value = v } ∷ [] in
        record { is-sound = sound-write f.ring es w n m d h.is-sound; has = on-write n m d f.ring es w h.is-sound pos low h.has }

    on_check : (k : ℕ) (f : Filled) (w c v : ℕ) → write_check v w ≡ k → Having f.ring → Having (write_on k f w c v).ring
    unfolding write_on
    on_check zero f w c v e h = let z = write_zero v w e in on-unless (is_old f.ring.slab w) f w c v z.0 z.1 h
    on_check (suc k) f w c v e h = h

    on_answer : (a : WindowAnswer) (f : Filled) (w c : ℕ) → Having f.ring → Having (write_answer a f w c).ring
    unfolding write_answer write_bits
    on_answer Empty f w c h = h
    on_answer (Number x) f w c h = on_check (write_check (to_bits binary64 x) w) f w c (to_bits binary64 x) refl h
    on_answer NothingFinite f w c h = on_check (write_check fresh_value w) f w c fresh_value refl h

    unless_ended : (k : ℕ) (f g : Filled) → Having f.ring → Having g.ring → Having (unless_refused k f g).ring
    unfolding unless_refused
    unless_ended zero f g a b = b
    unless_ended (suc k) f g a b = a

    on_window : (q : Job) (j c : ℕ) (f : Filled) (w : ℕ) → Having f.ring → Having (fill_window q f w c j).ring
    unfolding fill_window
    on_window q zero c f w h = h
    on_window q (suc j) c f w h =
        let g = write_answer (window_answer q w c) f w c in
        on_window q j (suc c) (unless_refused f.refusal f g) w (unless_ended f.refusal f g h (on_answer (window_answer q w c) f w c h))

    on-fill : (q : Job) (ws : List ℕ) (k : ℕ) (f : Filled) → Having f.ring → Having (fill q f ws k).ring
    unfolding fill
    on-fill q [] k f h = h
    on-fill q (w ∷ ws) k f h = on-fill q ws k (fill_window q f w 0 k) (on_window q k 0 f w h)

  -- ---- a pair

  module _ (l : Lent) (h : Each l) (i : ℕ) (hi : suc i < row_count l.image) where
    abbrev filled_in : Job → ℕ → Lent
    filled_in q k = with_ring l (suc i) (filled q (ring l (suc i)) k).ring

    filled_there : (q : Job) (k : ℕ) → Each (filled_in q k) × (row_count (filled_in q k).image ≡ row_count l.image)
    unfolding filled
    filled_there q k =
        let j = suc i in
        let f : Filled = record { ring = ring l j; writes = 0; refusal = 0 } in
        let s = slab_of_lem l h.good j hi in
        let z = on-fill (row_slots (row l j)) (row l j).series (row l j).interval q (windows q) k f (record { is-sound = s; has = h.rings j hi }) in
        let r = (fill q f (windows q) k).ring in
        let long = filled-long l h.good j hi q k in
        (put_back l j r h hi long (filled-sound l h.good j hi q k) z.has, count-with l j r h.good hi long)

    paired_with : (b : Bool) (f : ConsolidationFn) (c n : ℕ) → stamps_below (ring l i).slab 0 (slots (ring l i).slab) ≡ b
        → Each (pair_with b f (record { lent = l; count = c; refusal = n }) i).lent
    unfolding pair_with refuse_run close_pair
    paired_with false f c n e = h
    paired_with true f c n e =
        let p = filled (job_of l i f) (ring l (suc i)) (row l i).series in
        let a = filled_there (job_of l i f) (row l i).series in
        marked (eqb p.refusal 0 && ltb 0 p.writes) (with_ring l (suc i) p.ring) i (or_zero (newest (ring l i))) a.0 (rw a.1 (omega arith))
        (newest_of l h.good i (omega arith) e)

    paired : (f : Option ConsolidationFn) (c n : ℕ) → Each (pair_by f (record { lent = l; count = c; refusal = n }) i).lent
    unfolding pair_by
    paired None c n = unfold refuse_run in h
    paired (Some f) c n = paired_with (stamps_below (ring l i).slab 0 (slots (ring l i).slab)) f c n refl

  -- ---- the run

  pub pair_if_lem : (b : Bool) (n : ℕ) (u : Run) (i : ℕ) → Each u.lent → suc i < row_count u.lent.image → Each (pair_if b n u i).lent
  unfolding pair_if pair
  pair_if_lem true zero u i h hi = paired u.lent h i hi (function_no (row u.lent (suc i)).function) u.count u.refusal
  pair_if_lem true (suc n) u i h hi = h
  pair_if_lem false n u i h hi = h

  pub all-pairs : (k i : ℕ) (u : Run) → Each u.lent → i + k ≤ row_count u.lent.image - 1 → Each (pairs u i k).lent
  unfolding pairs
  all-pairs zero i u h b = h
  all-pairs (suc k) i u h b =
      let same = eqb (row u.lent i).schema (row u.lent (suc i)).schema in
      let v = pair_if same u.refusal u i in
      let s = stays_if same u.refusal u i h.good (omega arith) in
      all-pairs k (suc i) v (pair_if_lem same u.refusal u i h (omega arith)) (rw (count_kept v.lent.image u.lent.image s.image_is) (omega arith))

  ran : (n : ℕ) (l : Lent) → Each l → Each (run_on n l).lent
  unfolding run_on
  ran zero l h = all-pairs (row_count l.image - 1) 0 (record { lent = l; count = 0; refusal = 0 }) h (omega arith)
  ran (suc n) l h = h

  -- ---- opening: any flags

  opened : (l : Lent) (fs : List Bool) → Each l → Each (opening (record { image = l.image; flags = fs }))
  opened l fs h =
      let o : Lent = record { image = l.image; flags = fs } in
      let e = opened_image o in
      moved l (opening o) (rw e h.good) (rw e (kept_refl l.image)) (opened_flags o h.good)
      (λ i hi. rw (ring-again l h.good fs i hi)
      (on_open (row_slots (row l i)) (row l i).series (row l i).interval (ring l i) (slab_of_lem l h.good i hi) (h.rings i hi)))

  -- ---- any call, and any list of them

  each-deed : (l : Lent) (d : Deed) → Each l → Each (doing l d).lent
  unfolding finished run
  each-deed l (reads reply) h = h
  each-deed l (records k c v t) h = recorded (record_check l k c v t) l k c v t refl h
  each-deed l (records_all es t) h = batched (batch_check l es t) l es t refl h
  each-deed l runs h = ran (open_check l.image) l h
  each-deed l (opens fs) h = opened l fs h

  pub each-call : (l : Lent) (c : Call) → Each l → Each (call l c).lent
  unfolding call
  each-call l c h = each-deed l (deed c) h

  pub each_after : (cs : List Call) (l : Lent) → Each l → Each (after l cs)
  unfolding after
  each_after [] l h = h
  each_after (c ∷ cs) l h = each_after cs (call l c).lent (each-call l c h)

  -- ---- from creation on

  module _ (on-blank : (n m d : ℕ) (r : Ring) → Blank r n m d → ((c i : ℕ) → c < m → i < n → cell r.slab c i ≡ fresh_value) → P n m r) where
    each-created : (p : List ℕ) (l : Lent) → create_check p l.image ≡ 0 → open_check (creation p l).image ≡ 0 → Each (creation p l)
    each-created p l ok e = record {
      good = good-created p l ok low;
      flags_are = rw (created_like p l ok low).count-is (created_flags p l ok low);
      rings = λ i hi. has i (rw (created_like p l ok low).count-is at hi);
    }
      where
        low : (i : ℕ) → i < row_count p → (row_at p i).series < 2 ^ 32
        low = low_open p l ok e

        has : (i : ℕ) → i < row_count p → P (row_slots (row (creation p l) i)) (row (creation p l) i).series (ring (creation p l) i)
        has i hi =
            let r = row_at p i in
            let a = (created_like p l ok low).alike i hi in
            unfold row row_slots in (rw (a.interval-is, a.retention_is, a.series-is) (unfold row_slots in
            (on-blank (row_slots r) r.series r.interval (ring (creation p l) i) (created-blank p l ok low i hi) (λ c j hc hj. created-cell p l ok low i c j hi hc hj))))

    pub each_left : (h : History) → create_check h.plan h.buf ≡ 0 → open_check (left h).image ≡ 0 → Each (left h)
    unfolding left created
    each_left h ok e =
        let l : Lent = record { image = h.buf; flags = h.flags } in
        each_after h.calls (creation h.plan l) (each-created h.plan l ok (sym (verdict_after h.calls (creation h.plan l)) ∙ e))
