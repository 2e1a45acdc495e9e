-- A store in which no ring is ahead: every stamp of schema k's finest ring is at most a cap, and every stamp of a pair's destination is at most the window of
-- the pair's mark, so that a destination without a mark is empty. Writes to a finest ring keep it under a cap that they do not pass, and so does a pair whose
-- destination is filled up to its new mark. Assumes nothing.
use Rattle.std.specs.Prelude.{ℕ, suc, ◌^◌, ◌≤◌, ◌<◌, ◌≡◌, ◌≢◌, ◌⊎◌, Bool, false, cond, length}
use Rattle.std.proofs.Common.{arith, sym, ◌∙◌, subst, inl, inr}
use Rattle.std.proofs.Math.Decide.{ℕ_discrete}
use Rattle.std.proofs.Math.Path.{refl, ap}
use Rattle.std.proofs.Math.Bool.{true}
use Rattle.model.specs.declared.Row.{Row}
use Rattle.model.specs.Image.{row_count, row_at, row_slots, sound}
use Rattle.model.specs.Ring.{Ring}
use Rattle.model.specs.Window.{window_of}
use Rattle.model.specs.Lent.{Lent, row, ring, with_ring}
use Rattle.model.specs.Consolidate.{with_mark}
use Rattle.image_theory.specs.Checks.{NextTier, NextSchema, follows-parts, Alike}
use Rattle.image_theory.specs.Good.{Good, set_mark, SameRows, count_kept, like}
use Rattle.image_theory.specs.Frame.{row-with, ring-same, ring-other}
use Rattle.image_theory.specs.Mark.{row-with_mark, row-with_mark-other, ring-with_mark}
use Rattle.image_theory.specs.Stays.{Stays, stays_then, stays_ring, stays_mark}
use Rattle.as_before_proved.specs.Upto.{Upto, upto_more}

-- a cap for each finest ring, by its row
pub record Capped (cap : ℕ → ℕ) (l : Lent) : Type 0 where
  pub good : Good l.image
  pub flags_are : row_count l.image ≤ length l.flags
  pub finest : (i : ℕ) → i < row_count l.image → (row l i).tier ≡ 0 → Upto (row_slots (row l i)) (cap i) (ring l i).slab
  pub coarser : (i : ℕ) → suc i < row_count l.image → (row l i).schema ≡ (row l (suc i)).schema
      → Upto (row_slots (row l (suc i))) (window_of (row l (suc i)).interval (row l i).mark) (ring l (suc i)).slab

-- higher caps
pub capped_more : (cap higher : ℕ → ℕ) (l : Lent) → ((i : ℕ) → cap i ≤ higher i) → Capped cap l → Capped higher l
capped_more cap higher l up h = record {
  good = h.good;
  flags_are = h.flags_are;
  finest = λ i hi e. upto_more (row_slots (row l i)) (cap i) (higher i) (ring l i).slab (up i) (h.finest i hi e);
  coarser = h.coarser;
}

slots_like : (p q : Row) → Alike p q → row_slots p ≡ row_slots q
unfolding row_slots
slots_like p q a = rw (a.interval-is, a.retention_is)

pub rows_alike : (l m : Lent) → SameRows m.image l.image → (i : ℕ) → i < row_count l.image → Alike (row m i) (row l i)
unfolding row
rows_alike l m k i hi = (like m.image l.image k).alike i hi

-- header and rows stay, but for marks, and the rings of m are under the caps and marks
pub moved : (cap : ℕ → ℕ) (l m : Lent) → Good m.image → SameRows m.image l.image → row_count l.image ≤ length m.flags
    → ((i : ℕ) → i < row_count l.image → (row l i).tier ≡ 0 → Upto (row_slots (row l i)) (cap i) (ring m i).slab)
    → ((i : ℕ) → suc i < row_count l.image → (row l i).schema ≡ (row l (suc i)).schema
    → Upto (row_slots (row l (suc i))) (window_of (row l (suc i)).interval (row m i).mark) (ring m (suc i)).slab) → Capped cap m
moved cap l m g k f a b = record { good = g; flags_are = rw count f; finest = λ i hi e. at_first i (rw count at hi) e; coarser = λ i hi e. at_next i (rw count at hi) e }
  where
    count : row_count m.image ≡ row_count l.image
    count = count_kept m.image l.image k

    at_first : (i : ℕ) → i < row_count l.image → (row m i).tier ≡ 0 → Upto (row_slots (row m i)) (cap i) (ring m i).slab
    at_first i hi e = let s = rows_alike l m k i hi in subst (λ (n : ℕ). Upto n (cap i) (ring m i).slab) (sym (slots_like (row m i) (row l i) s)) (a i hi (sym s.tier-is ∙ e))

    at_next : (i : ℕ) → suc i < row_count l.image → (row m i).schema ≡ (row m (suc i)).schema
        → Upto (row_slots (row m (suc i))) (window_of (row m (suc i)).interval (row m i).mark) (ring m (suc i)).slab
    at_next i hi e =
        let s = rows_alike l m k (suc i) hi in
        let p = rows_alike l m k i (omega arith) in
        rw (slots_like (row m (suc i)) (row l (suc i)) s, s.interval-is) (b i hi (sym p.schema_is ∙ e ∙ s.schema_is))

-- a pair's destination is no finest ring
pub not-finest : (l : Lent) → Good l.image → (i : ℕ) → suc i < row_count l.image → (row l i).schema ≡ (row l (suc i)).schema → (row l (suc i)).tier ≢ 0
unfolding row
not-finest l g i hi e z = go (follows-parts (row_at l.image i) (row_at l.image (suc i)) (g.shape_is.follow i hi))
  where
    go : NextTier (row_at l.image i) (row_at l.image (suc i)) ⊎ NextSchema (row_at l.image i) (row_at l.image (suc i)) → ⊥
    go (inl x) = omega (arith, x.next-tier, z)
    go (inr x) = omega (arith, x.later, e)

module _ (cap : ℕ → ℕ) (l : Lent) (h : Capped cap l) where
  -- ---- a finest ring put back

  pub put-finest : (i : ℕ) (r : Ring) → i < row_count l.image → (row l i).tier ≡ 0 → length r.slab ≡ (row l i).len → sound (row l i) r.slab ≡ true
      → Upto (row_slots (row l i)) (cap i) r.slab → Capped cap (with_ring l i r)
  put-finest i r hi first len sd up =
      let s = stays_ring l i r h.good hi len sd in
      moved cap l (with_ring l i r) s.good s.image_is (rw s.flags_are h.flags_are) (λ j hj e. at_first j hj e (ℕ_discrete j i)) at_next
    where
      at_first : (j : ℕ) → j < row_count l.image → (row l j).tier ≡ 0 → Dec (j ≡ i) → Upto (row_slots (row l j)) (cap j) (ring (with_ring l i r) j).slab
      at_first j hj e (yes p) =
          subst (λ (x : ℕ). Upto (row_slots (row l x)) (cap x) (ring (with_ring l i r) x).slab) (sym p)
          (subst (λ (x : Ring). Upto (row_slots (row l i)) (cap i) x.slab) (sym (ring-same l i r h.good hi len (omega (arith, h.flags_are)))) up)
      at_first j hj e (no p) = subst (λ (x : Ring). Upto (row_slots (row l j)) (cap j) x.slab) (sym (ring-other l i r h.good hi len j hj p)) (h.finest j hj e)

      at_next : (j : ℕ) → suc j < row_count l.image → (row l j).schema ≡ (row l (suc j)).schema
          → Upto (row_slots (row l (suc j))) (window_of (row l (suc j)).interval (row (with_ring l i r) j).mark) (ring (with_ring l i r) (suc j)).slab
      at_next j hj e =
          let other : suc j ≢ i = λ p. not-finest l h.good j hj e (ap (λ (x : ℕ). (row l x).tier) p ∙ first) in
          rw (row-with l i r h.good hi len j (omega arith), ring-other l i r h.good hi len (suc j) hj other) (h.coarser j hj e)

  -- ---- a pair: its destination put back, and its mark

  module _ (i : ℕ) (r : Ring) (b : Bool) (t : ℕ) (hi : suc i < row_count l.image) (same : (row l i).schema ≡ (row l (suc i)).schema)
      (len : length r.slab ≡ (row l (suc i)).len) (sd : sound (row l (suc i)) r.slab ≡ true) (low : t < 2 ^ 63) where
    abbrev put : Lent
    put = with_ring l (suc i) r

    put_stays : Stays l put
    put_stays = stays_ring l (suc i) r h.good hi len sd

    put_count : row_count put.image ≡ row_count l.image
    put_count = count_kept put.image l.image put_stays.image_is

    here : i < row_count put.image
    here = rw put_count (omega arith)

    rings : (b : Bool) (j : ℕ) → j < row_count l.image → ring (with_mark b put i t) j ≡ ring put j
    rings false j hj = unfold with_mark in refl
    rings true j hj = ring-with_mark put i t put_stays.good here low j (rw put_count hj)

    mark_other : (b : Bool) (j : ℕ) → j < row_count l.image → j ≢ i → (row (with_mark b put i t) j).mark ≡ (row l j).mark
    mark_other false j hj ne = unfold with_mark in (ap (λ (x : Row). x.mark) (row-with l (suc i) r h.good hi len j hj))
    mark_other true j hj ne =
        ap (λ (x : Row). x.mark) (row-with_mark-other put i t put_stays.good here low j ne) ∙ ap (λ (x : Row). x.mark) (row-with l (suc i) r h.good hi len j hj)

    mark_same : (b : Bool) → (row (with_mark b put i t) i).mark ≡ cond b t (row l i).mark
    mark_same false = unfold with_mark in (ap (λ (x : Row). x.mark) (row-with l (suc i) r h.good hi len i (omega arith)))
    mark_same true = ap (λ (x : Row). x.mark) (row-with_mark put i t put_stays.good here low) ∙ unfold set_mark in refl

    pub put-pair : Upto (row_slots (row l (suc i))) (window_of (row l (suc i)).interval (cond b t (row l i).mark)) r.slab → Capped cap (with_mark b put i t)
    put-pair up =
        let s = stays_then l put (with_mark b put i t) put_stays (stays_mark put b i t put_stays.good here low) in
        moved cap l (with_mark b put i t) s.good s.image_is (rw s.flags_are h.flags_are) at_first (λ j hj e. at_next j hj e (ℕ_discrete j i))
      where
        at_first : (j : ℕ) → j < row_count l.image → (row l j).tier ≡ 0 → Upto (row_slots (row l j)) (cap j) (ring (with_mark b put i t) j).slab
        at_first j hj e =
            let other : j ≢ suc i = λ p. not-finest l h.good i hi same (ap (λ (x : ℕ). (row l x).tier) (sym p) ∙ e) in
            rw (rings b j hj, ring-other l (suc i) r h.good hi len j hj other) (h.finest j hj e)

        at_next : (j : ℕ) → suc j < row_count l.image → (row l j).schema ≡ (row l (suc j)).schema → Dec (j ≡ i)
            → Upto (row_slots (row l (suc j))) (window_of (row l (suc j)).interval (row (with_mark b put i t) j).mark) (ring (with_mark b put i t) (suc j)).slab
        at_next j hj e (yes p) =
            subst (λ (x : ℕ). Upto (row_slots (row l (suc x))) (window_of (row l (suc x)).interval (row (with_mark b put i t) x).mark) (ring (with_mark b put i t) (suc x)).slab) (sym p)
            (rw (mark_same b, rings b (suc i) hi, ring-same l (suc i) r h.good hi len (omega (arith, h.flags_are))) up)
        at_next j hj e (no p) =
            rw (mark_other b j (omega arith) p, rings b (suc j) hj, ring-other l (suc i) r h.good hi len (suc j) hj (λ x. p (omega arith))) (h.coarser j hj e)
