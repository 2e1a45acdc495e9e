-- The filled pair closed, as the definition closes it; the pair by its function and the test of its stamps. Assumes nothing.
use Rattle.std.specs.Prelude.{Option, Some, None, Result, Ok}
use Prim.Native.Nat.{ℕ, suc, ◌+◌, ◌-◌, ◌*◌}
use native.Mathlib.Omega.{arith}
use native.Mathlib.Numerals.{add-one}
use mathlib.Core.Path.{◌≡◌, refl, sym, ap, ◌∙◌}
use mathlib.Core.Logic.{◌≢◌}
use mathlib.Core.Bool.{Bool, true, false, ◌&&◌, and-false}
use mathlib.Core.List.{List}
use lib.Dec.{eqb, ltb}
use lib.ListN.{get_or, set}
use Rattle.model.specs.declared.ConsolidationFn.{ConsolidationFn}
use Rattle.model.specs.declared.Flags.{Flags}
use Rattle.model.specs.declared.Row.{Row}
use Rattle.model.specs.Words.{function_no, outcome_no}
use Rattle.model.specs.Bytes.{put}
use Rattle.model.specs.Image.{row_at, row_place, mark_at, slab_of}
use Rattle.laws.specs.Tests.{yes_lt, no_eq}
use Rattle.model.specs.Ring.{slots, newest}
use Rattle.model.specs.Window.{Job}
use Rattle.model.specs.Lent.{Lent, row, ring, with_ring}
use Rattle.model.specs.Consolidate.{Filled, Run, or_zero, end_after, windows, fill, filled, with_mark, close_pair, refuse_run, stamps_below, pair_with, pair_by, pair}
use Rattle.model.specs.Consolidate as C
use Rattle.lookup.specs.Parts.{lent_of, with_flag}
use Rattle.window_write.specs.declared.Filling.{Filling}
use Rattle.pair_fill.specs.declared.Pair.{Pair}
use Rattle.pair_fill.specs.Parts.{pair_job, filled_in, Keeps}
use Rattle.pair.specs.declared.Progress.{Progress}
use Rattle.pair.specs.Parts.{run_of, PairAt, marked_if}
use Rattle.model.specs.declared.Refusal.{Refusal}

-- ---- the mark

end_before : (e : Option ℕ) → end_after e - 1 ≡ or_zero e
unfolding end_after or_zero
end_before None = refl
end_before (Some t) = omega arith

mark_is : (b : Bool) (s : List ℕ) (flags : List Bool) (i t : ℕ) → record { image = marked_if b s i t; flags = flags } ≡ with_mark b (record { image = s; flags = flags }) i t
unfolding marked_if with_mark
mark_is true s flags i t = refl
mark_is false s flags i t = refl

-- by the code's tests
module _ (s : List ℕ) (i t w : ℕ) (o : Result (Unit {0}) Refusal) where
  pub mark_refused : outcome_no o ≢ 0 → s ≡ marked_if (eqb (outcome_no o) 0 && ltb 0 w) s i t
  unfolding marked_if
  mark_refused h = rw (no_eq (outcome_no o) 0 h)

  pub mark_unmoved : w ≡ 0 → s ≡ marked_if (eqb (outcome_no o) 0 && ltb 0 w) s i t
  unfolding marked_if
  mark_unmoved h = rw (h, and-false (eqb (outcome_no o) 0))

  pub mark_moved : {v : List ℕ} → o ≡ Ok tt → w ≢ 0 → v ≡ put 8 s (32 + 64 * i + 48) t → v ≡ marked_if (eqb (outcome_no o) 0 && ltb 0 w) s i t
  unfolding marked_if mark_at row_place
  mark_moved e h k = rw (e, yes_lt 0 w (omega arith)) k

-- ---- the pair filled

module _ (s t : List ℕ) (u : Progress) (i : ℕ) (f : ConsolidationFn) (p : Pair) (h : PairAt s u.flags i f p) (k : Keeps s t p) (r : Filling) where
  abbrev l : Lent
  l = lent_of s u.flags

  abbrev whole : Filled
  whole = filled (C.job_of l i f) (ring l (suc i)) (row l i).series

  -- what the code filled is the definition's
  filled_is : {w : Bool} → w ≡ get_or u.flags.wrapped (suc i) false
      → filled_in t p r ≡ fill (pair_job s p) (filled_in s p (record { wrapped = w; writes = 0; outcome = (Ok tt) })) (windows (pair_job s p)) p.reading.series
      → filled_in t p r ≡ whole
  unfolding filled ring row
  filled_is e m = m ∙ rw (h.job_is, h.dest_is, h.series-is, e)

  ring-is : filled_in t p r ≡ whole → record { image = t; flags = (with_flag u.flags (suc i) r.wrapped).wrapped } ≡ with_ring l (suc i) whole.ring
  unfolding with_ring row with_flag
  ring-is e = rw (← e, ← h.start_is) (ap (λ (x : List ℕ). record { image = x; flags = set u.flags.wrapped (suc i) r.wrapped }) k.only)

  pair-filled : {w : Bool} (stamp : ℕ) → w ≡ get_or u.flags.wrapped (suc i) false
      → filled_in t p r ≡ fill (pair_job s p) (filled_in s p (record { wrapped = w; writes = 0; outcome = (Ok tt) })) (windows (pair_job s p)) p.reading.series
      → stamp ≡ p.reading.end - 1 → {v : List ℕ} → v ≡ marked_if (eqb (outcome_no r.outcome) 0 && ltb 0 r.writes) t i stamp
      → run_of v (record { flags = with_flag u.flags (suc i) r.wrapped; count = u.count + r.writes; outcome = r.outcome }) ≡ pair_with true f (run_of s u) i
  unfolding pair_with close_pair
  pair-filled stamp e m z {v} y =
      let g = filled_is e m in
      let x : stamp ≡ or_zero (newest (ring l i)) = z ∙ ap (λ (q : Job). q.end - 1) h.job_is ∙ unfold C.job_of in (end_before (newest (ring l i))) in
      rw (← g, ← x, y) (rw (mark_is (eqb (outcome_no r.outcome) 0 && ltb 0 r.writes) t (with_flag u.flags (suc i) r.wrapped).wrapped i stamp, ring-is g, ← g))

  -- in the code's terms
  pub pair_done : {w : Bool} (stamp : ℕ) → w ≡ get_or u.flags.wrapped (i + 1) false
      → filled_in t p r ≡ fill (pair_job s p) (filled_in s p (record { wrapped = w; writes = 0; outcome = (Ok tt) })) (windows (pair_job s p)) p.reading.series
      → stamp ≡ p.reading.end - 1 → {v : List ℕ} → v ≡ marked_if (eqb (outcome_no r.outcome) 0 && ltb 0 r.writes) t i stamp
      → {after : Flags} → after ≡ with_flag u.flags (i + 1) r.wrapped
      → run_of v (record { flags = after; count = u.count + r.writes; outcome = r.outcome }) ≡ pair_with true f (run_of s u) i
  pair_done stamp e m z {v} y {after} d =
      ap (λ (x : Flags). run_of v (record { flags = x; count = u.count + r.writes; outcome = r.outcome })) (rw (add-one i) at d)
      ∙ pair-filled stamp (rw (add-one i) at e) m z y

-- ---- the pair by its function and its stamps

pub function_is : (s : List ℕ) (i : ℕ) {r : Row} {g : Option ConsolidationFn} → r ≡ row_at s (i + 1) → g ≡ function_no r.function → g ≡ function_no (row_at s (suc i)).function
function_is s i e k = k ∙ rw (e, add-one i)

module _ (s : List ℕ) (u : Progress) (i : ℕ) where
  pub no_function : {g : Option ConsolidationFn} → g ≡ function_no (row_at s (suc i)).function → g ≡ None → record { lent = lent_of s u.flags; count = u.count; refusal = 16 } ≡ pair (run_of s u) i
  unfolding pair pair_by refuse_run row
  no_function e k = rw (sym e ∙ k)

  pub high_stamp : {g : Option ConsolidationFn} (f : ConsolidationFn) → g ≡ function_no (row_at s (suc i)).function → g ≡ Some f
      → stamps_below (slab_of s (row_at s i)) 0 (slots (slab_of s (row_at s i))) ≡ false
      → record { lent = lent_of s u.flags; count = u.count; refusal = 10 } ≡ pair (run_of s u) i
  unfolding pair pair_by pair_with refuse_run row ring
  high_stamp f e k h = rw (sym e ∙ k, h)

  pub good-pair : {g : Option ConsolidationFn} (f : ConsolidationFn) → g ≡ function_no (row_at s (suc i)).function → g ≡ Some f
      → stamps_below (slab_of s (row_at s i)) 0 (slots (slab_of s (row_at s i))) ≡ true → {v : Run} → v ≡ pair_with true f (run_of s u) i → v ≡ pair (run_of s u) i
  unfolding pair pair_by row ring
  good-pair f e k h m = m ∙ rw (sym e ∙ k, h)
