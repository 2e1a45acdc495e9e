-- The cells that a write leaves, by column and slot (specs/Write.antt). Assumes nothing.
use Rattle.std.specs.Prelude.{ℕ, ◌^◌, ◌≤◌, ◌<◌, ◌≡◌, refl, ◌≢◌, false, ◌&&◌, cond, List, [], ◌∷◌, length}
use Rattle.std.proofs.Common.{arith, ap, ◌∙◌}
use Rattle.std.proofs.Math.Decide.{ℕ_discrete}
use Rattle.std.proofs.Math.Dec.{eqb}
use Rattle.model.specs.Bytes.{put}
use Rattle.model.specs.Ring.{Ring, ColumnValue, slots, series, stamp_at, cell_at, cell, slot_of, put_cells, store, cells_for, write}
use Rattle.laws.specs.Tests.{yes_eq, no_eq}
use Rattle.laws.specs.Bytes.{length-put}
use Rattle.laws.specs.Slab.{FullLength, cell_at_high, stamp_at_high, inside-cell, inside-stamp, slots-put, series-put, cell-put-cell, cell-put-stamp, cell_same, cell-cursor}
use Rattle.ring_theory.specs.Write.{set_cell, set_cells, Fit, store_is, store_kept, store_elsewhere, Wrote}

-- another column's cells stay
pub set_other : (C : ℕ → ℕ → ℕ) (i c v c' : ℕ) → c' ≢ c → (j : ℕ) → set_cell C i c v c' j ≡ C c' j
unfolding set_cell
set_other C i c v c' ne j = rw (no_eq c' c ne)

sets_same : (C D : ℕ → ℕ → ℕ) (i : ℕ) (es : List ColumnValue) (c j : ℕ) → C c j ≡ D c j → set_cells C i es c j ≡ set_cells D i es c j
unfolding set_cells
sets_same C D i [] c j h = h
sets_same C D i (e ∷ es) c j h = sets_same (set_cell C i e.column e.value) (set_cell D i e.column e.value) i es c j one
  where
    one : set_cell C i e.column e.value c j ≡ set_cell D i e.column e.value c j
    one = unfold set_cell in (ap (cond (eqb c e.column && eqb j i) e.value) h)

one_cell : (s : List ℕ) (i d v c j : ℕ) → FullLength s → i < slots s → d < series s → v < 2 ^ 64 → j < slots s
    → cell (put 8 s (cell_at s d i) v) c j ≡ set_cell (cell s) i d v c j
unfolding set_cell
one_cell s i d v c j wh hi hd hv hj = go (ℕ_discrete c d) (ℕ_discrete j i)
  where
    other : (c ≡ d → j ≢ i) → (eqb c d && eqb j i ≡ false) → cell (put 8 s (cell_at s d i) v) c j ≡ cond (eqb c d && eqb j i) v (cell s c j)
    other ne e = rw e (cell-put-cell s d i v c j hj hi ne)

    go : Dec (c ≡ d) → Dec (j ≡ i) → cell (put 8 s (cell_at s d i) v) c j ≡ cond (eqb c d && eqb j i) v (cell s c j)
    go (yes p) (yes q) = rw (p, q, yes_eq d, yes_eq i) (cell_same s d i v (inside-cell s d i wh hi hd) hv)
    go (yes p) (no q) = other (λ _. q) (rw (p, yes_eq d, no_eq j i q))
    go (no p) q = other (λ e. absurd (p e)) (rw (no_eq c d p))

pub cells_put : (es : List ColumnValue) (s : List ℕ) (i : ℕ) → FullLength s → i < slots s → Fit (series s) es → (c j : ℕ) → j < slots s
    → cell (put_cells s i es) c j ≡ set_cells (cell s) i es c j
unfolding put_cells set_cells
cells_put [] s i wh hi f c j hj = refl
cells_put (e ∷ es) s i wh hi f c j hj =
    let d = e.column in
    let v = e.value in
    let u = put 8 s (cell_at s d i) v in
    let n₁ : slots u ≡ slots s = slots-put s (cell_at s d i) v (cell_at_high s d i) in
    let m₁ : series u ≡ series s = series-put s (cell_at s d i) v (cell_at_high s d i) in
    let w₁ : FullLength u = length-put 8 s (cell_at s d i) v ∙ wh ∙ rw (n₁, m₁) refl in
    cells_put es u i w₁ (rw n₁ hi) (rw m₁ f.2) c j (rw n₁ hj)
    ∙ sets_same (cell u) (set_cell (cell s) i d v) i es c j (one_cell s i d v c j wh hi f.0 f.1 hj)

pub store_wrote : (r : Ring) (es : List ColumnValue) (t : ℕ) → FullLength r.slab → slots r.slab < 2 ^ 32 → slot_of r.slab t < slots r.slab → t < 2 ^ 64
    → Fit (series r.slab) es → Wrote r.slab (slot_of r.slab t) t es (store r es t).slab
store_wrote r es t wh hn hi ht f =
    let s = r.slab in
    let i = slot_of s t in
    let o = stamp_at s i in
    let s₁ = put 8 s o t in
    let n₁ : slots s₁ ≡ slots s = slots-put s o t (stamp_at_high s i) in
    let m₁ : series s₁ ≡ series s = series-put s o t (stamp_at_high s i) in
    let w₁ : FullLength s₁ = length-put 8 s o t ∙ wh ∙ rw (n₁, m₁) refl in
    let s₂ = put_cells s₁ i es in
    let k = store_elsewhere r es t wh hi ht in
    let far : 64 ≤ length s = omega (arith, inside-stamp s i wh hi, stamp_at_high s i) in
    record {
      rest = store_kept r es t far (omega arith);
      stamp-is = k.stamp-is;
      stamp-other = k.stamp-other;
      cells = λ c j hj. rw (store_is r es t) (cell-cursor s₂ i c j ∙ cells_put es s₁ i w₁ (rw n₁ hi) (rw m₁ f) c j (rw n₁ hj)
          ∙ sets_same (cell s₁) (cell s) i es c j (cell-put-stamp s i t c j hi));
    }

pub wrote : (r : Ring) (es : List ColumnValue) (t : ℕ) → FullLength r.slab → slots r.slab < 2 ^ 32 → slot_of r.slab t < slots r.slab → t < 2 ^ 64
    → Fit (series r.slab) es → Wrote r.slab (slot_of r.slab t) t es (write r es t).slab
unfolding write cells_for
wrote r es t wh hn hi ht f = store_wrote r es t wh hn hi ht f
