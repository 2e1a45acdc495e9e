-- A number written to a column of cells (specs/Column.antt). Assumes nothing.
use Rattle.std.specs.Prelude.{ℕ, suc, ◌+◌, ◌%◌, ◌≤◌, ◌<◌, ◌≡◌, refl, ◌&&◌, cond, eqb}
use Rattle.std.proofs.Common.{arith}
use Rattle.model.specs.Layout.{fresh_value}
use Rattle.laws.specs.Tests.{yes_eq, no_eq}
use Rattle.ring_theory.specs.Write.{set_cell}
use Rattle.ring_theory.specs.Column.{Col, keeps_put}

-- column c takes its next number, or its newest one again
pub col_put : (C : ℕ → ℕ → ℕ) (n c v a e k : ℕ) (X Y : ℕ → ℕ) → 0 < n → k ≤ e → e ≤ suc k → Y (a + k) ≡ v → ((q : ℕ) → a ≤ q → q < a + k → Y q ≡ X q)
    → Col (C c) n a e X → Col (set_cell C ((a + k) % n) c v c) n a (suc k) Y
unfolding set_cell
col_put C n c v a e k X Y z from to hv below h =
    keeps_put fresh_value (C c) (λ (i : ℕ). cond (eqb c c && eqb i ((a + k) % n)) v (C c i)) n a e k v X Y z from to
    (rw (yes_eq c, yes_eq ((a + k) % n))) (λ i hi ne. rw (yes_eq c, no_eq i ((a + k) % n) ne)) hv below h

-- the next one, the values known beforehand
pub col_next : (C : ℕ → ℕ → ℕ) (n c v a e : ℕ) (X : ℕ → ℕ) → 0 < n → X (a + e) ≡ v → Col (C c) n a e X → Col (set_cell C ((a + e) % n) c v c) n a (suc e) X
col_next C n c v a e X z hv h = col_put C n c v a e e X X z (omega arith) (omega arith) hv (λ q l u. refl) h
