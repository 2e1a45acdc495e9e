-- Whether one of k slots from slot i on has a stamp, both ways: where none is found every one of them has stamp 0; where one is, which. Assumes nothing.
use Rattle.std.specs.Prelude.{ℕ, zero, suc, ◌+◌, ◌≤◌, ◌<◌, ◌≡◌, ◌≢◌, true, false, List}
use Rattle.std.proofs.Common.{arith, sym, subst, true≢false}
use Rattle.std.proofs.Math.Decide.{ℕ_discrete}
use Rattle.model.specs.Ring.{stamp, any_stamp}
use Rattle.laws.specs.Tests.{no_eq}

pub any_none : (s : List ℕ) (i k : ℕ) → any_stamp s i k ≡ false → (j : ℕ) → i ≤ j → j < i + k → stamp s j ≡ 0
unfolding any_stamp
any_none s i zero h j l u = absurd (omega arith)
any_none s i (suc k) h j l u = go (ℕ_discrete (stamp s i) 0) (ℕ_discrete i j) (any_none s (suc i) k)
  where
    go : Dec (stamp s i ≡ 0) → Dec (i ≡ j) → (any_stamp s (suc i) k ≡ false → (j : ℕ) → suc i ≤ j → j < suc i + k → stamp s j ≡ 0) → stamp s j ≡ 0
    go (yes e) (yes p) later = subst (λ (x : ℕ). stamp s x ≡ 0) p e
    go (yes e) (no p) later = later (rw e at h) j (omega arith) (omega arith)
    go (no e) p later = absurd (true≢false (rw (no_eq (stamp s i) 0 e) at h))

pub any_some : (s : List ℕ) (i k : ℕ) → any_stamp s i k ≡ true → (j : ℕ) × (i ≤ j) × (j < i + k) × (stamp s j ≢ 0)
unfolding any_stamp
any_some s i zero h = absurd (true≢false (sym h))
any_some s i (suc k) h = go (ℕ_discrete (stamp s i) 0) (any_some s (suc i) k)
  where
    go : Dec (stamp s i ≡ 0) → (any_stamp s (suc i) k ≡ true → (j : ℕ) × (suc i ≤ j) × (j < suc i + k) × (stamp s j ≢ 0)) → (j : ℕ) × (i ≤ j) × (j < i + suc k) × (stamp s j ≢ 0)
    go (no e) later = (i, omega arith, omega arith, e)
    go (yes e) later = let r = later (rw e at h) in (r.0, omega (arith, r.1), omega (arith, r.2), r.3)
