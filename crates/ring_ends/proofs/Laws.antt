-- The search for the oldest stamp, a slot or a piece of empty slots at a time, and an end by its stamp. Assumes nothing.
use Rattle.std.specs.Prelude.{Some}
use Prim.Native.Nat.{ℕ, zero, suc, ◌+◌, ◌-◌, ◌%◌, ◌≤◌, ◌<◌}
use native.Mathlib.Nat.{mod-eq_of_lt}
use native.Mathlib.Omega.{arith}
use mathlib.Core.Path.{◌≡◌, refl, sym, ◌∙◌}
use mathlib.Core.Logic.{◌≢◌}
use mathlib.Core.Bool.{false, not}
use mathlib.Core.List.{List}
use lib.Dec.{eqb}
use borrow.Author.Tests.{not-false}
use Rattle.laws.specs.Tests.{eq_is, or_none}
use Rattle.model.specs.Ring.{stamp, walk, or_stamp, first_stamp, any_stamp, end_of}

pub end_at : (t : ℕ) → t ≢ 0 → Some t ≡ end_of t
unfolding end_of
end_at zero h = absurd (h refl)
end_at (suc t) h = refl

module _ (s : List ℕ) (n i k : ℕ) (some : 0 < k) where
  turn : (j : ℕ) → k ≡ suc j → first_stamp s (walk n i k) ≡ or_stamp (stamp s i) (first_stamp s (walk n (suc i % n) j))
  unfolding first_stamp walk
  turn j e = rw e

  pub stamp_there : stamp s i ≢ 0 → stamp s i ≡ first_stamp s (walk n i k)
  unfolding or_stamp
  stamp_there h = sym (turn (k - 1) (omega arith) ∙ go (stamp s i) h)
    where
      go : (t : ℕ) → t ≢ 0 → or_stamp t (first_stamp s (walk n (suc i % n) (k - 1))) ≡ t
      go zero h = absurd (h refl)
      go (suc t) h = refl

  pub stamp-later : stamp s i ≡ 0 → first_stamp s (walk n i k) ≡ first_stamp s (walk n (suc i % n) (k - 1))
  unfolding or_stamp
  stamp-later h = turn (k - 1) (omega arith) ∙ rw h

-- empty slots that stand side by side, passed over: at least one
pub stamps_later : (s : List ℕ) (n i k j : ℕ) → any_stamp s i (suc j) ≡ false → i + suc j ≤ n → suc j ≤ k
    → first_stamp s (walk n i k) ≡ first_stamp s (walk n ((i + suc j) % n) (k - suc j))
unfolding any_stamp
stamps_later s n i k zero e fits more =
    let parts = or_none (not (eqb (stamp s i) 0)) false e in
    let one : i + 1 ≡ suc i = omega arith in
    rw one (stamp-later s n i k (omega arith) (eq_is (stamp s i) 0 (not-false (eqb (stamp s i) 0) parts.0)))
stamps_later s n i k (suc j) e fits more =
    let parts = or_none (not (eqb (stamp s i) 0)) (any_stamp s (suc i) (suc j)) e in
    let low : suc i < n = omega arith in
    let here : suc i % n ≡ suc i = mod-eq_of_lt low in
    let on : suc i + suc j ≡ i + suc (suc j) = omega arith in
    let left : k - 1 - suc j ≡ k - suc (suc j) = omega arith in
    stamp-later s n i k (omega arith) (eq_is (stamp s i) 0 (not-false (eqb (stamp s i) 0) parts.0))
    ∙ rw (here, ← on, ← left) (stamps_later s n (suc i) (k - 1) j parts.1 (omega arith) (omega arith))

pub stamp_none : (s : List ℕ) (n i k : ℕ) → k ≡ 0 → 0 ≡ first_stamp s (walk n i k)
unfolding first_stamp walk
stamp_none s n i k h = rw h

-- both loops' invariant: from slot i on, with k left, the first stamp is that of the walk from slot i₀ on, with k₀ left
pub record Same (s : List ℕ) (n i₀ k₀ i k : ℕ) : Type 0 where
  pub in_slots : i < n
  pub first : first_stamp s (walk n i k) ≡ first_stamp s (walk n i₀ k₀)
