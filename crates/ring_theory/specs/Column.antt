-- What n slots keep of numbers written one after the other, number q in slot q % n: the newest n numbers have their value, and a slot that no number
-- went to is as it was at first. A ring's stamps are such slots, and so is each column of cells; a column that shares its numbers with others, or lags
-- behind them, needs no case of its own. The newest number may be written again. Assumes nothing.
use Rattle.std.specs.Prelude.{ℕ, suc, ◌+◌, ◌%◌, ◌≤◌, ◌<◌, ◌≡◌, ◌≢◌}
use Rattle.std.proofs.Common.{mod-lt, arith, sym, ◌∙◌}
use Rattle.std.proofs.Math.Decide.{ℕ_discrete}
use Rattle.model.specs.Layout.{fresh_value}
use Rattle.ring_theory.specs.Numbers.{mod_ne}

-- C by slot: the e numbers from a on were written, number q last with X q; a slot without a number is v
pub record Keeps (v : ℕ) (C : ℕ → ℕ) (n a e : ℕ) (X : ℕ → ℕ) : Type 0 where
  pub has : (q : ℕ) → a ≤ q → q < a + e → a + e ≤ q + n → C (q % n) ≡ X q
  pub none : (i : ℕ) → i < n → ((q : ℕ) → a ≤ q → q < a + e → q % n ≢ i) → C i ≡ v

-- the cells of a column
abbrev pub Col : (ℕ → ℕ) → ℕ → ℕ → ℕ → (ℕ → ℕ) → Type 0
Col C n a e X = Keeps fresh_value C n a e X

-- ---- for any slots

-- before the first number: any first number will do
pub keeps_start : (v : ℕ) (C : ℕ → ℕ) (n a : ℕ) (X : ℕ → ℕ) → ((i : ℕ) → i < n → C i ≡ v) → Keeps v C n a 0 X
keeps_start v C n a X h = record { has = λ q x y g. absurd (omega arith); none = λ i hi f. h i hi }

-- the values of the numbers written are what counts
pub keeps_agree : {v : ℕ} {C : ℕ → ℕ} {n a e : ℕ} {X : ℕ → ℕ} (Y : ℕ → ℕ) → ((q : ℕ) → a ≤ q → q < a + e → Y q ≡ X q) → Keeps v C n a e X → Keeps v C n a e Y
keeps_agree Y h k = record { has = λ q x y g. k.has q x y g ∙ sym (h q x y); none = k.none }

-- number a + k is written with x: the next one (e is k), or the newest again (e is k + 1)
pub keeps_put : (v : ℕ) (C D : ℕ → ℕ) (n a e k x : ℕ) (X Y : ℕ → ℕ) → 0 < n → k ≤ e → e ≤ suc k → D ((a + k) % n) ≡ x
    → ((i : ℕ) → i < n → i ≢ (a + k) % n → D i ≡ C i) → Y (a + k) ≡ x → ((q : ℕ) → a ≤ q → q < a + k → Y q ≡ X q) → Keeps v C n a e X → Keeps v D n a (suc k) Y
keeps_put v C D n a e k x X Y z from to here other is_x below h = record { has = λ q l u g. new q l u g (ℕ_discrete q (a + k)); none = λ i hi f. old i hi f }
  where
    new : (q : ℕ) → a ≤ q → q < a + suc k → a + suc k ≤ q + n → Dec (q ≡ a + k) → D (q % n) ≡ Y q
    new q l u g (yes p) = rw p (here ∙ sym is_x)
    new q l u g (no p) =
        other (q % n) (mod-lt q z) (mod_ne q (a + k) n (omega arith) (omega arith)) ∙ h.has q l (omega arith) (omega arith) ∙ sym (below q l (omega arith))

    old : (i : ℕ) → i < n → ((q : ℕ) → a ≤ q → q < a + suc k → q % n ≢ i) → D i ≡ v
    old i hi f = other i hi (λ p. f (a + k) (omega arith) (omega arith) (sym p)) ∙ h.none i hi (λ q l u. f q l (omega arith))

-- a number before the first, whose slot no later one took
pub keeps_before : {v : ℕ} {C : ℕ → ℕ} {n a e : ℕ} {X : ℕ → ℕ} → 0 < n → Keeps v C n a e X → (q : ℕ) → q < a → a + e ≤ q + n → C (q % n) ≡ v
keeps_before {v} {C} {n} {a} {e} {X} z h q l g = h.none (q % n) (mod-lt q z) (λ p x y f. mod_ne q p n (omega arith) (omega arith) (sym f))

-- ---- for a column

pub col_same : (C D : ℕ → ℕ) (n a e : ℕ) (X : ℕ → ℕ) → 0 < n → ((i : ℕ) → i < n → D i ≡ C i) → Col C n a e X → Col D n a e X
col_same C D n a e X z h k = record {
  has = λ q x y g. h (q % n) (mod-lt q z) ∙ k.has q x y g;
  none = λ i hi f. h i hi ∙ k.none i hi f;
}

pub col_start : (C : ℕ → ℕ) (n a : ℕ) (X : ℕ → ℕ) → ((i : ℕ) → i < n → C i ≡ fresh_value) → Col C n a 0 X
col_start C n a X h = keeps_start fresh_value C n a X h
