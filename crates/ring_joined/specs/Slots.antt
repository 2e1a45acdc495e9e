-- Slots met in pieces, one, four or eight at a time, the stamps of a piece joined by `|`: whether one of them has a nonzero stamp. Assumes nothing.
use Prim.Native.Nat.{ℕ, zero, suc, ◌+◌, ◌-◌, ◌≤◌}
use Rattle.std.proofs.Math.Nat.{add-zero}
use Rattle.std.proofs.Common.{zero-add, suc-add, sym, ap, ◌∙◌}
use Rattle.std.proofs.Math.Numerals.{add-one}
use native.Mathlib.Omega.{arith}
use Rattle.std.proofs.Math.Decide.{ℕ_discrete}
use Rattle.std.specs.Prelude.{◌≡◌, Bool, true, false, not, ◌||◌, List, eqb}
use Rattle.std.proofs.Math.Path.{refl}
use Rattle.std.proofs.Math.Bool.{or-false, or_assoc}
use Rattle.std.specs.Int.Bits.{bit_or, or_add_and}
use Rattle.std.proofs.lemmas.Nat.{and_le_r}
use Rattle.laws.specs.Tests.{no_eq}
use Rattle.model.specs.Ring.{stamp, any_stamp}

-- a number joined from two is not 0 where one of them is not
pub or_some : (a b : ℕ) → not (eqb (bit_or a b) 0) ≡ not (eqb a 0) || not (eqb b 0)
or_some a b = go (ℕ_discrete a 0)
  where
    go : Dec (a ≡ 0) → not (eqb (bit_or a b) 0) ≡ not (eqb a 0) || not (eqb b 0)
    go (yes e) = rw e
    go (no f) = rw (no_eq (bit_or a b) 0 (λ z. f (omega (arith, or_add_and a b, and_le_r a b, z))), no_eq a 0 f)

module _ (s : List ℕ) where
  -- ---- pieces

  pub any_split : (i j k : ℕ) → any_stamp s i (j + k) ≡ any_stamp s i j || any_stamp s (i + j) k
  unfolding any_stamp
  any_split i zero k = rw (zero-add k, add-zero i)
  any_split i (suc j) k =
      let e : i + suc j ≡ suc i + j = omega arith in
      rw (suc-add j k, e, any_split (suc i) j k) (sym (or_assoc (not (eqb (stamp s i) 0)) (any_stamp s (suc i) j) (any_stamp s (suc i + j) k)))

  pub one_slot_lem : (i : ℕ) {t : ℕ} → t ≡ stamp s i → not (eqb t 0) ≡ any_stamp s i 1
  unfolding any_stamp
  one_slot_lem i e = rw e (sym (or-false (not (eqb (stamp s i) 0))))

  grouped : (a b c d : Bool) → a || b || c || d ≡ a || (b || (c || (d || false)))
  grouped true b c d = refl
  grouped false true c d = refl
  grouped false false true d = refl
  grouped false false false d = sym (or-false d)

  pub four-slots : (i : ℕ) {a b c d : ℕ} → a ≡ stamp s i → b ≡ stamp s (i + 1) → c ≡ stamp s (i + 2) → d ≡ stamp s (i + 3) → not (eqb (bit_or (bit_or (bit_or a b) c) d) 0) ≡ any_stamp s i 4
  unfolding any_stamp
  four-slots i {a} {b} {c} {d} ea eb ec ed =
      let two : i + 2 ≡ suc (suc i) = omega arith in
      let three : i + 3 ≡ suc (suc (suc i)) = omega arith in
      rw (or_some (bit_or (bit_or a b) c) d, or_some (bit_or a b) c, or_some a b, ea, eb, ec, ed, add-one i, two, three)
      (grouped (not (eqb (stamp s i) 0)) (not (eqb (stamp s (suc i)) 0)) (not (eqb (stamp s (suc (suc i))) 0)) (not (eqb (stamp s (suc (suc (suc i)))) 0)))

  pub eight_slots : (i low high : ℕ) → not (eqb low 0) ≡ any_stamp s i 4 → not (eqb high 0) ≡ any_stamp s (i + 4) 4 → not (eqb (bit_or low high) 0) ≡ any_stamp s i 8
  eight_slots i low high el eh = rw (or_some low high, el, eh) (sym (any_split i 4 4))

  -- ---- k slots from slot i on, of which a piece of j was met; x is what was read of it

  module _ (i k j : ℕ) (h : j ≤ k) (x : ℕ) (met : not (eqb x 0) ≡ any_stamp s i j) where
    parted : any_stamp s i k ≡ any_stamp s i j || any_stamp s (i + j) (k - j)
    parted = let e : k ≡ j + (k - j) = omega arith in ap (any_stamp s i) e ∙ any_split i j (k - j)

    pub piece_some : (x ≡ 0 → ⊥) → true ≡ any_stamp s i k
    piece_some f = sym (rw (parted, ← met, no_eq x 0 f))

    pub piece_none : x ≡ 0 → any_stamp s (i + j) (k - j) ≡ any_stamp s i k
    piece_none e = sym (rw (parted, ← met, e))

  pub piece_last : (i : ℕ) → false ≡ any_stamp s i 0
  unfolding any_stamp
  piece_last i = refl
