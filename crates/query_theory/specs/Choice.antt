-- The tier that query_auto chooses: the first that covers the range in full; where none does, the last with both ends; where none has both, 0. So a tier that
-- covers is chosen if there is one, and no finer one covers (request 2026-14 rests on it). Assumes nothing.
use Prim.Native.Nat.{ℕ, zero, suc, ◌+◌, ◌≤◌, ◌<◌}
use Rattle.std.proofs.Common.{arith, sym, ◌∙◌}
use Rattle.std.proofs.Math.Decide.{dec_lt}
use Rattle.std.specs.Prelude.{◌≡◌, Bool, cond, length}
use Rattle.std.proofs.Math.Path.{refl}
use Rattle.std.proofs.Math.Bool.{true, false}
use Rattle.std.proofs.lemmas.Bool.{false≢true}
use Rattle.model.specs.Ring.{oldest, newest}
use Rattle.model.specs.Read.{full, both_ends}
use Rattle.model.specs.Lent.{Lent, ring, row_no, tiers}
use Rattle.model.specs.Query.{choose_from, choose}

module _ (l : Lent) (k start end : ℕ) where
  -- tier j covers the range in full; tier j has both ends
  abbrev pub covers : ℕ → Bool
  covers j = full (oldest (ring l (row_no l k j))) (newest (ring l (row_no l k j))) start end

  abbrev pub has_ends : ℕ → Bool
  has_ends j = both_ends (oldest (ring l (row_no l k j))) (newest (ring l (row_no l k j)))

  -- x is the last of the n tiers from tier j on that has both ends, or there is none and x is `best`
  pub data Last (j n best x : ℕ) : Type 0 where
    latest : j ≤ x → x < j + n → has_ends x ≡ true → ((y : ℕ) → x < y → y < j + n → has_ends y ≡ false) → Last j n best x
    nothing : x ≡ best → ((y : ℕ) → j ≤ y → y < j + n → has_ends y ≡ false) → Last j n best x

  -- x is the choice of the n tiers from tier j on
  pub data Chosen (j n best x : ℕ) : Type 0 where
    first : j ≤ x → x < j + n → covers x ≡ true → ((y : ℕ) → j ≤ y → y < x → covers y ≡ false) → Chosen j n best x
    last : ((y : ℕ) → j ≤ y → y < j + n → covers y ≡ false) → Last j n best x → Chosen j n best x

  -- a claim about tier j and about those from j + 1 on is one about those from j on
  from : (p : ℕ → Bool) (b : Bool) (j n : ℕ) → p j ≡ b → ((y : ℕ) → suc j ≤ y → y < n → p y ≡ b) → (y : ℕ) → j ≤ y → y < n → p y ≡ b
  from p b j n e f y g h = go (dec_lt j y)
    where
      go : Dec (j < y) → p y ≡ b
      go (yes q) = f y q h
      go (no q) = let same : y ≡ j = omega arith in rw same e

  chosen : (n j best : ℕ) → Chosen j n best (choose_from l k j n best start end)
  unfolding choose_from
  chosen zero j best = last (λ y g h. absurd (omega arith)) (nothing refl (λ y g h. absurd (omega arith)))
  chosen (suc n) j best = go (covers j) refl (has_ends j) refl (chosen n (suc j) j) (chosen n (suc j) best)
    where
      -- no tier was chosen so far
      later : (x : ℕ) (b : Bool) → has_ends j ≡ b → Last (suc j) n (cond b j best) x → Last j (suc n) best x
      later x b e (latest g h i f) = latest (omega arith) (omega arith) i (λ y p q. f y p (omega arith))
      later x true e (nothing g f) = latest (omega arith) (omega arith) (rw g e) (λ y p q. f y (omega arith) (omega arith))
      later x false e (nothing g f) = nothing g (from has_ends false j (j + suc n) e (λ y p q. f y p (omega arith)))

      next : (x : ℕ) (b : Bool) → covers j ≡ false → has_ends j ≡ b → Chosen (suc j) n (cond b j best) x → Chosen j (suc n) best x
      next x b c e (first g h i f) = first (omega arith) (omega arith) i (from covers false j x c f)
      next x b c e (last f g) = last (from covers false j (j + suc n) c (λ y p q. f y p (omega arith))) (later x b e g)

      go : (c : Bool) → covers j ≡ c → (b : Bool) → has_ends j ≡ b → Chosen (suc j) n j (choose_from l k (suc j) n j start end)
          → Chosen (suc j) n best (choose_from l k (suc j) n best start end)
          → Chosen j (suc n) best (cond c j (choose_from l k (suc j) n (cond b j best) start end))
      go true e b f p q = first (omega arith) (omega arith) e (λ y g h. absurd (omega arith))
      go false e true f p q = next (choose_from l k (suc j) n j start end) true e f p
      go false e false f p q = next (choose_from l k (suc j) n best start end) false e f q

  pub choice : Chosen 0 (length (tiers l k)) 0 (choose l k start end)
  unfolding choose
  choice = chosen (length (tiers l k)) 0 0

  -- it is one of the tiers
  pub choice_in : 0 < length (tiers l k) → choose l k start end < length (tiers l k)
  choice_in h = go choice
    where
      go : Chosen 0 (length (tiers l k)) 0 (choose l k start end) → choose l k start end < length (tiers l k)
      go (first g i c f) = omega arith
      go (last f (latest g i c d)) = omega arith
      go (last f (nothing g d)) = omega arith

  -- if some tier covers, the chosen one does, and it is no coarser
  pub some_covers : (j : ℕ) → j < length (tiers l k) → covers j ≡ true → (covers (choose l k start end) ≡ true) × (choose l k start end ≤ j)
  some_covers j h e = go choice
    where
      x : ℕ
      x = choose l k start end

      go : Chosen 0 (length (tiers l k)) 0 x → (covers x ≡ true) × (x ≤ j)
      go (first g i c f) = (c, below (dec_lt j x))
        where
          below : Dec (j < x) → x ≤ j
          below (yes p) = absurd (false≢true (sym (f j (omega arith) p) ∙ e))
          below (no p) = omega arith
      go (last f g) = absurd (false≢true (sym (f j (omega arith) (omega arith)) ∙ e))

  -- no finer tier covers
  pub none_finer : (y : ℕ) → y < choose l k start end → y < length (tiers l k) → covers y ≡ false
  none_finer y h i = go choice
    where
      go : Chosen 0 (length (tiers l k)) 0 (choose l k start end) → covers y ≡ false
      go (first g j c f) = f y (omega arith) h
      go (last f g) = f y (omega arith) (omega arith)
