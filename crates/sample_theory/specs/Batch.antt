-- Samples of one stamp, as a record or a batch brings them: all are at the tick reached so far, or all at the next. So one write
-- to the ring takes them. Assumes nothing.
use Rattle.std.specs.Prelude.{ℕ, suc, ◌+◌, ◌*◌, ◌<◌, ◌≡◌, refl, ◌⊎◌, List, [], ◌∷◌, ◌++◌}
use Rattle.std.proofs.Common.{arith, sym, ap, ◌∙◌, subst, inl, inr, append_assoc, append-nil}
use Rattle.demand.specs.Demand.{Sample, count}
use Rattle.sample_theory.specs.Lists.{of_column}
use Rattle.sample_theory.specs.Ticks.{Steady, Regular, Reached, next_tick, regular_next, new_or-same, reached_new, reached_same}

-- all have the stamp t
abbrev pub AllAt : ℕ → List Sample → Type 0
AllAt t [] = Unit {0}
AllAt t (x ∷ xs) = (x.stamp ≡ t) × AllAt t xs

-- zs: the samples that come later
module _ (d a n t : ℕ) (zs : List Sample) where
  -- further samples at the tick reached
  more : (ts ys : List Sample) (e : ℕ) → t + d ≡ (a + e) * d → Steady d a n (ys ++ (ts ++ zs)) → AllAt t ts → ((c : ℕ) → Regular d a ys c) → Reached d a n ys e
      → Reached d a n (ys ++ ts) e × ((c : ℕ) → Regular d a (ys ++ ts) c)
  more [] ys e te st at reg re = rw (append-nil ys) (re, reg)
  more (y ∷ ts) ys e te st at reg re =
      let s : Steady d a n (ys ++ y ∷ (ts ++ zs)) = st in
      subst (λ (w : List Sample). Reached d a n w e × ((c : ℕ) → Regular d a w c)) (append_assoc ys (y ∷ []) ts)
      (more ts (ys ++ y ∷ []) e te (subst (Steady d a n) (sym (append_assoc ys (y ∷ []) (ts ++ zs))) st) at.1 (regular_next d a n ys y (ts ++ zs) s reg)
      (go s (next_tick d a n ys y (ts ++ zs) s reg) (new_or-same d a n ys y (ts ++ zs) s reg e re)))
    where
      go : Steady d a n (ys ++ y ∷ (ts ++ zs)) → y.stamp ≡ (a + count (of_column y.column) ys) * d
          → (count (of_column y.column) ys ≡ e) ⊎ (suc (count (of_column y.column) ys) ≡ e)
          → Reached d a n (ys ++ y ∷ []) e
      go s tick (inl p) = absurd (omega (arith, sym at.0 ∙ tick ∙ ap (λ (k : ℕ). (a + k) * d) p, s.long))
      go s tick (inr p) = reached_same d a n ys y (ts ++ zs) s reg e re p

  -- the tick reached after the samples ts, from e on
  pub record Ticked (ys ts : List Sample) (e : ℕ) : Type 0 where
    pub reach : ℕ
    pub either : (reach ≡ e) ⊎ (reach ≡ suc e)
    pub pos : 0 < reach
    pub top : t + d ≡ (a + reach) * d
    pub reached : Reached d a n (ys ++ ts) reach
    pub regular : (c : ℕ) → Regular d a (ys ++ ts) c

  pub ticked : (y : Sample) (ts ys : List Sample) (e : ℕ) → Steady d a n (ys ++ (y ∷ ts ++ zs)) → AllAt t (y ∷ ts) → ((c : ℕ) → Regular d a ys c)
      → Reached d a n ys e → Ticked ys (y ∷ ts) e
  ticked y ts ys e st at reg re =
      go (next_tick d a n ys y (ts ++ zs) st reg) (subst (Steady d a n) (sym (append_assoc ys (y ∷ []) (ts ++ zs))) st)
      (new_or-same d a n ys y (ts ++ zs) st reg e re)
    where
      -- the first is at tick f - 1; so are the others
      rest : (f : ℕ) → (f ≡ e) ⊎ (f ≡ suc e) → 0 < f → t + d ≡ (a + f) * d → Reached d a n (ys ++ y ∷ []) f
          → Steady d a n ((ys ++ y ∷ []) ++ (ts ++ zs)) → Ticked ys (y ∷ ts) e
      rest f one pos top r s =
          let m = more ts (ys ++ y ∷ []) f top s at.1 (regular_next d a n ys y (ts ++ zs) st reg) r in
          let w = append_assoc ys (y ∷ []) ts in
          record {
            reach = f;
            either = one;
            pos = pos;
            top = top;
            reached = subst (λ (v : List Sample). Reached d a n v f) w m.0;
            regular = λ c. subst (λ (v : List Sample). Regular d a v c) w (m.1 c);
          }

      go : y.stamp ≡ (a + count (of_column y.column) ys) * d → Steady d a n ((ys ++ y ∷ []) ++ (ts ++ zs))
          → (count (of_column y.column) ys ≡ e) ⊎ (suc (count (of_column y.column) ys) ≡ e) → Ticked ys (y ∷ ts) e
      go tick s (inl p) =
          rest (suc e) (inr refl) (omega arith) (omega (arith, sym at.0 ∙ tick ∙ ap (λ (k : ℕ). (a + k) * d) p))
          (reached_new d a n ys y (ts ++ zs) st reg e re p) s
      go tick s (inr p) =
          let f : t + d ≡ (a + suc (count (of_column y.column) ys)) * d = omega (arith, sym at.0 ∙ tick) in
          rest e (inl refl) (omega (arith, p)) (f ∙ ap (λ (k : ℕ). (a + k) * d) p) (reached_same d a n ys y (ts ++ zs) st reg e re p) s
