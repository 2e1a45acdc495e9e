-- The windows of a source ascend, none twice, and the search loses none: the window of every stamp in the range is among `windows`, whatever the order of the
-- stamps. So as many turns as there are slots never cut the search short. Assumes nothing.
use Prim.Native.Nat.{ℕ, zero, suc, ◌+◌, ◌≤◌, ◌<◌}
use native.Mathlib.Omega.{arith}
use Rattle.std.proofs.Math.Decide.{dec_lt}
use Rattle.std.proofs.Math.Path.{◌≡◌, refl}
use Rattle.std.proofs.Common.{sym, ◌∙◌, subst}
use Rattle.std.specs.Prelude.{◌⊎◌, Bool, ◌&&◌, Option, Some, None}
use Rattle.std.proofs.Math.Logic.{inl, inr}
use Rattle.std.proofs.Math.Bool.{true, false, cond, and-false}
use Rattle.std.proofs.lemmas.Bool.{false≢true}
use mathlib.Core.List.{List, [], ◌∷◌}
use Rattle.std.proofs.Math.ListN.{length}
use Rattle.std.proofs.Math.Dec.{leb, ltb}
use Rattle.model.specs.Ring.{stamp, slots, order}
use Rattle.model.specs.Window.{Job, window_of}
use Rattle.model.specs.Consolidate.{lower, lower_if, is_next, least_from, next_window, windows_from, windows}
use Rattle.laws.specs.Tests.{yes_le, yes_lt, no_le, le_is, lt-is, and_left, and_right}
use Rattle.window_theory.specs.Found.{found}

-- x is one of these
abbrev pub Among : ℕ → List ℕ → Type 0
Among x [] = ⊥
Among x (y ∷ ys) = (x ≡ y) ⊎ Among x ys

-- from b on, each above the one before it
abbrev pub Ascends : ℕ → List ℕ → Type 0
Ascends b [] = Unit {0}
Ascends b (w ∷ ws) = (b ≤ w) × Ascends (suc w) ws

module _ (q : Job) where
  abbrev stamp_of : ℕ → ℕ
  stamp_of i = stamp q.source.slab i

  abbrev window_at : ℕ → ℕ
  window_at i = window_of q.long (stamp_of i)

  -- ---- a found window is not above that of any slot from the bound on

  abbrev Upto : Option ℕ → ℕ → Type 0
  Upto None x = ⊥
  Upto (Some w) x = w ≤ x

  lower-upto : (e : Option ℕ) (v : ℕ) → Upto (lower e v) v
  unfolding lower
  lower-upto None v = omega arith
  lower-upto (Some w) v = go (ltb v w) refl
    where
      go : (t : Bool) → ltb v w ≡ t → cond t v w ≤ v
      go true e = omega arith
      go false e = low (dec_lt v w)
        where
          low : Dec (v < w) → w ≤ v
          low (yes h) = absurd (false≢true (sym e ∙ yes_lt v w h))
          low (no h) = omega arith

  lower_keeps : (b : Bool) (e : Option ℕ) (v x : ℕ) → Upto e x → Upto (lower_if b e v) x
  unfolding lower_if lower
  lower_keeps false e v x h = h
  lower_keeps true None v x h = absurd h
  lower_keeps true (Some w) v x h = go (ltb v w) refl
    where
      go : (t : Bool) → ltb v w ≡ t → cond t v w ≤ x
      go true e = omega (arith, lt-is v w e)
      go false e = h

  least_keeps : (b x : ℕ) (is : List ℕ) (e : Option ℕ) → Upto e x → Upto (least_from q b e is) x
  unfolding least_from
  least_keeps b x [] e h = h
  least_keeps b x (i ∷ is) e h = least_keeps b x is (lower_if (is_next q b (stamp_of i)) e (window_at i)) (lower_keeps (is_next q b (stamp_of i)) e (window_at i) x h)

  least_upto : (b i : ℕ) → is_next q b (stamp_of i) ≡ true → (is : List ℕ) (e : Option ℕ) → Among i is → Upto (least_from q b e is) (window_at i)
  unfolding least_from
  least_upto b i h [] e a = absurd a
  least_upto b i h (j ∷ is) e (inl p) =
      least_keeps b (window_at i) is (lower_if (is_next q b (stamp_of j)) e (window_at j)) (rw (← p, h) (unfold lower_if in lower-upto e (window_at i)))
  least_upto b i h (j ∷ is) e (inr a) = least_upto b i h is (lower_if (is_next q b (stamp_of j)) e (window_at j)) a

  -- ---- how many of these slots are from the bound on: fewer, once the least of them is passed

  unfoldable pub one : Bool → ℕ
  one true = 1
  one false = 0

  unfoldable pub many : ℕ → List ℕ → ℕ
  many b [] = 0
  many b (i ∷ is) = one (is_next q b (stamp_of i)) + many b is

  pub many-length : (b : ℕ) (is : List ℕ) → many b is ≤ length is
  unfolding many one
  many-length b [] = omega arith
  many-length b (i ∷ is) = go (is_next q b (stamp_of i)) (many-length b is)
    where
      go : (t : Bool) → many b is ≤ length is → one t + many b is ≤ suc (length is)
      go true h = omega arith
      go false h = omega arith

  many_some : (b i : ℕ) → is_next q b (stamp_of i) ≡ true → (is : List ℕ) → Among i is → 0 < many b is
  unfolding many one
  many_some b i h [] a = absurd a
  many_some b i h (j ∷ is) (inl p) = rw (← p, h) (omega arith)
  many_some b i h (j ∷ is) (inr a) = omega (arith, many_some b i h is a)

  next-is : (b t : ℕ) → is_next q b t ≡ true → ((leb q.start t && ltb t q.end) ≡ true) × (b ≤ window_of q.long t)
  unfolding is_next
  next-is b t h =
      let a = leb q.start t && ltb t q.end in
      (and_left a (leb b (window_of q.long t)) h, le_is b (window_of q.long t) (and_right a (leb b (window_of q.long t)) h))

  next_yes : (b t : ℕ) → (leb q.start t && ltb t q.end) ≡ true → b ≤ window_of q.long t → is_next q b t ≡ true
  unfolding is_next
  next_yes b t h k = rw (h, yes_le b (window_of q.long t) k)

  pub next_no_lem : (b t : ℕ) → window_of q.long t < b → is_next q b t ≡ false
  unfolding is_next
  next_no_lem b t h = rw (no_le b (window_of q.long t) h) (and-false (leb q.start t && ltb t q.end))

  -- a higher bound
  one_less : (b c : ℕ) → b ≤ c → (t : ℕ) → one (is_next q c t) ≤ one (is_next q b t)
  unfolding one
  one_less b c h t = go (is_next q c t) refl
    where
      go : (a : Bool) → is_next q c t ≡ a → one a ≤ one (is_next q b t)
      go false e = omega arith
      go true e = let k = next-is c t e in rw (next_yes b t k.0 (omega (arith, k.1))) (omega arith)

  many_less : (b c : ℕ) → b ≤ c → (is : List ℕ) → many c is ≤ many b is
  unfolding many
  many_less b c h [] = omega arith
  many_less b c h (i ∷ is) = omega (arith, one_less b c h (stamp_of i), many_less b c h is)

  -- the least was there before, or one of these slots has it
  passed : (b w : ℕ) → b ≤ w → (is : List ℕ) (e : Option ℕ) → least_from q b e is ≡ Some w → (e ≡ Some w) ⊎ (many (suc w) is < many b is)
  unfolding least_from many
  passed b w h [] e f = inl f
  passed b w h (i ∷ is) e f = go (is_next q b (stamp_of i)) refl (passed b w h is (lower_if (is_next q b (stamp_of i)) e (window_at i)) f)
    where
      rest : many (suc w) is < many b is → (e ≡ Some w) ⊎ (one (is_next q (suc w) (stamp_of i)) + many (suc w) is < one (is_next q b (stamp_of i)) + many b is)
      rest k = inr (omega (arith, one_less b (suc w) (omega arith) (stamp_of i)))

      here : (d : Option ℕ) → d ≡ e → lower d (window_at i) ≡ Some w → is_next q b (stamp_of i) ≡ true
          → (e ≡ Some w) ⊎ (one (is_next q (suc w) (stamp_of i)) + many (suc w) is < one (is_next q b (stamp_of i)) + many b is)
      here d p k n = pick d p k
        where
          attained : window_at i ≡ w → (e ≡ Some w) ⊎ (one (is_next q (suc w) (stamp_of i)) + many (suc w) is < one (is_next q b (stamp_of i)) + many b is)
          attained g = inr (rw (n, next_no_lem (suc w) (stamp_of i) (omega arith)) (unfold one in omega (arith, many_less b (suc w) (omega arith) is)))

          pick : (d : Option ℕ) → d ≡ e → lower d (window_at i) ≡ Some w
              → (e ≡ Some w) ⊎ (one (is_next q (suc w) (stamp_of i)) + many (suc w) is < one (is_next q b (stamp_of i)) + many b is)
          pick None p k = attained (unfold lower in cc)
          pick (Some v) p k = by (ltb (window_at i) v) (unfold lower in k)
            where
              by : (t : Bool) → Some (cond t (window_at i) v) ≡ Some w
                  → (e ≡ Some w) ⊎ (one (is_next q (suc w) (stamp_of i)) + many (suc w) is < one (is_next q b (stamp_of i)) + many b is)
              by true k = attained (cc)
              by false k = inl (sym p ∙ k)

      go : (a : Bool) → is_next q b (stamp_of i) ≡ a → (lower_if a e (window_at i) ≡ Some w) ⊎ (many (suc w) is < many b is)
          → (e ≡ Some w) ⊎ (one (is_next q (suc w) (stamp_of i)) + many (suc w) is < one (is_next q b (stamp_of i)) + many b is)
      go a n (inr k) = rest k
      go false n (inl k) = inl (unfold lower_if in k)
      go true n (inl k) = here e refl (unfold lower_if in k) n

  -- ---- every window is found, with one turn for each slot from the bound on

  module _ (z : 0 < q.long) where
    pub fewer : (b w : ℕ) → next_window q b ≡ Some w → many (suc w) (order q.source) < many b (order q.source)
    fewer b w f = of (passed b w (found q z b f).0 (order q.source) None (unfold next_window in f))
      where
        of : (None ≡ Some w) ⊎ (many (suc w) (order q.source) < many b (order q.source)) → many (suc w) (order q.source) < many b (order q.source)
        of (inl e) = let x : ◌≡◌ {A = ℕ} 0 1 = cc in absurd (omega arith)
        of (inr k) = k

    all_found : (k b i : ℕ) → many b (order q.source) ≤ k → Among i (order q.source) → is_next q b (stamp_of i) ≡ true
        → Among (window_at i) (windows_from q k (next_window q b))
    all_found zero b i l a h = absurd (omega (arith, many_some b i h (order q.source) a))
    all_found (suc k) b i l a h = go (next_window q b) refl (λ w g n. all_found k (suc w) i g a n)
      where
        up : Upto (next_window q b) (window_at i)
        up = unfold next_window in least_upto b i h (order q.source) None a

        go : (e : Option ℕ) → next_window q b ≡ e
            → ((w : ℕ) → many (suc w) (order q.source) ≤ k → is_next q (suc w) (stamp_of i) ≡ true → Among (window_at i) (windows_from q k (next_window q (suc w))))
            → Among (window_at i) (windows_from q (suc k) e)
        go None f ih = absurd (subst (λ (e : Option ℕ). Upto e (window_at i)) f up)
        go (Some w) f ih = turn (dec_lt w (window_at i))
          where
            low : w ≤ window_at i
            low = subst (λ (e : Option ℕ). Upto e (window_at i)) f up

            turn : Dec (w < window_at i) → Among (window_at i) (windows_from q (suc k) (Some w))
            turn (no n) = unfold windows_from in inl (omega (arith, low))
            turn (yes n) = unfold windows_from in inr (ih w (omega (arith, fewer b w f)) (next_yes (suc w) (stamp_of i) (next-is b (stamp_of i) h).0 n))

    -- the window of every stamp in the range
    pub every : length (order q.source) ≤ slots q.source.slab → (i : ℕ) → Among i (order q.source) → q.start ≤ stamp_of i → stamp_of i < q.end
        → Among (window_at i) (windows q)
    unfolding windows
    every l i a s e =
        all_found (slots q.source.slab) 0 i (omega (arith, many-length 0 (order q.source))) a
        (next_yes 0 (stamp_of i) (rw (yes_le q.start (stamp_of i) s, yes_lt (stamp_of i) q.end e)) (omega arith))

    -- ---- windows ascend, and none is found twice

    ascend_from : (k b : ℕ) → Ascends b (windows_from q k (next_window q b))
    unfolding windows_from
    ascend_from zero b = tt
    ascend_from (suc k) b = go (next_window q b) refl (λ w. ascend_from k (suc w))
      where
        go : (e : Option ℕ) → next_window q b ≡ e → ((w : ℕ) → Ascends (suc w) (windows_from q k (next_window q (suc w)))) → Ascends b (windows_from q (suc k) e)
        go None f ih = tt
        go (Some w) f ih = ((found q z b f).0, ih w)

    pub windows_ascend : Ascends 0 (windows q)
    unfolding windows
    windows_ascend = ascend_from (slots q.source.slab) 0
