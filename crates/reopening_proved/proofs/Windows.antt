-- Two flags, one consolidation: where a source is tidy with either flag, its windows' answers are the same, and so is what the destination is filled with. The
-- windows that are found may differ by one whose answers are all Empty: the window at 0, if a slot without a stamp is read. Assumes nothing.
use Prim.Native.Nat.{ℕ, zero, suc, ◌+◌, ◌-◌, ◌≤◌, ◌<◌}
use Rattle.std.proofs.Common.{zero-add, arith, sym, ◌∙◌, subst, inl, inr}
use Rattle.std.proofs.Math.Decide.{ℕ_discrete, dec_lt}
use Rattle.std.specs.Prelude.{◌≡◌, ◌⊎◌, Bool}
use Rattle.std.proofs.Math.Path.{refl, ap}
use Rattle.std.proofs.Math.Bool.{true, false, cond}
use mathlib.Core.List.{List, [], ◌∷◌, ◌++◌}
use Rattle.std.proofs.Math.Dec.{leb, ltb, eqb}
use Rattle.std.proofs.Math.ListN.{length}
use Rattle.model.specs.declared.ConsolidationFn.{ConsolidationFn}
use Rattle.model.specs.declared.Held.TheVariants.{Outside}
use Rattle.model.specs.declared.WindowAnswer.TheVariants.{Empty}
use Rattle.model.specs.Layout.{fresh_value}
use Rattle.model.specs.Ring.{Ring, slots, cursor, stamp, cell, first_place, order}
use Rattle.model.specs.Window.{Job, window_of, held_value, held, held_in, seen_one, seen, keep_finite, finites, answer_of, window_answer}
use Rattle.model.specs.Consolidate.{Filled, write_answer, unless_refused, fill_window, fill, windows, filled}
use Rattle.laws.specs.Tests.{le_is, lt-is, eq_is}
use Rattle.ring_theory.specs.Numbers.{upto, length-walk}
use Rattle.ring_theory.specs.Sound.{Sound}
use Rattle.ring_theory.specs.Points.{first_in}
use Rattle.ring_theory.specs.Hold.{order_none}
use Rattle.pair_theory.specs.Answers.{fresh-cell}
use Rattle.query_theory.specs.Order.{order_plain, order_wrapped}
use Rattle.window_theory.specs.Every.{Among, every, Ascends, windows_ascend}
use Rattle.reopening_proved.specs.Tidy.{Tidy}

-- ---- slots that a window does not hold

-- k slots of fresh values, before others
record Skipped (q : Job) (w c : ℕ) (is js : List ℕ) : Type 0 where
  seen-is : seen (held_in q w c is) ≡ seen (held_in q w c js)
  finites_are : finites (held_in q w c is) ≡ finites (held_in q w c js)

skips : (q : Job) (w c i k : ℕ) (rest : List ℕ) → ((j : ℕ) → i ≤ j → j < i + k → cell q.source.slab c j ≡ fresh_value) → Skipped q w c (upto i k ++ rest) rest
unfolding upto held_in seen seen_one finites keep_finite
skips q w c i zero rest h = record { seen-is = refl; finites_are = refl }
skips q w c i (suc k) rest h =
    let s = q.source.slab in
    let o = fresh-cell q w (stamp s i) (cell s c i) (h i (omega arith) (omega arith)) in
    let r = skips q w c (suc i) k rest (λ j x y. h j (omega arith) (omega arith)) in
    record {
      seen-is = rw (o, zero-add (seen (held_in q w c (upto (suc i) k ++ rest)))) r.seen-is;
      finites_are = rw o r.finites_are;
    }

-- none of these slots is held
none_seen : (q : Job) (w c : ℕ) (is : List ℕ) → ((i : ℕ) → Among i is → held q w (stamp q.source.slab i) (cell q.source.slab c i) ≡ Outside) → seen (held_in q w c is) ≡ 0
unfolding held_in seen seen_one
none_seen q w c [] h = refl
none_seen q w c (i ∷ is) h = rw (h i (inl refl), zero-add (seen (held_in q w c is))) (none_seen q w c is (λ j a. h j (inr a)))

-- ---- a window that is not found has no value

module _ (q : Job) {n m d : ℕ} (h : Sound q.source.slab n m d) (z : 0 < q.long) where
  not_found_lem : (w c : ℕ) → (Among w (windows q) → ⊥) → window_answer q w c ≡ Empty
  unfolding window_answer answer_of
  not_found_lem w c f = rw (none_seen q w c (order q.source) outside)
    where
      s : List ℕ
      s = q.source.slab

      few : length (order q.source) ≤ slots s
      few = rw h.slots-is (unfold order in (rw (length-walk (slots s) (first_place q.source).slot (first_place q.source).left) (first_in q.source h).1))

      outside : (i : ℕ) → Among i (order q.source) → held q w (stamp s i) (cell s c i) ≡ Outside
      outside i a = unfold held in (go (leb q.start (stamp s i)) refl (ltb (stamp s i) q.end) refl (eqb (window_of q.long (stamp s i)) w) refl)
        where
          go : (x : Bool) → leb q.start (stamp s i) ≡ x → (y : Bool) → ltb (stamp s i) q.end ≡ y → (v : Bool) → eqb (window_of q.long (stamp s i)) w ≡ v
              → cond x (cond y (cond v (held_value (cell s c i)) Outside) Outside) Outside ≡ Outside
          go false p y r v t = refl
          go true p false r v t = refl
          go true p true r false t = refl
          go true p true r true t =
              absurd (f (subst (λ (x : ℕ). Among x (windows q)) (eq_is (window_of q.long (stamp s i)) w t)
              (every q z few i a (le_is q.start (stamp s i) p) (lt-is (stamp s i) q.end r))))

-- ---- a fill goes by the answers: of two ascending lists it makes the same where the windows that only one of them has are empty

dec_among : (x : ℕ) (ws : List ℕ) → Dec (Among x ws)
dec_among x [] = no (λ a. a)
dec_among x (w ∷ ws) = go (ℕ_discrete x w) (dec_among x ws)
  where
    go : Dec (x ≡ w) → Dec (Among x ws) → Dec (Among x (w ∷ ws))
    go (yes e) d = yes (inl e)
    go (no e) (yes a) = yes (inr a)
    go (no e) (no a) = no (λ b. neither b e a)
      where
        neither : Among x (w ∷ ws) → (x ≡ w → ⊥) → (Among x ws → ⊥) → ⊥
        neither (inl p) e a = e p
        neither (inr p) e a = a p

from_on : (b x : ℕ) (ws : List ℕ) → Ascends b ws → Among x ws → b ≤ x
from_on b x [] r a = absurd a
from_on b x (w ∷ ws) r (inl e) = omega (arith, r.0)
from_on b x (w ∷ ws) r (inr a) = omega (arith, r.0, from_on (suc w) x ws r.1 a)

module _ (q : Job) (m : ℕ) where
  -- window w has no value in any column
  abbrev Bare : ℕ → Type 0
  Bare w = (c : ℕ) → c < m → window_answer q w c ≡ Empty

  bare_window : (w j c : ℕ) (f : Filled) → c + j ≤ m → Bare w → fill_window q f w c j ≡ f
  unfolding fill_window
  bare_window w zero c f l b = refl
  bare_window w (suc j) c f l b =
      let e : write_answer (window_answer q w c) f w c ≡ f = rw (b c (omega arith)) (unfold write_answer in refl) in
      rw (e, stays f.refusal) (bare_window w j (suc c) f (omega arith) b)
    where
      stays : (n : ℕ) → unless_refused n f f ≡ f
      stays zero = unfold unless_refused in refl
      stays (suc n) = unfold unless_refused in refl

  -- each window of ws is bare, or one of vs
  abbrev Covered : List ℕ → List ℕ → Type 0
  Covered ws vs = (x : ℕ) → Among x ws → Bare x ⊎ Among x vs

  -- the windows behind w, where both lists begin with it; and where only the first does
  both_behind : (w : ℕ) (ws vs : List ℕ) → Ascends (suc w) ws → Covered (w ∷ ws) (w ∷ vs) → Covered ws vs
  both_behind w ws vs r h x a = go (h x (inr a))
    where
      go : Bare x ⊎ Among x (w ∷ vs) → Bare x ⊎ Among x vs
      go (inl e) = inl e
      go (inr (inl e)) = absurd (omega (arith, e, from_on (suc w) x ws r a))
      go (inr (inr e)) = inr e

  one-behind : (w : ℕ) (ws vs : List ℕ) → Ascends (suc w) vs → Covered vs (w ∷ ws) → Covered vs ws
  one-behind w ws vs r h x a = go (h x a)
    where
      go : Bare x ⊎ Among x (w ∷ ws) → Bare x ⊎ Among x ws
      go (inl e) = inl e
      go (inr (inl e)) = absurd (omega (arith, e, from_on (suc w) x vs r a))
      go (inr (inr e)) = inr e

  -- a window that only the first list has
  alone : (w : ℕ) (ws vs : List ℕ) → Ascends (suc w) vs → Covered (w ∷ ws) vs → Bare w
  alone w ws vs r h = go (h w (inl refl))
    where
      go : Bare w ⊎ Among w vs → Bare w
      go (inl e) = e
      go (inr a) = absurd (omega (arith, from_on (suc w) w vs r a))

  skipped : (w : ℕ) (ws : List ℕ) (f : Filled) → Bare w → fill q f (w ∷ ws) m ≡ fill q f ws m
  unfolding fill
  skipped w ws f b = ap (λ (g : Filled). fill q g ws m) (bare_window w m 0 f (omega arith) b)

  -- two lists of k windows together
  abbrev Merges : ℕ → Type 0
  Merges k = (ws vs : List ℕ) (b : ℕ) (f : Filled) → length ws + length vs ≤ k → Ascends b ws → Ascends b vs → Covered ws vs → Covered vs ws → fill q f ws m ≡ fill q f vs m

  one_more : (k : ℕ) → Merges k → Merges (suc k)
  one_more k ih [] [] b f l r t h g = refl
  one_more k ih (w ∷ ws) [] b f l r t h g =
      skipped w ws f (alone w ws [] tt h) ∙ ih ws [] (suc w) f (omega arith) r.1 tt (λ x a. h x (inr a)) (λ x a. absurd a)
  one_more k ih [] (v ∷ vs) b f l r t h g =
      ih [] vs (suc v) f (omega arith) tt t.1 (λ x a. absurd a) (λ x a. g x (inr a)) ∙ sym (skipped v vs f (alone v vs [] tt g))
  one_more k ih (w ∷ ws) (v ∷ vs) b f l r t h g = go (dec_lt w v) (dec_lt v w)
    where
      same : w ≡ v → fill q f (w ∷ ws) m ≡ fill q f (v ∷ vs) m
      same e =
          rw (← e) (unfold fill in (ih ws vs (suc w) (fill_window q f w 0 m) (omega arith) r.1 (rw (← e) at t.1)
          (both_behind w ws vs r.1 (rw (← e) at h)) (both_behind w vs ws (rw (← e) at t.1) (rw (← e) at g))))

      go : Dec (w < v) → Dec (v < w) → fill q f (w ∷ ws) m ≡ fill q f (v ∷ vs) m
      go (yes p) d =
          skipped w ws f (alone w ws (v ∷ vs) (p, t.1) h)
          ∙ ih ws (v ∷ vs) (suc w) f (omega arith) r.1 (p, t.1) (λ x a. h x (inr a)) (one-behind w ws (v ∷ vs) (p, t.1) g)
      go (no n) (yes p) =
          ih (w ∷ ws) vs (suc v) f (omega arith) (p, r.1) t.1 (one-behind v vs (w ∷ ws) (p, r.1) h) (λ x a. g x (inr a))
          ∙ sym (skipped v vs f (alone v vs (w ∷ ws) (p, r.1) g))
      go (no n) (no p) = same (omega arith)

  merged : (k : ℕ) → Merges k
  merged zero [] [] b f l r t h g = refl
  merged zero (w ∷ ws) vs b f l r t h g = absurd (omega arith)
  merged zero [] (v ∷ vs) b f l r t h g = absurd (omega arith)
  merged (suc k) ws vs b f l r t h g = one_more k (merged k) ws vs b f l r t h g

-- ---- the two jobs on a slab

module _ (s : List ℕ) {n m d : ℕ} (h : Sound s n m d) (fn : ConsolidationFn) (long start end : ℕ) where
  abbrev with : Bool → Ring
  with w = record { slab = s; wrapped = w }

  abbrev job : Bool → Job
  job w = record { source = with w; function = fn; long = long; start = start; end = end }

  -- what a slot holds does not turn on the flag
  held_flag : (w v : Bool) (x c : ℕ) (is : List ℕ) → held_in (job w) x c is ≡ held_in (job v) x c is
  unfolding held_in held
  held_flag w v x c [] = refl
  held_flag w v x c (i ∷ is) = rw (held_flag w v x c is)

  -- a wrapped reading of a ring that is tidy without the flag
  answer_other : Tidy n m (with false) → (x c : ℕ) → c < m → window_answer (job true) x c ≡ window_answer (job false) x c
  unfolding window_answer
  answer_other ty x c hc = go (ℕ_discrete (stamp s (cursor s)) 0)
    where
      go : Dec (stamp s (cursor s) ≡ 0)
          → answer_of fn (seen (held_in (job true) x c (order (with true)))) (finites (held_in (job true) x c (order (with true))))
          ≡ answer_of fn (seen (held_in (job false) x c (order (with false)))) (finites (held_in (job false) x c (order (with false))))
      go (yes e) = rw (order_none (with true) e, order_none (with false) e, held_flag true false x c [])
      go (no e) =
          let k = suc (cursor s) in
          let r = skips (job true) x c k (n - k) (upto 0 k) (λ j lo hi. ty.unstamped j c (omega (arith, h.cursor_in)) hc (ty.above refl j lo (omega (arith, h.cursor_in)))) in
          rw (order_wrapped (with true) h e refl, order_plain (with false) h e refl, r.seen-is, r.finites_are, held_flag true false x c (upto 0 k))

  answer_same : (w v : Bool) → Tidy n m (with w) → Tidy n m (with v) → (x c : ℕ) → c < m → window_answer (job w) x c ≡ window_answer (job v) x c
  answer_same true true t u x c hc = refl
  answer_same false false t u x c hc = refl
  answer_same true false t u x c hc = answer_other u x c hc
  answer_same false true t u x c hc = sym (answer_other t x c hc)

  module _ (w v : Bool) (t : Tidy n m (with w)) (u : Tidy n m (with v)) (z : 0 < long) where
    window_same : (f : Filled) (x c j : ℕ) → c + j ≤ m → fill_window (job w) f x c j ≡ fill_window (job v) f x c j
    unfolding fill_window
    window_same f x c zero l = refl
    window_same f x c (suc j) l =
        let g = write_answer (window_answer (job v) x c) f x c in
        rw (answer_same w v t u x c (omega arith)) (window_same (unless_refused f.refusal f g) x (suc c) j (omega arith))

    fill-same : (f : Filled) (ws : List ℕ) → fill (job w) f ws m ≡ fill (job v) f ws m
    unfolding fill
    fill-same f [] = refl
    fill-same f (x ∷ ws) = rw (window_same f x 0 m (omega arith)) (fill-same (fill_window (job v) f x 0 m) ws)

    -- a window that only the one search finds is bare
    covered : Covered (job v) m (windows (job w)) (windows (job v))
    covered x a = go (dec_among x (windows (job v)))
      where
        go : Dec (Among x (windows (job v))) → Bare (job v) m x ⊎ Among x (windows (job v))
        go (yes b) = inr b
        go (no b) = inl (λ c hc. not_found_lem (job v) h z x c b)

    covers : Covered (job v) m (windows (job v)) (windows (job w))
    covers x a = go (dec_among x (windows (job w)))
      where
        go : Dec (Among x (windows (job w))) → Bare (job v) m x ⊎ Among x (windows (job w))
        go (yes b) = inr b
        go (no b) = inl (λ c hc. sym (answer_same w v t u x c hc) ∙ not_found_lem (job w) h z x c b)

    pub filled-same : (r : Ring) → filled (job w) r m ≡ filled (job v) r m
    unfolding filled
    filled-same r =
        let f : Filled = record { ring = r; writes = 0; refusal = 0 } in
        fill-same f (windows (job w))
        ∙ merged (job v) m (length (windows (job w)) + length (windows (job v))) (windows (job w)) (windows (job v)) 0 f (omega arith)
        (windows_ascend (job w) z) (windows_ascend (job v) z) covered covers
