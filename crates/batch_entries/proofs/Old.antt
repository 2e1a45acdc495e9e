-- A stamp asked for schema by schema: the rings of the schemas below k that have entries take it. Assumes nothing.
use Prim.Native.Nat.{ℕ, ◌+◌, ◌≤◌, ◌<◌}
use native.Mathlib.Omega.{arith}
use mathlib.Core.Path.{◌≡◌, refl, ◌∙◌}
use mathlib.Core.Bool.{Bool, true, false, not, ◌&&◌, and-false}
use mathlib.Core.List.{List, [], ◌∷◌}
use lib.Dec.{eqb, ltb}
use borrow.Author.Tests.{eqb-false}
use Rattle.model.specs.Image.{schemas, row_at, rows, tiers_of, slab_of}
use Rattle.model.specs.Ring.{is_old}
use Rattle.model.specs.Lent.{first_row}
use Rattle.model.specs.Record.{Entry, series_of, takes, every_entry, keep_entry, entries_of}
use Rattle.laws.specs.Tests.{lt-is, eq_is, and_left, and_right}
use Rattle.lookup.specs.Handle.{takes_at}
use Rattle.batch_entries.specs.Entries.{fits, taken, is_some}

module _ (s : List ℕ) (t : ℕ) where
  -- of the entries for the schemas below k
  abbrev Below : ℕ → List Entry → Type 0
  Below k [] = Unit {0}
  Below k (e ∷ es) = (e.schema < k → taken s t e ≡ true) × Below k es

  pub record Asked (es : List Entry) (k : ℕ) : Type 0 where
    below : Below k es

  none_below : (es : List Entry) → Below 0 es
  none_below [] = tt
  none_below (e ∷ es) = ((λ l. absurd (omega arith)), none_below es)

  pub begins : (es : List Entry) → Asked es 0
  begins es = record { below = none_below es }

  module _ (k : ℕ) where
    -- schema k's ring
    unfoldable pub ring_takes : Bool
    ring_takes = takes (record { image = s; flags = [] }) k t

    same-ring : (e : Entry) → eqb e.schema k ≡ true → taken s t e ≡ ring_takes
    unfolding taken ring_takes
    same-ring e q = rw (eq_is e.schema k q)

    -- it takes the stamp, where it is asked
    more_below : (es : List Entry) → (is_some (entries_of k es) ≡ true → ring_takes ≡ true) → Below k es → Below (k + 1) es
    unfolding entries_of
    more_below [] f h = tt
    more_below (e ∷ es) f h = go (eqb e.schema k) refl f (λ g. more_below es g h.1)
      where
        go : (b : Bool) → eqb e.schema k ≡ b → (is_some (keep_entry b e (entries_of k es)) ≡ true → ring_takes ≡ true)
            → ((is_some (entries_of k es) ≡ true → ring_takes ≡ true) → Below (k + 1) es) → Below (k + 1) (e ∷ es)
        go true q f later =
            let yes : ring_takes ≡ true = f (unfold keep_entry is_some in refl) in
            ((λ _. same-ring e q ∙ yes), later (λ _. yes))
        go false q f later = ((λ l. h.0 (let n = eqb-false e.schema k q in omega arith)), later (unfold keep_entry in f))

    pub passes : (es : List Entry) → is_some (entries_of k es) ≡ false → Asked es k → Asked es (k + 1)
    passes es none h = record { below = more_below es (λ some. absurd (let z : ◌≡◌ {A = ℕ} 0 1 = cc in omega arith)) h.below }

    pub goes_on : (es : List Entry) → ring_takes ≡ true → Asked es k → Asked es (k + 1)
    goes_on es e h = record { below = more_below es (λ _. e) h.below }

    -- it does not
    pub refuses : (es : List Entry) → is_some (entries_of k es) ≡ true → ring_takes ≡ false → every_entry (taken s t) es ≡ false
    unfolding entries_of every_entry
    refuses [] some off = unfold is_some in (absurd (let z : ◌≡◌ {A = ℕ} 0 1 = cc in omega arith))
    refuses (e ∷ es) some off = go (eqb e.schema k) refl some (λ x. refuses es x off)
      where
        go : (b : Bool) → eqb e.schema k ≡ b → is_some (keep_entry b e (entries_of k es)) ≡ true → (is_some (entries_of k es) ≡ true → every_entry (taken s t) es ≡ false)
            → (taken s t e && every_entry (taken s t) es) ≡ false
        go true q some later = rw (same-ring e q ∙ off) refl
        go false q some later = rw (later (unfold keep_entry in some)) (and-false (taken s t e))

  -- every schema was asked
  all_below : (k : ℕ) (es : List Entry) → schemas s ≤ k → every_entry (fits s) es ≡ true → Below k es → every_entry (taken s t) es ≡ true
  unfolding every_entry
  all_below k [] l f h = refl
  all_below k (e ∷ es) l f h =
      let a = ltb e.schema (schemas s) in
      let b = ltb e.column (series_of (tiers_of e.schema (rows s))) in
      let low : e.schema < schemas s = lt-is e.schema (schemas s) (and_left a b (unfold fits in (and_left (fits s e) (every_entry (fits s) es) f))) in
      rw (h.0 (omega (arith, low, l)), all_below k es l (and_right (fits s e) (every_entry (fits s) es) f) h.1) refl

  pub ends : (k : ℕ) (es : List Entry) → schemas s ≤ k → every_entry (fits s) es ≡ true → Asked es k → every_entry (taken s t) es ≡ true
  ends k es l f h = all_below k es l f h.below

-- schema k's ring by its first row's slab
pub ring-takes : (s : List ℕ) (t k : ℕ) {i : ℕ} {x : Bool} → i ≡ first_row k (rows s) → is_old (slab_of s (row_at s i)) t ≡ x → ring_takes s t k ≡ not x
unfolding ring_takes
ring-takes s t k e o = takes_at (record { image = s; flags = [] }) k t e ∙ rw o
