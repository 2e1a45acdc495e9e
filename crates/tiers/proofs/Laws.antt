-- What is found in a row's ring; which row is a schema's tier; the choice of a tier, one turn at a time. Assumes nothing.
use Rattle.std.specs.Prelude.{Option}
use Prim.Native.Nat.{ℕ, zero, suc, ◌+◌, ◌-◌, ◌≤◌, ◌<◌}
use native.Mathlib.Nat.{zero-add, add-zero, sub-zero}
use native.Mathlib.Numerals.{add-one}
use native.Mathlib.Omega.{arith}
use mathlib.Core.Path.{◌≡◌, refl, sym, ap, ◌∙◌}
use mathlib.Core.Bool.{Bool, true, false, cond}
use mathlib.Core.List.{List}
use lib.Dec.{eqb, ltb}
use lib.ListN.{length, take, drop, get_or}
use Rattle.model.specs.declared.Place.{Place}
use Rattle.model.specs.Bytes.{get, part}
use Rattle.model.specs.Image.{row_place, row_at, rows_from, rows, row_count, keep_row, tiers_of, slab_of, open_check}
use Rattle.model.specs.Ring.{first_place, oldest, newest}
use Rattle.model.specs.Read.{full, both_ends}
use Rattle.model.specs.Lent.{Lent, ring, row, row_no, first_row, tiers}
use Rattle.model.specs.Query.{choose_from, choose, reader_on, answered, replied_by}
use borrow.Author.Tests.{ltb-false}
use Rattle.laws.specs.Tests.{yes_eq, yes_lt, lt-is, eq_is}
use Rattle.ring.specs.Parts.{ring_of}
use Rattle.lookup.specs.Parts.{SlabAt}
use Rattle.lookup.proofs.Laws.{part-is}
use Rattle.image_theory.specs.Good.{good_open}
use Rattle.image_theory.specs.Tiers.{schema_le, tier-row}
use Rattle.flag_bits.specs.Bits.{bits}
use Rattle.flag_bits.specs.One.{lent_at}
use Rattle.tiers.specs.declared.Reach.{Reach}
use Rattle.tiers.specs.Reached.{row-ring, Reached, found_by, AnswerIs, flag_of, ChosenIs, NotFirst}

-- ---- a row's slab

module _ {s : List ℕ} {i from to n m d : ℕ} (h : SlabAt s i from to n m d) where
  -- what is found in its ring
  pub reached : (w : Bool) {o e : Option ℕ} {p : Place} → o ≡ oldest (ring_of (take (to - from) (drop from s)) w) → e ≡ newest (ring_of (take (to - from) (drop from s)) w)
      → p ≡ first_place (ring_of (take (to - from) (drop from s)) w) → Reached s i w (record { from = from; oldest = o; slot = p.slot; newest = e; to = to; left = p.left })
  reached w o_is e_is p-is = record {
    oldest-is = o_is ∙ rw (part-is h);
    newest-is = e_is ∙ rw (part-is h);
    place_is = p-is ∙ rw (part-is h);
    from_is = h.from_is;
    to_is = h.to_is;
  }

-- its answer, whatever the other flags
pub answer_is : (s : List ℕ) (i : ℕ) {w : Bool} (r : Reach) (c j start end : ℕ) → Reached s i w r → AnswerIs s i w c j start end (found_by r c j start end)
unfolding replied_by answered reader_on ring row part slab_of
answer_is s i r c j start end h bs e =
    let k : r.from + (row_at s i).len - r.from ≡ (row_at s i).len = omega arith in
    rw (h.oldest-is, h.newest-is, h.place_is, h.to_is, k, h.from_is, e)

-- ---- the row of a tier

first_now : (k : ℕ) (s : List ℕ) (i n : ℕ) → 0 < n → (row_at s i).schema ≡ k → first_row k (rows_from s i n) ≡ 0
unfolding first_row rows_from
first_now k s i zero l e = absurd (omega arith)
first_now k s i (suc n) l e = let b : eqb (row_at s i).schema k ≡ true = ap (λ (x : ℕ). eqb x k) e ∙ yes_eq k in rw b

-- with n rows from row i on, whose schemas never fall: if the row j rows behind the first of schema k is of schema k, there is a tier j
tier_counted : (k : ℕ) (s : List ℕ) (i n j : ℕ) → ((x y : ℕ) → i ≤ x → x ≤ y → y < i + n → (row_at s x).schema ≤ (row_at s y).schema)
    → first_row k (rows_from s i n) + j < n → (row_at s (i + (first_row k (rows_from s i n) + j))).schema ≡ k → j < length (tiers_of k (rows_from s i n))
unfolding first_row tiers_of rows_from keep_row
tier_counted k s i zero j up l h = absurd (omega arith)
tier_counted k s i (suc n) j up l h =
    go j (λ j. tier_counted k s (suc i) n j (λ x y a b c. up x y (omega arith) b (omega arith))) (eqb (row_at s i).schema k) refl l h
  where
    f : ℕ
    f = first_row k (rows_from s (suc i) n)

    go : (j : ℕ) → ((j : ℕ) → f + j < n → (row_at s (suc i + (f + j))).schema ≡ k → j < length (tiers_of k (rows_from s (suc i) n))) → (b : Bool)
        → eqb (row_at s i).schema k ≡ b
        → cond b 0 (suc f) + j < suc n → (row_at s (i + (cond b 0 (suc f) + j))).schema ≡ k → j < length (keep_row b (row_at s i) (tiers_of k (rows_from s (suc i) n)))
    go zero later true e l h = omega arith
    go (suc j) later true e l h =
        let a = up i (suc i) (omega arith) (omega arith) (omega arith) in
        let b = up (suc i) (i + (0 + suc j)) (omega arith) (omega arith) (omega arith) in
        let c : (row_at s (suc i)).schema ≡ k = omega (arith, eq_is (row_at s i).schema k e) in
        let z : f ≡ 0 = first_now k s (suc i) n (omega arith) c in
        let m : suc i + (f + j) ≡ i + (0 + suc j) = omega arith in
        omega (arith, later j (omega arith) (rw m h))
    go j later false e l h = let m : suc i + (f + j) ≡ i + (suc f + j) = omega arith in later j (omega arith) (rw m h)

module _ (s : List ℕ) (h : open_check s ≡ 0) (k j : ℕ) {first : ℕ} (first-is : first ≡ first_row k (rows s)) where
  pub tier_there : j < length (tiers_of k (rows s)) → first + j < row_count s
  tier_there l = rw first-is (tier-row s (good_open s h).shape_is k j l).there

  pub no_tier : row_count s ≤ first + j → false ≡ ltb j (length (tiers_of k (rows s)))
  no_tier l = go (ltb j (length (tiers_of k (rows s)))) refl
    where
      go : (a : Bool) → ltb j (length (tiers_of k (rows s))) ≡ a → false ≡ a
      go true p = absurd (omega (arith, tier_there (lt-is _ _ p)))
      go false p = refl

  -- of schema k, or not
  pub tier_told : first + j < row_count s → eqb (get 4 s (row_place (first + j))) k ≡ ltb j (length (tiers_of k (rows s)))
  unfolding row_at
  tier_told l = go (ltb j (length (tiers_of k (rows s)))) refl (eqb (row_at s (first + j)).schema k) refl
    where
      counted : (row_at s (first + j)).schema ≡ k → j < length (tiers_of k (rows s))
      counted e =
          let p = (good_open s h).shape_is in
          unfold rows in
          (tier_counted k s 0 (row_count s) j (λ x y a b c. schema_le s p x y b (omega arith)) (unfold rows in (rw first-is at l)) (rw zero-add (unfold rows in (rw first-is at e))))

      go : (a : Bool) → ltb j (length (tiers_of k (rows s))) ≡ a → (b : Bool) → eqb (row_at s (first + j)).schema k ≡ b → b ≡ a
      go true p true q = refl
      go false p false q = refl
      go true p false q =
          let e : (row_at s (first + j)).schema ≡ k = rw first-is (tier-row s (good_open s h).shape_is k j (lt-is _ _ p)).schema_is in
          sym q ∙ ap (λ (x : ℕ). eqb x k) e ∙ yes_eq k
      go false p true q = sym (yes_lt _ _ (counted (eq_is _ k q))) ∙ p

-- ---- the choice: tier j of n, `first` being the row of tier 0, o and e the ends of its ring

module _ (l : Lent) (k j n best start end : ℕ) (more : j < n) {first x : ℕ} (first-is : first ≡ first_row k (rows l.image)) (inv : choose_from l k j (n - j) best start end ≡ x)
    {o e : Option ℕ} (o_is : o ≡ oldest (ring l (first + j))) (e_is : e ≡ newest (ring l (first + j))) where
  turn : (i : ℕ) → n - j ≡ suc i → x ≡ cond (full o e start end) j (choose_from l k (j + 1) i (cond (both_ends o e) j best) start end)
  unfolding choose_from row_no
  turn i p = sym inv ∙ rw (p, o_is, e_is, first-is, add-one j)

  pub covered : full o e start end ≡ true → j ≡ x
  covered h = sym (turn (n - (j + 1)) (omega arith) ∙ rw h)

  pub next_best : full o e start end ≡ false → both_ends o e ≡ true → choose_from l k (j + 1) (n - (j + 1)) j start end ≡ x
  next_best h b = sym (turn (n - (j + 1)) (omega arith) ∙ rw (h, b))

  pub same_best : full o e start end ≡ false → both_ends o e ≡ false → choose_from l k (j + 1) (n - (j + 1)) best start end ≡ x
  same_best h b = sym (turn (n - (j + 1)) (omega arith) ∙ rw (h, b))

-- no tier is left
pub last_best : (l : Lent) (k j n best start end : ℕ) {x : ℕ} → choose_from l k j (n - j) best start end ≡ x → n ≤ j → best ≡ x
unfolding choose_from
last_best l k j n best start end h p = let e : n - j ≡ 0 = omega arith in rw e at h

-- ---- the choice among the tiers behind tier 0, by a number of flags

module _ (s : List ℕ) (x k first start end : ℕ) where
  abbrev count : ℕ
  count = length (tiers_of k (rows s))

  -- no tier below j covers the range; `best` is the last of them with both ends, else 0, and r its ring
  pub record Choosing (best : ℕ) (r : Reach) (j : ℕ) : Type 0 where
    pub tier-low : j ≤ 32
    pub best_in : best < count
    pub rest : choose_from (lent_at s x) k j (count - j) best start end ≡ choose (lent_at s x) k start end
    pub kept : Reached s (first + best) (flag_of x first best) r

  -- no tier is left
  pub chosen_best : {best : ℕ} {r : Reach} {j : ℕ} → Choosing best r j → ltb j count ≡ false → ChosenIs s x k first start end (record { tier = best; reach = r })
  chosen_best {best} {r} {j} c l = record {
    tier-is = last_best (lent_at s x) k j count best start end c.rest (omega (arith, ltb-false j count l));
    tier_in_lem = c.best_in;
    reached = c.kept;
  }

  module _ (first-is : first ≡ first_row k (rows s)) {best : ℕ} {r : Reach} {j : ℕ} (c : Choosing best r j) (more : ltb j count ≡ true) (fits : first + j < 32)
      {w : Bool} {here : Reach} (here-is : Reached s (first + j) w here) (w_is : w ≡ flag_of x first j) where
    low : j < count
    low = lt-is j count more

    o_is : here.oldest ≡ oldest (ring (lent_at s x) (first + j))
    o_is = here-is.oldest-is ∙ ap oldest (row-ring s (bits 32 x) (first + j) w_is)

    e_is : here.newest ≡ newest (ring (lent_at s x) (first + j))
    e_is = here-is.newest-is ∙ ap newest (row-ring s (bits 32 x) (first + j) w_is)

    own : Reached s (first + j) (flag_of x first j) here
    own = rw (← w_is) here-is

    pub chosen-here : full here.oldest here.newest start end ≡ true → ChosenIs s x k first start end (record { tier = j; reach = here })
    chosen-here f = record {
      tier-is = covered (lent_at s x) k j count best start end low first-is c.rest o_is e_is f;
      tier_in_lem = low;
      reached = own;
    }

    module _ (f : full here.oldest here.newest start end ≡ false) where
      pub best_here : both_ends here.oldest here.newest ≡ true → Choosing j here (j + 1)
      best_here b = record {
        tier-low = omega (arith, fits);
        best_in = low;
        rest = next_best (lent_at s x) k j count best start end low first-is c.rest o_is e_is f b;
        kept = own;
      }

      pub best_stays : both_ends here.oldest here.newest ≡ false → Choosing best r (j + 1)
      best_stays b = record {
        tier-low = omega (arith, fits);
        best_in = c.best_in;
        rest = same_best (lent_at s x) k j count best start end low first-is c.rest o_is e_is f b;
        kept = c.kept;
      }

  -- tier 0, by itself
  module _ (first-is : first ≡ first_row k (rows s)) (some : 0 < count) (fits : first < 32) {w : Bool} {here : Reach} (here-is : Reached s first w here) (w_is : w ≡ get_or (bits 32 x) first false) where
    here-first : Reached s (first + 0) w here
    here-first = rw (add-zero first) here-is

    w_first : w ≡ flag_of x first 0
    w_first = rw (add-zero first) w_is

    pub before-all : Choosing 0 here 0
    unfolding choose tiers
    before-all = record {
      tier-low = omega arith;
      best_in = some;
      rest = rw (sub-zero count) refl;
      kept = rw (← w_first) here-first;
    }

    pub chosen-first : full here.oldest here.newest start end ≡ true → ChosenIs s x k first start end (record { tier = 0; reach = here })
    chosen-first f = chosen-here first-is before-all (yes_lt 0 count some) (rw (add-zero first) fits) here-first w_first f

    pub not_first : full here.oldest here.newest start end ≡ false → NotFirst s x k first here start end
    not_first f = record { first-is = first-is; some_tier = some; reached = rw (← w_first) here-first; not_full = f }

  pub behind-first : {r : Reach} → first < 32 → NotFirst s x k first r start end → Choosing 0 r 1
  behind-first {r} fits h = go (both_ends r.oldest r.newest) refl
    where
      all : Choosing 0 r 0
      all = record { tier-low = omega arith; best_in = h.some_tier; rest = unfold choose tiers in (rw (sub-zero count) refl); kept = h.reached }

      go : (b : Bool) → both_ends r.oldest r.newest ≡ b → Choosing 0 r 1
      go true e = best_here h.first-is all (yes_lt 0 count h.some_tier) (rw (add-zero first) fits) h.reached refl h.not_full e
      go false e = best_stays h.first-is all (yes_lt 0 count h.some_tier) (rw (add-zero first) fits) h.reached refl h.not_full e
