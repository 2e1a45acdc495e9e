-- One turn of the loop over the rows; a pair keeps the image in good order; the outcome of a call from its parts. Assumes nothing.
use Rattle.std.specs.Prelude.{Result, Ok, Err}
use Prim.Native.Nat.{ℕ, zero, suc, ◌+◌, ◌-◌, ◌≤◌, ◌<◌}
use native.Mathlib.Omega.{arith}
use native.Mathlib.Numerals.{add-one}
use mathlib.Core.Path.{◌≡◌, refl, sym, ap, ◌∙◌}
use mathlib.Core.Logic.{◌≢◌}
use mathlib.Core.Bool.{Bool, true, false}
use mathlib.Core.List.{List}
use lib.Dec.{eqb}
use lib.ListN.{length}
use Rattle.model.specs.declared.Flags.{Flags}
use Rattle.model.specs.declared.Refusal.{Refusal}
use Rattle.model.specs.Words.{number_of, outcome_no}
use Rattle.model.specs.Image.{row_count, row_place, row_at, open_check}
use Rattle.model.specs.Lent.{row}
use Rattle.model.specs.Consolidate.{Run, pair, pair_if, pairs, run_on, run}
use Rattle.model.specs.Store.{Reply, call, consolidate_call, finished, wrote_or, refused, consolidated_reply}
use Rattle.image_theory.specs.Good.{good_open, open_good, count_kept}
use Rattle.image_theory.specs.Pairs.{stays_pair}
use Rattle.rows.specs.First.{refusal_no}
use Rattle.lookup.specs.Parts.{lent_of}
use Rattle.pair.specs.declared.Progress.{Progress}
use Rattle.pair.specs.Parts.{run_of}
use Rattle.consolidate.specs.Parts.{fresh}

-- ---- the loop over the rows

-- a refusal has ended the run
if_refused : (b : Bool) (n : ℕ) (u : Run) (i : ℕ) → n ≢ 0 → pair_if b n u i ≡ u
unfolding pair_if
if_refused b zero u i h = absurd (h refl)
if_refused true (suc n) u i h = refl
if_refused false (suc n) u i h = refl

refused_rest : (u : Run) (i k : ℕ) → u.refusal ≢ 0 → pairs u i k ≡ u
unfolding pairs
refused_rest u i zero h = refl
refused_rest u i (suc k) h =
    ap (λ (v : Run). pairs v (suc i) k) (if_refused (eqb (row u.lent i).schema (row u.lent (suc i)).schema) u.refusal u i h) ∙ refused_rest u (suc i) k h

abbrev pub same_schema : Run → ℕ → Bool
same_schema u i = eqb (row_at u.lent.image i).schema (row_at u.lent.image (suc i)).schema

module _ (u : Run) (i n : ℕ) (h : i < n - 1) {total : Run} (k : pairs u i (n - 1 - i) ≡ total) where
  left : n - 1 - i ≡ suc (n - 1 - (i + 1))
  left = omega arith

  first-row : pairs u i (n - 1 - i) ≡ pairs (pair_if (same_schema u i) u.refusal u i) (i + 1) (n - 1 - (i + 1))
  unfolding pairs row
  first-row = rw (left, add-one i)

  pub skip_row : same_schema u i ≡ false → pairs u (i + 1) (n - 1 - (i + 1)) ≡ total
  skip_row e = sym (ap (λ (v : Run). pairs v (i + 1) (n - 1 - (i + 1))) passed) ∙ sym first-row ∙ k
    where
      passed : pair_if (same_schema u i) u.refusal u i ≡ u
      passed = unfold pair_if in (rw e)

  pub pair_turn : {v : Run} → same_schema u i ≡ true → u.refusal ≡ 0 → v ≡ pair u i → pairs v (i + 1) (n - 1 - (i + 1)) ≡ total
  pair_turn {v} e z m = ap (λ (x : Run). pairs x (i + 1) (n - 1 - (i + 1))) (m ∙ sym paired) ∙ sym first-row ∙ k
    where
      paired : pair_if (same_schema u i) u.refusal u i ≡ pair u i
      paired = unfold pair_if in (rw (e, z))

  pub pair-last : {v : Run} → same_schema u i ≡ true → u.refusal ≡ 0 → v ≡ pair u i → v.refusal ≢ 0 → v ≡ total
  pair-last {v} e z m r = sym (refused_rest v (i + 1) (n - 1 - (i + 1)) r) ∙ pair_turn e z m

pub rows_done : (u : Run) (i n : ℕ) {total : Run} → n - 1 ≤ i → pairs u i (n - 1 - i) ≡ total → u ≡ total
unfolding pairs
rows_done u i n h k = let e : n - 1 - i ≡ 0 = omega arith in rw e at k

-- ---- the image stays in good order

pub record Goes (s t : List ℕ) : Type 0 where
  pub opened : open_check t ≡ 0
  pub count-is : row_count t ≡ row_count s
  pub long : length t ≡ length s

pub goes_same : (s : List ℕ) → open_check s ≡ 0 → Goes s s
goes_same s h = record { opened = h; count-is = refl; long = refl }

pub goes_then : (s t v : List ℕ) → Goes s t → Goes t v → Goes s v
goes_then s t v a b = record { opened = b.opened; count-is = b.count-is ∙ a.count-is; long = b.long ∙ a.long }

pub goes_pair : (s t : List ℕ) (u : Progress) (i : ℕ) (r : Progress) → open_check s ≡ 0 → suc i < row_count s → run_of t r ≡ pair (run_of s u) i → Goes s t
goes_pair s t u i r o h e =
    let x = stays_pair (lent_of s u.flags) (good_open s o) i h u.count (outcome_no u.outcome) in
    let y : t ≡ (pair (run_of s u) i).lent.image = ap (λ (v : Run). v.lent.image) e in
    rw y (record {
      opened = open_good (pair (run_of s u) i).lent.image x.good;
      count-is = count_kept (pair (run_of s u) i).lent.image s x.image_is;
      long = x.image_is.long;
    })

pub row_inside : (s : List ℕ) → open_check s ≡ 0 → (i : ℕ) → i < row_count s → row_place i + 64 ≤ length s
row_inside s o i h = omega (arith, (good_open s o).shape_is.head-fits, ends)
  where
    ends : row_place i + 64 ≤ row_place (row_count s)
    ends = unfold row_place in (omega arith)

pub few_rows : (s : List ℕ) → open_check s ≡ 0 → row_count s ≤ 32
few_rows s o = (good_open s o).shape_is.few_rows

pub header-inside : (s : List ℕ) → open_check s ≡ 0 → 32 ≤ length s
header-inside s o = (good_open s o).shape_is.long

-- ---- the outcome

module _ (s : List ℕ) (flags : Flags) where
  pub not_opened : (n : ℕ) {a : Reply} → n ≡ open_check s → n ≢ 0 → a ≡ wrote_or n 0 → record { reply = a; lent = lent_of s flags } ≡ call (lent_of s flags) consolidate_call
  unfolding call finished run
  not_opened n e z k = go (open_check s) (λ y. z (e ∙ y)) (k ∙ ap (λ (x : ℕ). wrote_or x 0) e)
    where
      go : (m : ℕ) → m ≢ 0 → {a : Reply} → a ≡ wrote_or m 0 → record { reply = a; lent = lent_of s flags } ≡ finished (run_on m (lent_of s flags))
      go zero z k = absurd (z refl)
      go (suc m) z k = unfold finished run_on in (rw k)

  pub run_done_lem : (t : List ℕ) (u : Progress) {a : Reply} → open_check s ≡ 0 → run_of t u ≡ pairs (fresh s flags) 0 (row_count s - 1)
      → a ≡ wrote_or (outcome_no u.outcome) u.count → record { reply = a; lent = lent_of t u.flags } ≡ call (lent_of s flags) consolidate_call
  unfolding call finished run run_on
  run_done_lem t u o e k = rw (o, ← e, k)

-- ---- the answer

pub wrote_all : (k : ℕ) (o : Result (Unit {0}) Refusal) → o ≡ Ok tt → consolidated_reply (Ok k) ≡ wrote_or (outcome_no o) k
unfolding consolidated_reply wrote_or
wrote_all k o e = rw e

pub refused_run : (k : ℕ) (x : Refusal) {o : Result (Unit {0}) Refusal} → o ≡ Err x → consolidated_reply (Err x) ≡ wrote_or (outcome_no o) k
unfolding consolidated_reply wrote_or
refused_run k x e = rw e (go (number_of x) (refusal_no x))
  where
    go : (n : ℕ) → n ≢ 0 → refused n ≡ wrote_or n k
    go zero h = absurd (h refl)
    go (suc n) h = refl
