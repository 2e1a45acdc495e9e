-- A plan's bytes as they are laid down: numbers one after another, then row after row. Assumes nothing.
use Rattle.std.proofs.Common.{arith, ℕ, zero, suc, ◌+◌, ◌<◌, ◌≡◌, Bool, true, false, ltb, cond, refl, sym, ap, ◌∙◌, List, [], ◌∷◌, ◌++◌, length, take, get_or, flat_map, append_assoc, add-one, add-zero, append-nil}
use mir.Val.{bool_byte}
use Rattle.model.specs.Bytes.{bytes}
use Rattle.model.specs.Image.{row_bytes, all_rows}
use Rattle.owned.specs.declared.Tier.{Tier}
use Rattle.owned.specs.Plan.{plan_row, plan_rows}

-- ---- numbers

one_more : (f : ℕ → List ℕ) (xs : List ℕ) (i : ℕ) → i < length xs → flat_map f (take (suc i) xs) ≡ flat_map f (take i xs) ++ f (get_or xs i 0)
one_more f [] i h = absurd (omega arith)
one_more f (x ∷ xs) zero h = append-nil (f x)
one_more f (x ∷ xs) (suc i) h = ap (λ t. f x ++ t) (one_more f xs i (omega arith)) ∙ sym (append_assoc (f x) (flat_map f (take i xs)) (f (get_or xs i 0)))

-- w bytes more for the next number
pub laid_more : (w i : ℕ) (xs before was now new : List ℕ) → i < length xs → was ≡ before ++ flat_map (bytes w) (take i xs) → now ≡ was ++ new → new ≡ bytes w (get_or xs i 0) → now ≡ before ++ flat_map (bytes w) (take (i + 1) xs)
laid_more w i xs before was now new h was-is now-is new-is =
    now-is ∙ rw (was-is, new-is, add-one, one_more (bytes w) xs i h) (append_assoc before (flat_map (bytes w) (take i xs)) (bytes w (get_or xs i 0)))

-- ---- a row

bit : (b : Bool) → bool_byte b ≡ cond b 1 0
bit true = refl
bit false = refl

-- its fields, in four parts
pub row_laid : (t : Tier) (i b : ℕ) (s p q r z : List ℕ) → b ≡ bool_byte (ltb 0 i)
    → p ≡ s ++ flat_map (bytes 4) (0 ∷ i ∷ []) → q ≡ p ++ flat_map (bytes 8) (t.interval ∷ t.retention ∷ []) → r ≡ q ++ flat_map (bytes 4) (b ∷ 2 ∷ [])
    → z ≡ r ++ flat_map (bytes 8) (0 ∷ 0 ∷ 0 ∷ 7 ∷ []) → z ≡ s ++ row_bytes (plan_row i t)
unfolding row_bytes
row_laid t i b s p q r z b-is p-is q-is r-is z-is = z-is ∙ rw (r-is, q-is, p-is, b-is, bit (ltb 0 i)) (simp (append_assoc, append-nil))

-- ---- rows

rows_one_more : (k i : ℕ) (ts : List Tier) (t : Tier) → i < length ts → all_rows (plan_rows k (take (suc i) ts)) ≡ all_rows (plan_rows k (take i ts)) ++ row_bytes (plan_row (k + i) (get_or ts i t))
unfolding all_rows plan_rows
rows_one_more k i [] t h = absurd (omega arith)
rows_one_more k zero (x ∷ ts) t h = rw (add-zero, append-nil) refl
rows_one_more k (suc i) (x ∷ ts) t h =
    let step : suc k + i ≡ k + suc i = omega arith in
    let mine = row_bytes (plan_row k x) in
    ap (λ u. mine ++ u) (rows_one_more (suc k) i ts t (omega arith) ∙ ap (λ n. all_rows (plan_rows (suc k) (take i ts)) ++ row_bytes (plan_row n (get_or ts i t))) step)
    ∙ sym (append_assoc mine (all_rows (plan_rows (suc k) (take i ts))) (row_bytes (plan_row (k + suc i) (get_or ts i t))))

-- one row more
pub rows_more : (i : ℕ) (ts : List Tier) (t : Tier) (h was now : List ℕ) → i < length ts → was ≡ h ++ all_rows (plan_rows 0 (take i ts)) → now ≡ was ++ row_bytes (plan_row i (get_or ts i t)) → now ≡ h ++ all_rows (plan_rows 0 (take (i + 1) ts))
rows_more i ts t h was now lt was-is now-is =
    let more = rows_one_more 0 i ts t lt ∙ ap (λ n. all_rows (plan_rows 0 (take i ts)) ++ row_bytes (plan_row n (get_or ts i t))) (omega arith) in
    now-is ∙ rw (was-is, add-one, more) (append_assoc h (all_rows (plan_rows 0 (take i ts))) (row_bytes (plan_row i (get_or ts i t))))
