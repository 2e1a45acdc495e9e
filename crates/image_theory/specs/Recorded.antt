-- What a recording says by being accepted: the image passes the checks, the handle is good, the stamp is not 0 and below 2^63. A good handle is a schema of the
-- image and a column of the schema. Assumes nothing.
use Rattle.std.specs.Prelude.{ℕ, zero, suc, ◌^◌, ◌<◌, ◌≡◌, refl, true, List, [], ◌∷◌, ltb}
use Rattle.model.specs.Image.{schemas, open_check}
use Rattle.model.specs.Lent.{Lent, tiers}
use Rattle.model.specs.Record.{Entry, series_of, handle_ok, stamp_ok, record_check, every_entry, batch_check, entries_of, write_some, write_schemas}
use Rattle.laws.specs.Tests.{and_left, and_right, lt-is}
use Rattle.laws.specs.Checks.{each_zero, unless_zero}

pub stamp-low : (t : ℕ) → stamp_ok t ≡ true → t < 2 ^ 63
unfolding stamp_ok
stamp-low t h = lt-is t (2 ^ 63) (and_right (ltb 0 t) (ltb t (2 ^ 63)) h)

pub stamp_pos : (t : ℕ) → stamp_ok t ≡ true → 0 < t
unfolding stamp_ok
stamp_pos t h = lt-is 0 t (and_left (ltb 0 t) (ltb t (2 ^ 63)) h)

-- ---- a handle

pub handle_in : (l : Lent) (k c : ℕ) → handle_ok l k c ≡ true → (k < schemas l.image) × (c < series_of (tiers l k))
unfolding handle_ok
handle_in l k c h =
    let x = ltb k (schemas l.image) in
    let y = ltb c (series_of (tiers l k)) in
    (lt-is k (schemas l.image) (and_left x y h), lt-is c (series_of (tiers l k)) (and_right x y h))

-- ---- the two checks

pub record_zero : (l : Lent) (k c v t : ℕ) → record_check l k c v t ≡ 0 → (open_check l.image ≡ 0) × (handle_ok l k c ≡ true) × (t < 2 ^ 63) × (0 < t)
unfolding record_check
record_zero l k c v t h =
    let z = each_zero _ h in
    let u = unless_zero _ (z 3) in
    (z 0, unless_zero _ (z 1), stamp-low t u, stamp_pos t u)

pub batch_zero : (l : Lent) (x : Entry) (xs : List Entry) (t : ℕ) → batch_check l (x ∷ xs) t ≡ 0
    → (open_check l.image ≡ 0) × (every_entry (λ x. handle_ok l x.schema x.column) (x ∷ xs) ≡ true) × (t < 2 ^ 63) × (0 < t)
unfolding batch_check
batch_zero l x xs t h =
    let z = each_zero _ h in
    let u = unless_zero _ (z 2) in
    (z 0, unless_zero _ (z 1), stamp-low t u, stamp_pos t u)

-- ---- a batch without entries writes nothing

pub batch_none : (l : Lent) (k j t : ℕ) → write_schemas l k j [] t ≡ l
unfolding write_schemas entries_of write_some
batch_none l k zero t = refl
batch_none l k (suc j) t = batch_none l (suc k) j t
