-- A schema's tiers one by one, and its checks in their order. Assumes nothing.
use Rattle.std.specs.Prelude.{Option, Some, None}
use Prim.Native.Nat.{ℕ, suc, ◌+◌, ◌-◌, ◌^◌, ◌≤◌, ◌<◌}
use native.Mathlib.Numerals.{add-one}
use native.Mathlib.Nat.{sub-zero}
use native.Mathlib.Omega.{arith}
use mathlib.Core.Path.{◌≡◌, sym, ap, ◌∙◌}
use mathlib.Core.Bool.{Bool, true, false, ◌&&◌, and_assoc, and-true}
use mathlib.Core.List.{List, [], ◌∷◌}
use lib.Dec.{eqb, leb, ltb}
use borrow.Author.Tests.{eq-eqb, ne_eqb, lt-ltb, le-leb, lt-leb}
use Rattle.model.specs.declared.Row.{Row}
use Rattle.model.specs.Image.{first, unless, row_at, row_slots, tiers_of, keep_row, tier_check, tier_checks, rising, schema_check, schema_checks}
use Rattle.rows.specs.First.{first_stop, first_on, first_one}
use Rattle.rows.specs.Rows.{rows_to, rows_step, rows_end}
use Rattle.schema.specs.Tiers.{tiers_at}

-- ---- the rows of schema j

module _ (s : List ℕ) (n i j : ℕ) (h : i < n) {r : Row} (is : r ≡ row_at s i) where
  pub tiers-take : r.schema ≡ j → tiers_of j (rows_to s n i) ≡ row_at s i ∷ tiers_of j (rows_to s n (i + 1))
  unfolding tiers_of keep_row
  tiers-take e = rw (rows_step s n i h, eq-eqb _ _ (ap (λ r. r.schema) (sym is) ∙ e))

  pub tiers_skip : (r.schema ≡ j → ⊥) → tiers_of j (rows_to s n (i + 1)) ≡ tiers_of j (rows_to s n i)
  unfolding tiers_of keep_row
  tiers_skip e = sym (rw (rows_step s n i h, ne_eqb _ _ (λ z. e (ap (λ r. r.schema) is ∙ z))))

pub tiers_end : (s : List ℕ) (n i j : ℕ) → n ≤ i → tiers_of j (rows_to s n i) ≡ []
unfolding tiers_of
tiers_end s n i j h = rw (rows_end s n i h)

-- ---- 4, then 5

-- the test that 4 refuses by
abbrev pub spans : Row → Bool
spans r = ltb 0 r.interval && ltb r.interval (2 ^ 63) && ltb 0 r.retention && ltb r.retention (2 ^ 63) && leb r.interval r.retention

module _ (r : Row) where
  pub tier_4 : spans r ≡ false → tier_check r ≡ 4
  unfolding tier_check first unless
  tier_4 e = rw e

  pub tier_5 : spans r ≡ true → 1000000000 < row_slots r → tier_check r ≡ 5
  unfolding tier_check first unless
  tier_5 e h = rw (e, lt-leb _ _ h)

  pub tier_0 : spans r ≡ true → row_slots r ≤ 1000000000 → tier_check r ≡ 0
  unfolding tier_check first unless
  tier_0 e h = rw (e, le-leb _ _ h)

module _ (s : List ℕ) (n i j : ℕ) (h : i < n) {r : Row} (is : r ≡ row_at s i) (e : r.schema ≡ j) where
  taken : tiers_of j (rows_to s n i) ≡ r ∷ tiers_of j (rows_to s n (i + 1))
  taken = tiers-take s n i j h is e ∙ ap (λ q. q ∷ tiers_of j (rows_to s n (i + 1))) (sym is)

  -- by a check f of one tier
  pub tiers_stop : (f : Row → ℕ) {x : ℕ} → x ≡ f r → (x ≡ 0 → ⊥) → x ≡ tier_checks f (tiers_of j (rows_to s n i))
  unfolding tier_checks
  tiers_stop f g z = rw taken (g ∙ sym (first_stop (f r) _ (λ y. z (g ∙ y))))

  pub tiers-on : (f : Row → ℕ) → f r ≡ 0 → tier_checks f (tiers_of j (rows_to s n (i + 1))) ≡ tier_checks f (tiers_of j (rows_to s n i))
  unfolding tier_checks
  tiers-on f g = rw taken (sym (first_on _ g ∙ first_one _))

  -- ---- 6

  pub rising-on : (good : Bool) (p : Row)
      → (good && ltb p.interval r.interval) && rising r (tiers_of j (rows_to s n (i + 1))) ≡ good && rising p (tiers_of j (rows_to s n i))
  unfolding rising
  rising-on good p = rw taken (and_assoc good _ _)

pub checks_end : (f : Row → ℕ) (s : List ℕ) (n i j : ℕ) → n ≤ i → tier_checks f (tiers_of j (rows_to s n i)) ≡ 0
unfolding tier_checks
checks_end f s n i j h = rw (tiers_end s n i j h)

pub rising_end : (s : List ℕ) (n i j : ℕ) (good : Bool) (p : Row) → n ≤ i → good && rising p (tiers_of j (rows_to s n i)) ≡ good
unfolding rising
rising_end s n i j good p h = rw (tiers_end s n i j h) (and-true good)

-- ---- one schema, by where its first tier stands

module _ (f : Row → ℕ) (s : List ℕ) (n j : ℕ) {found : Option ℕ} (e : tiers_of j (rows_to s n 0) ≡ tiers_at s n j found) where
  pub schema_2 : found ≡ None → 2 ≡ schema_check f (tiers_of j (rows_to s n 0))
  unfolding schema_check
  schema_2 m = let z : tiers_of j (rows_to s n 0) ≡ [] = e ∙ ap (tiers_at s n j) m in rw z

  module _ {i : ℕ} (m : found ≡ Some i) {r : Row} (is : r ≡ row_at s i) where
    abbrev rest : List Row
    rest = tiers_of j (rows_to s n (i + 1))

    tiers_are : tiers_of j (rows_to s n 0) ≡ r ∷ rest
    tiers_are = e ∙ ap (tiers_at s n j) m ∙ ap (λ q. q ∷ rest) (sym is)

    pub schema_3 : r.series ≡ 0 → 3 ≡ schema_check f (tiers_of j (rows_to s n 0))
    unfolding schema_check first unless
    schema_3 z = rw (tiers_are, z)

    module _ (a : r.series ≡ 0 → ⊥) where
      past_3 : schema_check f (tiers_of j (rows_to s n 0)) ≡ first (tier_checks f (r ∷ rest) ∷ unless (rising r rest) 6 ∷ unless (eqb r.function 0) 7 ∷ [])
      unfolding schema_check first unless
      past_3 = let z : ltb 0 r.series ≡ true = lt-ltb 0 r.series (omega arith) in rw (tiers_are, z)

      pub schema_tiers : {x : ℕ} → x ≡ tier_checks f (tiers_of j (rows_to s n 0)) → (x ≡ 0 → ⊥) → x ≡ schema_check f (tiers_of j (rows_to s n 0))
      schema_tiers q z = let p = q ∙ ap (tier_checks f) tiers_are in p ∙ sym (past_3 ∙ first_stop (tier_checks f (r ∷ rest)) _ (λ y. z (p ∙ y)))

      -- what is left past the tiers' own checks: 6, then 7
      pub past_tiers : tier_checks f (tiers_of j (rows_to s n 0)) ≡ 0 → {rises : Bool} → rises ≡ rising r rest
          → schema_check f (tiers_of j (rows_to s n 0)) ≡ first (unless rises 6 ∷ unless (eqb r.function 0) 7 ∷ [])
      past_tiers b c = past_3 ∙ first_on _ (ap (tier_checks f) (sym tiers_are) ∙ b) ∙ ap (λ q. first (unless q 6 ∷ unless (eqb r.function 0) 7 ∷ [])) (sym c)

module _ {x : ℕ} (rises : Bool) (function : ℕ) (left : x ≡ first (unless rises 6 ∷ unless (eqb function 0) 7 ∷ [])) where
  pub schema_6 : rises ≡ false → 6 ≡ x
  unfolding first unless
  schema_6 z = sym (left ∙ rw z)

  pub schema_7 : rises ≡ true → (function ≡ 0 → ⊥) → 7 ≡ x
  unfolding first unless
  schema_7 z y = sym (left ∙ rw (z, ne_eqb _ _ y))

  pub schema_0 : rises ≡ true → function ≡ 0 → 0 ≡ x
  unfolding first unless
  schema_0 z y = sym (left ∙ rw (z, eq-eqb _ _ y))

-- ---- the schemas

module _ (f : Row → ℕ) (j k : ℕ) (rs : List Row) (h : j < k) where
  one : schema_checks f j (k - j) rs ≡ first (schema_check f (tiers_of j rs) ∷ schema_checks f (suc j) (k - (j + 1)) rs ∷ [])
  unfolding schema_checks
  one = let e : k - j ≡ suc (k - (j + 1)) = omega arith in rw e

  pub schemas_stop : {x : ℕ} → x ≡ schema_check f (tiers_of j rs) → (x ≡ 0 → ⊥) → x ≡ schema_checks f j (k - j) rs
  schemas_stop e z = e ∙ sym (one ∙ first_stop (schema_check f (tiers_of j rs)) _ (λ y. z (e ∙ y)))

  pub schemas-on : schema_check f (tiers_of j rs) ≡ 0 → schema_checks f (j + 1) (k - (j + 1)) rs ≡ schema_checks f j (k - j) rs
  schemas-on e = sym (one ∙ first_on _ e ∙ first_one _ ∙ rw add-one)

pub schemas_end : (f : Row → ℕ) (j k : ℕ) (rs : List Row) → k ≤ j → schema_checks f j (k - j) rs ≡ 0
unfolding schema_checks
schemas_end f j k rs h = let e : k - j ≡ 0 = omega arith in rw e

pub schemas-all : (f : Row → ℕ) (k : ℕ) (rs : List Row) → schema_checks f 0 (k - 0) rs ≡ schema_checks f 0 k rs
schemas-all f k rs = rw sub-zero
