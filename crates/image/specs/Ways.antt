-- The ways through the checks of an image and of a plan: where each stops, and where it goes on. Assumes nothing.
use Rattle.std.specs.Prelude.{ℕ, ◌+◌, ◌*◌, ◌≤◌, ◌<◌, ◌≡◌, Bool, true, false, ◌&&◌, List, [], ◌∷◌, length, eqb, leb}
use Rattle.std.proofs.Math.Path.{refl, sym}
use Rattle.std.proofs.Common.{◌∙◌}
use borrow.Author.Tests.{le-leb, lt-leb, leb-true}
use Rattle.model.specs.declared.Row.{Row}
use Rattle.model.specs.Bytes.{get}
use Rattle.model.specs.Image.{tier_check, new_tier_check, first, unless, shape, blank, schemas, row_count, row_place, total_length, image_length, slabs_end, placed, sound_all, schema_checks, layout_check, plan_check, open_check}
use Rattle.laws.specs.Tests.{and_left}
use Rattle.laws.specs.Checks.{each_zero, unless_zero}
use Rattle.rows.specs.First.{first_stop, first_on, first_one, unless-on, unless_stop}
use Rattle.rows.specs.Rows.{rows_to, rows_all}

module _ (s : List ℕ) where
  pub length-is : image_length s ≡ slabs_end (32 + 64 * row_count s) (rows_to s (row_count s) 0)
  unfolding image_length row_place
  length-is = rw (rows_all s)

  -- ---- 2 to 8, by a check f of one tier

  abbrev R : List Row
  R = rows_to s (row_count s) 0

  pub layout_schemas : (f : Row → ℕ) {x : ℕ} → x ≡ schema_checks f 0 (schemas s) R → (x ≡ 0 → ⊥) → x ≡ layout_check f s
  unfolding layout_check
  layout_schemas f e g = rw (← rows_all s) (e ∙ sym (first_stop (schema_checks f 0 (schemas s) R) _ (λ z. g (e ∙ z))))

  module _ (f : Row → ℕ) (e : schema_checks f 0 (schemas s) R ≡ 0) where
    past_schemas : layout_check f s ≡ unless (leb (image_length s) 1099511627776) 8
    unfolding layout_check
    past_schemas = rw (← rows_all s) (first_on _ e ∙ first_one _)

    pub layout_8 : 1099511627776 < image_length s → 8 ≡ layout_check f s
    layout_8 h = sym (past_schemas ∙ unless_stop 8 (lt-leb _ _ h))

    pub layout_0 : image_length s ≤ 1099511627776 → 0 ≡ layout_check f s
    layout_0 h = sym (past_schemas ∙ unless-on 8 (le-leb _ _ h))

  pub layout_fits : (f : Row → ℕ) → layout_check f s ≡ 0 → image_length s ≤ 1099511627776
  unfolding layout_check
  layout_fits f e = leb-true _ _ (unless_zero _ (each_zero _ e 1))

  -- ---- a plan

  pub plan-shape : shape s ≡ false → 1 ≡ plan_check s
  unfolding plan_check first unless
  plan-shape e = rw e

  pub plan-blank : shape s ≡ true → blank s ≡ false → 1 ≡ plan_check s
  unfolding plan_check first unless
  plan-blank e f = rw (e, f)

  pub plan_layout : shape s ≡ true → blank s ≡ true → layout_check tier_check s ≡ plan_check s
  unfolding plan_check unless new_tier_check
  plan_layout e f = rw (e, f) (sym (first_on _ refl ∙ first_one (layout_check tier_check s)))

  -- a plan that passed is in shape, and its image is no longer than 2^40
  pub plan-parts : plan_check s ≡ 0 → (shape s ≡ true) × (image_length s ≤ 1099511627776)
  unfolding plan_check
  plan-parts e =
      let z = each_zero _ e in
      (and_left (shape s) (blank s) (unless_zero _ (z 0)), layout_fits new_tier_check (z 1))

  -- ---- an image

  -- total length, offsets, slab lengths and the slice's length
  abbrev pub right : Bool
  right = eqb (total_length s) (image_length s) && placed (32 + 64 * row_count s) R && leb (image_length s) (length s)

  -- the same by what code reads and works out, of a table of n rows in b
  module _ {b : List ℕ} {n : ℕ} (is : b ≡ s) (count : n ≡ get 4 s 12) where
    pub right_is : {t l : ℕ} {p : Bool} → t ≡ get 8 s 16 → l ≡ image_length s → p ≡ placed (32 + 64 * n) (rows_to b n 0)
        → right ≡ eqb t l && p && leb l (length s)
    unfolding total_length row_count
    right_is f g h = rw (h, is, count, f, g)

    pub ends_are : slabs_end (32 + 64 * n) (rows_to b n 0) ≡ image_length s
    unfolding row_count
    ends_are = rw (is, count) (sym length-is)

    pub sounds_are : {x : Bool} → x ≡ sound_all b (rows_to b n 0) → sound_all s R ≡ x
    unfolding row_count
    sounds_are f = rw (f, is, count)

  pub open_shape : shape s ≡ false → 1 ≡ open_check s
  unfolding open_check first unless
  open_shape e = rw e

  module _ (e : shape s ≡ true) where
    pub open_layout : {x : ℕ} → x ≡ layout_check tier_check s → (x ≡ 0 → ⊥) → x ≡ open_check s
    unfolding open_check unless
    open_layout f g = rw e (f ∙ sym (first_on _ refl ∙ first_stop (layout_check tier_check s) _ (λ z. g (f ∙ z))))

    module _ (f : layout_check tier_check s ≡ 0) where
      past_layout : open_check s ≡ first (unless right 1 ∷ unless (sound_all s R) 10 ∷ [])
      unfolding open_check unless row_place
      past_layout = rw (e, ← rows_all s) (first_on _ refl ∙ first_on _ f)

      pub open_places : right ≡ false → 1 ≡ open_check s
      unfolding first unless
      open_places g = sym (past_layout ∙ rw g)

      pub open_slabs : right ≡ true → sound_all s R ≡ false → 10 ≡ open_check s
      unfolding first unless
      open_slabs g h = sym (past_layout ∙ rw (g, h))

      pub open_all : right ≡ true → sound_all s R ≡ true → 0 ≡ open_check s
      unfolding first unless
      open_all g h = sym (past_layout ∙ rw (g, h))
