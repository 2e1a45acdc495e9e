-- The surplus is never read (document 01: "a plan's or image's slice may be longer than it, and the surplus is never read"): opening goes by the image alone,
-- creation by the plan alone. Assumes nothing.
use Prim.Native.Nat.{ℕ, zero, suc, ◌+◌, ◌≤◌}
use Rattle.std.proofs.Common.{arith, sym, ◌∙◌}
use Rattle.std.specs.Prelude.{◌≡◌, Bool, true, false, ◌&&◌, List, [], ◌∷◌, length, eqb}
use Rattle.std.proofs.Math.Path.{refl}
use Rattle.std.proofs.Math.ListN.{take}
use Rattle.std.proofs.Math.Dec.{leb}
use Rattle.laws.specs.Tests.{yes_le, eq_is, split3}
use Rattle.laws.specs.Checks.{each_zero, unless_zero}
use Rattle.model.specs.declared.Row.{Row}
use Rattle.model.specs.Bytes.{part}
use Rattle.model.specs.Image.{tier_check, new_tier_check, unless, first, row_count, total_length, row_place, rows, row_length, slabs_end}
use Rattle.model.specs.Image.{image_length, shape, layout_check, placed, slab_of, sound_all, plan_check, create_check, open_check, fresh_image}
use Rattle.model.specs.Lent.{Lent, wrap_flags, open_on, opening, create_on, creation}
use Rattle.image_theory.specs.Good.{head-inside}
use Rattle.layout.specs.Ends.{ends_ge}
use Rattle.surplus_theory.specs.Agree.{Agree, part_same, count_same, total_same, rows_same, length-same, layout_same, blank-same, shape_same}

-- slabs that are placed within n bytes are the same
sound-same : {n : ℕ} {s t : List ℕ} → Agree n s t → (at : ℕ) (rs : List Row) → placed at rs ≡ true → slabs_end at rs ≤ n → sound_all s rs ≡ sound_all t rs
unfolding sound_all placed slabs_end slab_of
sound-same a at [] p l = refl
sound-same a at (r ∷ rs) p l =
    let q = split3 (eqb r.offset at) (eqb r.len (row_length r)) (placed (at + row_length r) rs) p in
    let o : r.offset ≡ at = eq_is r.offset at q.0 in
    let k : r.len ≡ row_length r = eq_is r.len (row_length r) q.1 in
    let g = ends_ge (at + row_length r) rs in
    rw (part_same a r.offset r.len (omega arith), sound-same a (at + row_length r) rs q.2 l)

flags_same : {n : ℕ} {s t : List ℕ} → Agree n s t → (at : ℕ) (rs : List Row) → placed at rs ≡ true → slabs_end at rs ≤ n → wrap_flags s rs ≡ wrap_flags t rs
unfolding wrap_flags placed slabs_end slab_of
flags_same a at [] p l = refl
flags_same a at (r ∷ rs) p l =
    let q = split3 (eqb r.offset at) (eqb r.len (row_length r)) (placed (at + row_length r) rs) p in
    let o : r.offset ≡ at = eq_is r.offset at q.0 in
    let k : r.len ≡ row_length r = eq_is r.len (row_length r) q.1 in
    let g = ends_ge (at + row_length r) rs in
    rw (part_same a r.offset r.len (omega arith), flags_same a (at + row_length r) rs q.2 l)

-- ---- opening

-- 1 for the places, then 10, for two slices whose slabs are the same where the places are right
last-same : (b x y : Bool) → (b ≡ true → x ≡ y) → first (unless b 1 ∷ unless x 10 ∷ []) ≡ first (unless b 1 ∷ unless y 10 ∷ [])
unfolding first unless
last-same true x y h = rw (h refl)
last-same false x y h = refl

then_same : (a b : ℕ) (xs ys : List ℕ) → first xs ≡ first ys → first (a ∷ b ∷ xs) ≡ first (a ∷ b ∷ ys)
unfolding first
then_same zero zero xs ys e = e
then_same zero (suc b) xs ys e = refl
then_same (suc a) b xs ys e = refl

-- an image that opens has its slabs in place
places : (s : List ℕ) → open_check s ≡ 0 → placed (row_place (row_count s)) (rows s) ≡ true
unfolding open_check
places s e =
    let x = eqb (total_length s) (image_length s) in
    let y = placed (row_place (row_count s)) (rows s) in
    let z = leb (image_length s) (length s) in
    (split3 x y z (unless_zero _ (each_zero _ e 2))).1

-- two slices that hold the same image
pub record SameImage (s t : List ℕ) : Type 0 where
  pub agree : Agree (image_length s) s t
  pub here : image_length s ≤ length s
  pub there : image_length s ≤ length t

module _ {s t : List ℕ} (h : SameImage s t) where
  abbrev a : Agree (image_length s) s t
  a = h.agree

  slabs_same : eqb (total_length s) (image_length s) && placed (row_place (row_count s)) (rows s) && leb (image_length s) (length s) ≡ true → sound_all s (rows s) ≡ sound_all t (rows s)
  slabs_same e =
      let q = split3 (eqb (total_length s) (image_length s)) (placed (row_place (row_count s)) (rows s)) (leb (image_length s) (length s)) e in
      sound-same a (row_place (row_count s)) (rows s) q.1 (unfold image_length in (omega arith))

  long_same : leb (image_length s) (length t) ≡ leb (image_length s) (length s)
  long_same = yes_le (image_length s) (length t) h.there ∙ sym (yes_le (image_length s) (length s) h.here)

  -- they get the same answer
  pub open_same : open_check s ≡ open_check t
  unfolding open_check
  open_same =
      rw (
        ← shape_same a (head-inside s) h.here h.there,
        ← layout_same a (head-inside s) tier_check,
        ← total_same a (head-inside s),
        ← rows_same a (head-inside s),
        ← count_same a (head-inside s),
        ← length-same a (head-inside s),
        long_same,
      )
      (then_same (unless (shape s) 1) (layout_check tier_check s) _ _
      (last-same (eqb (total_length s) (image_length s) && placed (row_place (row_count s)) (rows s) && leb (image_length s) (length s)) (sound_all s (rows s)) (sound_all t (rows s)) slabs_same))

  -- and the same flags
  pub opening-same : (fl : List Bool) → (opening (record { image = s; flags = fl })).flags ≡ (opening (record { image = t; flags = fl })).flags
  unfolding opening
  opening-same fl = rw (← open_same) (go (open_check s) refl)
    where
      go : (k : ℕ) → open_check s ≡ k → (open_on k (record { image = s; flags = fl })).flags ≡ (open_on k (record { image = t; flags = fl })).flags
      go zero e = unfold open_on in (rw (← rows_same a (head-inside s), ← count_same a (head-inside s), flags_same a (row_place (row_count s)) (rows s) (places s e) (unfold image_length in (omega arith))))
      go (suc k) e = unfold open_on in refl

-- ---- creation

-- two slices that hold the same plan
pub record SamePlan (p q : List ℕ) : Type 0 where
  pub agree : Agree (row_place (row_count p)) p q
  pub here : row_place (row_count p) ≤ length p
  pub there : row_place (row_count p) ≤ length q

module _ {p q : List ℕ} (h : SamePlan p q) where
  abbrev b : Agree (row_place (row_count p)) p q
  b = h.agree

  low : row_place (row_count p) ≤ row_place (row_count p)
  low = omega arith

  -- they get the same answer
  pub create_same : (buf : List ℕ) → create_check p buf ≡ create_check q buf
  unfolding create_check plan_check
  create_same buf = rw (← shape_same b low h.here h.there, ← blank-same b low, ← layout_same b low new_tier_check, ← length-same b low)

  fresh-same : fresh_image p ≡ fresh_image q
  unfolding fresh_image
  fresh-same = rw (← length-same b low, ← rows_same b low, ← count_same b low, front)
    where
      front : take 16 p ≡ take 16 q
      front = unfold part in (part_same b 0 16 (unfold row_place in (omega arith)))

  -- and the same bytes and flags
  pub creation-same : (l : Lent) → creation p l ≡ creation q l
  unfolding creation
  creation-same l = rw (← create_same l.image) (go (create_check p l.image))
    where
      go : (k : ℕ) → create_on k p l ≡ create_on k q l
      go zero = unfold create_on in (rw (fresh-same, length-same b low, count_same b low))
      go (suc k) = unfold create_on in refl
