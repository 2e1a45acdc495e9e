-- An opening works out the flag of every ring, and leaves its slab and every byte; the flags past the rows are those that it is handed. And what a call leaves
-- of what it is handed, which every call does (proofs/Calls.antt). Assumes nothing.
use Rattle.std.specs.Prelude.{ℕ, zero, suc, ◌+◌, ◌-◌, ◌≤◌, ◌<◌, ◌≡◌, Bool, false, List, [], ◌∷◌, ◌++◌, length, get_or, drop}
use Rattle.std.proofs.Common.{add-zero, ap, ◌∙◌, length-append, length-drop, get_or-append-add, get_or-drop}
use native.Mathlib.Omega.{arith}
use Rattle.std.proofs.Math.Path.{refl}
use Rattle.model.specs.Bytes.{part}
use Rattle.model.specs.Image.{row_count, row_at, rows_from, rows, slab_of, image_length, open_check}
use Rattle.model.specs.Ring.{wrap_flag}
use Rattle.model.specs.Lent.{Lent, row, ring, wrap_flags, open_on, opening}
use Rattle.model.specs.Store.{Call, Deed, reads, records, records_all, runs, opens, deed, call, after}
use Rattle.image_theory.specs.Good.{Good, SameRows, open_good}
use Rattle.image_theory.specs.Stays.{kept_refl}

-- ---- opening

-- it changes no byte
pub opened_image : (l : Lent) → (opening l).image ≡ l.image
unfolding opening
opened_image l = go (open_check l.image)
  where
    go : (n : ℕ) → (open_on n l).image ≡ l.image
    go zero = unfold open_on in refl
    go (suc n) = unfold open_on in refl

flag_at : (s : List ℕ) (rest : List Bool) (i k j : ℕ) → j < k → get_or (wrap_flags s (rows_from s i k) ++ rest) j false ≡ wrap_flag (slab_of s (row_at s (i + j)))
unfolding wrap_flags rows_from
flag_at s rest i zero j h = absurd (omega arith)
flag_at s rest i (suc k) zero h = rw (add-zero i) refl
flag_at s rest i (suc k) (suc j) h = let e : i + suc j ≡ suc i + j = omega arith in rw e (flag_at s rest (suc i) k j (omega arith))

flags_long : (s : List ℕ) (i k : ℕ) → length (wrap_flags s (rows_from s i k)) ≡ k
unfolding wrap_flags rows_from
flags_long s i zero = refl
flags_long s i (suc k) = ap suc (flags_long s (suc i) k)

module _ (l : Lent) (g : Good l.image) where
  abbrev R : ℕ
  R = row_count l.image

  -- the rows' flags, worked out
  abbrev own : List Bool
  own = wrap_flags l.image (rows_from l.image 0 R)

  flags_are : (opening l).flags ≡ own ++ drop R l.flags
  unfolding opening open_on rows
  flags_are = rw (open_good l.image g)

  flags_many : length (opening l).flags ≡ R + (length l.flags - R)
  flags_many = rw (flags_are, length-append own (drop R l.flags), flags_long l.image 0 R, length-drop R l.flags)

  -- each row has a flag then, and the flags past the rows are those handed
  pub opened_flags : R ≤ length (opening l).flags
  opened_flags = omega (arith, flags_many)

  pub opened_past : (j : ℕ) → R ≤ j → get_or (opening l).flags j false ≡ get_or l.flags j false
  opened_past j h =
      let e : j ≡ length own + (j - R) = omega (arith, flags_long l.image 0 R) in
      let f : R + (j - R) ≡ j = omega arith in
      ap (λ (fs : List Bool). get_or fs j false) flags_are ∙ ap (λ (i : ℕ). get_or (own ++ drop R l.flags) i false) e
      ∙ get_or-append-add own (drop R l.flags) (j - R) false ∙ get_or-drop R l.flags (j - R) false ∙ ap (λ (i : ℕ). get_or l.flags i false) f

  -- a ring's slab is as it was, its flag worked out
  pub ring-opened : (i : ℕ) → i < R → ring (opening l) i ≡ record { slab = (ring l i).slab; wrapped = wrap_flag (ring l i).slab }
  unfolding ring row
  ring-opened i h =
      let z : 0 + i ≡ i = omega arith in
      rw (opened_image l, flags_are, flag_at l.image (drop R l.flags) 0 R i h, z)

-- ---- what a call leaves of what it is handed

-- l' after l, as in Stays; but where l has too few flags for its rows, there may be more of them in l'
pub record Leaves (l l' : Lent) : Type 0 where
  pub good : Good l'.image
  pub image_is : SameRows l'.image l.image
  pub surplus_is : (p w : ℕ) → image_length l.image ≤ p → part l'.image p w ≡ part l.image p w
  pub flags_are : row_count l.image ≤ length l.flags → length l'.flags ≡ length l.flags
  pub flags_past : (j : ℕ) → row_count l.image ≤ j → get_or l'.flags j false ≡ get_or l.flags j false

pub leaves_opening : (l : Lent) → Good l.image → Leaves l (opening l)
leaves_opening l g = record {
  good = rw (opened_image l) g;
  image_is = rw (opened_image l) (kept_refl l.image);
  surplus_is = λ p w h. rw (opened_image l);
  flags_are = λ h. omega (arith, flags_many l g);
  flags_past = opened_past l g;
}

-- the flags that a call is handed where fs are lent: an opening has its own
abbrev pub flags_by : List Bool → Deed → List Bool
flags_by fs (reads reply) = fs
flags_by fs (records k c v t) = fs
flags_by fs (records_all es t) = fs
flags_by fs runs = fs
flags_by fs (opens gs) = gs

abbrev pub flags_to : List Bool → Call → List Bool
flags_to fs c = flags_by fs (deed c)

abbrev pub handed : Lent → Call → Lent
handed l c = record { image = l.image; flags = flags_to l.flags c }

-- ---- lists of calls

-- one list, then another
pub after-append : (cs : List Call) (l : Lent) (ds : List Call) → after l (cs ++ ds) ≡ after (after l cs) ds
unfolding after
after-append [] l ds = refl
after-append (c ∷ cs) l ds = after-append cs (call l c).lent ds
