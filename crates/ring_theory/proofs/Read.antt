-- Reading a ring that took numbers without gaps: its ends are the first held number's stamp and the newest's; a complete column gives a point for each
-- held number in the range, ascending; a column without a value gives none. Assumes nothing.
use Prim.Native.Nat.{ℕ, zero, suc, ◌+◌, ◌-◌, ◌*◌, ◌%◌, ◌≤◌, ◌<◌, max}
use Rattle.std.proofs.Common.{mod-lt, mul-pos, ap, ◌∙◌}
use native.Mathlib.Omega.{arith}
use Rattle.std.proofs.Math.Decide.{dec_lt}
use Rattle.std.specs.Prelude.{◌≡◌, false, ◌&&◌, leb, Some, None}
use Rattle.std.proofs.Math.Path.{refl}
use Rattle.std.proofs.Math.Bool.{and-false}
use mathlib.Core.List.{List, [], ◌∷◌, ◌++◌, append-nil}
use Rattle.std.proofs.Math.Dec.{ltb}
use Rattle.model.specs.declared.Point.{Point}
use Rattle.model.specs.Layout.{fresh_value}
use Rattle.model.specs.Ring.{Ring, cursor, stamp, cell, order, is_nan_bits, newest, oldest, end_of, or_stamp, first_stamp}
use Rattle.model.specs.Read.{is_handed, points_of}
use Rattle.model.specs.Query.{reader_on}
use Rattle.laws.specs.Tests.{yes_le, yes_lt, no_le, no_lt}
use Rattle.ring_theory.specs.Numbers.{slots_of, slots_cut}
use Rattle.ring_theory.specs.Sound.{some_slots}
use Rattle.ring_theory.specs.Points.{keep, points_in, points}
use Rattle.ring_theory.proofs.Points.{points-append, reader_points}
use Rattle.ring_theory.specs.Column.{Col, keeps_before}
use Rattle.ring_theory.specs.Hold.{State, newest_slot, first_held, order_none, Reads}
use Rattle.ring_theory.proofs.Hold.{reads}
use Rattle.ring_theory.specs.Read.{pts, InRange, range_all}

-- ---- slots that hand out nothing, and slots that hand out a point each

module _ (s : List ℕ) (n c lo hi : ℕ) where
  skips : (q k : ℕ) → ((p : ℕ) → q ≤ p → p < q + k → is_handed s c lo hi (p % n) ≡ false) → points_in s c lo hi (slots_of n q k) ≡ []
  unfolding points_in slots_of keep
  skips q zero h = refl
  skips q (suc k) h = rw (h q (omega arith) (omega arith)) (skips (suc q) k (λ p x y. h p (omega arith) (omega arith)))

  takes : (X : ℕ → ℕ) (d q k : ℕ) → ((p : ℕ) → q ≤ p → p < q + k → (stamp s (p % n) ≡ p * d) × (cell s c (p % n) ≡ X p) × (is_nan_bits (X p) ≡ false) × (lo ≤ p * d) × (p * d < hi))
      → points_in s c lo hi (slots_of n q k) ≡ pts X d q k
  unfolding points_in slots_of keep pts is_handed
  takes X d q zero h = refl
  takes X d q (suc k) h =
      let f = h q (omega arith) (omega arith) in
      rw (f.0, f.1, f.2, yes_le lo (q * d) f.3, yes_lt (q * d) hi f.4)
      (ap (λ (l : List Point). record { stamp = q * d; value = X q } ∷ l) (takes X d (suc q) k (λ p x y. h p (omega arith) (omega arith))))

  -- a slot whose stamp is out of the range, or whose value is fresh
  out_stamp : (i : ℕ) → (leb lo (stamp s i) && ltb (stamp s i) hi) ≡ false → is_handed s c lo hi i ≡ false
  unfolding is_handed
  out_stamp i e = rw e

  pub out_fresh : (i : ℕ) → cell s c i ≡ fresh_value → is_handed s c lo hi i ≡ false
  unfolding is_handed is_nan_bits fresh_value
  out_fresh i e = rw e (and-false (leb lo (stamp s i) && ltb (stamp s i) hi))

-- ---- the stamps in reading order

module _ {r : Ring} {n m d a e : ℕ} (st : State r n m d a e) (R : Reads r n a e) where
  zn : 0 < n
  zn = some_slots st.slab-is.sound

  -- a number before the first: its slot is fresh
  pub read-fresh : (p : ℕ) → R.from ≤ p → p < a → stamp r.slab (p % n) ≡ 0
  read-fresh p x y = keeps_before zn st.stamps p y (omega (arith, R.ends, R.fits))

  pub read_held : (p : ℕ) → R.from ≤ p → a ≤ p → p < a + e → stamp r.slab (p % n) ≡ p * d
  read_held p x y z = st.stamps.has p y z (omega (arith, R.ends, R.fits))

  -- the reading in three parts, cut at numbers g and h
  pub read_cut : (g h : ℕ) → first_held n a e ≤ g → g ≤ h → h ≤ a + e → order r ≡ slots_of n R.from (g - R.from) ++ (slots_of n g (h - g) ++ slots_of n h (a + e - h))
  read_cut g h x y z =
      let i : g + (a + e - g) ≡ a + e = omega arith in
      let j : R.from + R.many - g ≡ a + e - g = omega (arith, R.ends) in
      R.order_is ∙ slots_cut n R.from R.many g (omega (arith, R.back)) (omega (arith, R.ends))
      ∙ ap (λ (l : List ℕ). slots_of n R.from (g - R.from) ++ l) (ap (slots_of n g) j ∙ slots_cut n g (a + e - g) h y (omega arith) ∙ ap (λ (x : ℕ). slots_of n g (h - g) ++ slots_of n h (x - h)) i)

  module _ {lo hi g h : ℕ} (rg : InRange d lo hi (first_held n a e) (a + e) g h) where
    -- a held number before g
    held_out : (p : ℕ) → R.from ≤ p → a ≤ p → p < a + e → p < g → (leb lo (stamp r.slab (p % n)) && ltb (stamp r.slab (p % n)) hi) ≡ false
    unfolding first_held
    held_out p x y z l = rw (read_held p x y z, no_le lo (p * d) (rg.early p (omega (arith, R.ends, R.fits)) l))

    -- a number that is read before g: fresh, or too early
    pub early_out : 0 < lo → (p : ℕ) → R.from ≤ p → p < g → (leb lo (stamp r.slab (p % n)) && ltb (stamp r.slab (p % n)) hi) ≡ false
    early_out zl p x y = go (dec_lt p a)
      where
        go : Dec (p < a) → (leb lo (stamp r.slab (p % n)) && ltb (stamp r.slab (p % n)) hi) ≡ false
        go (yes q) = rw (read-fresh p x q, no_le lo 0 zl)
        go (no q) = held_out p x (omega arith) (omega (arith, rg.rising, rg.last)) y

    pub late_out : (p : ℕ) → h ≤ p → p < a + e → (leb lo (stamp r.slab (p % n)) && ltb (stamp r.slab (p % n)) hi) ≡ false
    unfolding first_held
    late_out p l z =
        let f : a ≤ p = omega (arith, rg.first, rg.rising) in
        let b : R.from ≤ p = omega (arith, rg.first, rg.rising, R.back) in
        rw (read_held p b f z, no_lt (p * d) hi (rg.late p l z)) (and-false (leb lo (p * d)))

    pub held_in_lem : (p : ℕ) → g ≤ p → p < h → (stamp r.slab (p % n) ≡ p * d) × (lo ≤ p * d) × (p * d < hi)
    unfolding first_held
    held_in_lem p l u =
        let i = rg.inside p l u in
        (read_held p (omega (arith, rg.first, R.back)) (omega (arith, rg.first)) (omega (arith, rg.last)), i.0, i.1)

-- ---- the points of a column

module _ {r : Ring} {n m d a e : ℕ} (st : State r n m d a e) (pa : 0 < a) (c : ℕ) where
  -- a column without a value
  pub points_none : (lo hi : ℕ) → ((i : ℕ) → i < n → cell r.slab c i ≡ fresh_value) → points r c lo hi ≡ []
  unfolding points
  points_none lo hi h =
      let R = reads st pa in
      rw R.order_is (skips r.slab n c lo hi R.from R.many (λ p x y. out_fresh r.slab n c lo hi (p % n) (h (p % n) (mod-lt p (some_slots st.slab-is.sound)))))

  -- a complete column without a NaN
  pub points_range : {lo hi g h : ℕ} (X : ℕ → ℕ) → Col (cell r.slab c) n a e X → ((q : ℕ) → g ≤ q → q < h → is_nan_bits (X q) ≡ false)
      → InRange d lo hi (first_held n a e) (a + e) g h → points r c lo hi ≡ pts X d g (h - g)
  unfolding points first_held
  points_range {lo} {hi} {g} {h} X col num rg =
      rw (
        read_cut st R g h rg.first rg.rising rg.last,
        points-append r.slab c lo hi (slots_of n R.from (g - R.from)) (slots_of n g (h - g) ++ slots_of n h (a + e - h)),
        points-append r.slab c lo hi (slots_of n g (h - g)) (slots_of n h (a + e - h)),
        skips r.slab n c lo hi R.from (g - R.from) (λ p x y. before p x (omega arith) (dec_lt p a)),
        skips r.slab n c lo hi h (a + e - h) (λ p x y. out_stamp r.slab n c lo hi (p % n) (late_out st R rg p x (omega arith))),
        takes r.slab n c lo hi X d g (h - g) (λ p x y. inside p x (omega arith)),
      ) (append-nil (pts X d g (h - g)))
    where
      R : Reads r n a e
      R = reads st pa

      before : (p : ℕ) → R.from ≤ p → p < g → Dec (p < a) → is_handed r.slab c lo hi (p % n) ≡ false
      before p x y (yes q) = out_fresh r.slab n c lo hi (p % n) (keeps_before (some_slots st.slab-is.sound) col p q (omega (arith, R.ends, R.fits)))
      before p x y (no q) = out_stamp r.slab n c lo hi (p % n) (held_out st R rg p x (omega arith) (omega (arith, rg.rising, rg.last)) y)

      inside : (p : ℕ) → g ≤ p → p < h → (stamp r.slab (p % n) ≡ p * d) × (cell r.slab c (p % n) ≡ X p) × (is_nan_bits (X p) ≡ false) × (lo ≤ p * d) × (p * d < hi)
      inside p x y =
          let i = held_in_lem st R rg p x y in
          (i.0, col.has p (omega (arith, rg.first)) (omega (arith, rg.last)) (omega (arith, rg.first)), num p x y, i.1, i.2)

  -- what a query of such a column over all time hands out: a point for each held number, the newest last
  pub all-points : (X : ℕ → ℕ) (hi : ℕ) → c < m → Col (cell r.slab c) n a e X → ((q : ℕ) → a ≤ q → q < a + e → is_nan_bits (X q) ≡ false) → ((q : ℕ) → q < a + e → q * d < hi)
      → points_of (reader_on r c 0 hi) ≡ pts X d (first_held n a e) (a + e - first_held n a e)
  all-points X hi hc col num top =
      let l : (a ≤ first_held n a e) × (first_held n a e ≤ a + e) = unfold first_held in (omega arith, omega arith) in
      reader_points r st.slab-is.sound c 0 hi hc
      ∙ points_range X col (λ q x y. num q (omega (arith, l.0)) y) (range_all d hi (first_held n a e) (a + e) l.1 top)

-- ---- the ends

end_at : (x : ℕ) → 0 < x → end_of x ≡ Some x
unfolding end_of
end_at zero h = absurd (omega arith)
end_at (suc x) h = refl

or-here : (x t : ℕ) → 0 < x → or_stamp x t ≡ x
unfolding or_stamp
or-here zero t h = absurd (omega arith)
or-here (suc x) t h = refl

-- an empty ring lacks both
pub no_ends : {r : Ring} {n m d a : ℕ} → State r n m d a 0 → (newest r ≡ None) × (oldest r ≡ None)
unfolding newest oldest end_of first_stamp newest_slot
no_ends {r} st =
    let e : stamp r.slab (cursor r.slab) ≡ 0 = rw st.cursor-is (st.stamps.none 0 (some_slots st.slab-is.sound) (λ q x y. absurd (omega arith))) in
    (rw e, rw (order_none r e))

module _ {r : Ring} {n m d a k : ℕ} (st : State r n m d a (suc k)) (pa : 0 < a) where
  pub newest-is : newest r ≡ Some ((a + k) * d)
  unfolding newest newest_slot
  newest-is =
      let e : stamp r.slab (cursor r.slab) ≡ (a + k) * d =
      rw st.cursor-is (st.stamps.has (a + k) (omega arith) (omega arith) (omega (arith, some_slots st.slab-is.sound))) in
      rw e (end_at ((a + k) * d) (mul-pos (omega arith) st.slab-is.long))

  first_skips : (q j : ℕ) (rest : List ℕ) → ((p : ℕ) → q ≤ p → p < q + j → stamp r.slab (p % n) ≡ 0) → first_stamp r.slab (slots_of n q j ++ rest) ≡ first_stamp r.slab rest
  unfolding first_stamp slots_of or_stamp
  first_skips q zero rest h = refl
  first_skips q (suc j) rest h = rw (h q (omega arith) (omega arith)) (first_skips (suc q) j rest (λ p x y. h p (omega arith) (omega arith)))

  pub oldest-is : oldest r ≡ Some (first_held n a (suc k) * d)
  unfolding oldest first_held
  oldest-is =
      rw (
        read_cut st R (max a (a + suc k - n)) (a + suc k) (omega arith) (omega arith) (omega arith),
        first_skips R.from (g - R.from) (slots_of n g (a + suc k - g) ++ slots_of n (a + suc k) (a + suc k - (a + suc k))) (λ p x y. read-fresh st R p x (omega (arith, R.ends, R.fits))),
        here,
      ) (end_at (g * d) pos)
    where
      R : Reads r n a (suc k)
      R = reads st pa

      zn : 0 < n
      zn = some_slots st.slab-is.sound

      g : ℕ
      g = max a (a + suc k - n)

      pos : 0 < g * d
      pos = mul-pos (omega arith) st.slab-is.long

      at : stamp r.slab (g % n) ≡ g * d
      at = st.stamps.has g (omega arith) (omega arith) (omega arith)

      here : first_stamp r.slab (slots_of n g (a + suc k - g) ++ slots_of n (a + suc k) (a + suc k - (a + suc k))) ≡ g * d
      here = let e : a + suc k - g ≡ suc (a + k - g) = omega arith in rw e (unfold first_stamp slots_of in (rw at (or-here (g * d) _ pos)))
