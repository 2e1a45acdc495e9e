-- Stamps that stand in their own slots go round the ring in passes, counted from the slot behind the cursor, or from slot 0 where the flag is not set; the
-- newest stamp's pass is its lap. Where a later stamp is read before an earlier one, its pass is later too, and a lap of one of the two lies between the
-- passes. Assumes nothing.
use Rattle.std.specs.Prelude.{ℕ, zero, suc, ◌+◌, ◌-◌, ◌*◌, ◌/◌, ◌%◌, ◌≤◌, ◌<◌, ◌≡◌, refl, ◌⊎◌, ◌≢◌, Bool, List, [], ◌∷◌}
use Rattle.std.proofs.Math.Nat.{suc-mul, add-mul-mod_self_right, mod-lt, mod_self, add-mod_left, mod-eq-sub-mod, mod-add-div', lt-div-mul-add}
use Rattle.std.proofs.Common.{zero-mul, mul-zero, mul_comm, mul_assoc, add-mul, mul-le-mul_right, mod-eq_of_lt, div-mul-le_self, sym, ap, ◌∙◌, subst, inl, inr}
use native.Mathlib.Omega.{arith}
use Rattle.std.proofs.Math.Decide.{dec_lt, ℕ_discrete}
use Rattle.std.proofs.Math.Bool.{true, false, cond}
use Rattle.model.specs.Ring.{Ring, slots, cursor, walk, is_empty, first_place, order}
use Rattle.laws.specs.Windows.{div_mono}
use Rattle.ring_theory.specs.Numbers.{slots_of, walk_is, div_is}
use Rattle.strand_theory.specs.Cuts.{In, Before}

-- ---- passes: the numbers stamp / interval in a ring of n slots, the first pass starting at the number g

-- the pass of the number x
pub pass_of : ℕ → ℕ → ℕ → ℕ
pass_of n g x = (x + (n - g)) / n

pub pass_mono : (n g : ℕ) {x y : ℕ} → x ≤ y → pass_of n g x ≤ pass_of n g y
unfolding pass_of
pass_mono n g h = div_mono n (omega arith)

module _ (n g : ℕ) (z : 0 < n) (hg : g ≤ n) where
  -- a number in a slot before g has its lap for a pass, one in a slot from g on has the next
  pub pass-before : (x : ℕ) → x % n < g → pass_of n g x ≡ x / n
  unfolding pass_of
  pass-before x h = div_is (x / n) n (x + (n - g)) (omega (arith, mod-add-div' x n)) (omega (arith, suc-mul (x / n) n, mod-add-div' x n))

  pass-from : (x : ℕ) → g ≤ x % n → pass_of n g x ≡ suc (x / n)
  unfolding pass_of
  pass-from x h =
      div_is (suc (x / n)) n (x + (n - g)) (omega (arith, suc-mul (x / n) n, mod-add-div' x n))
      (omega (arith, suc-mul (x / n) n, suc-mul (suc (x / n)) n, mod-add-div' x n, mod-lt x z))

  -- the later of two numbers, in the lower slot, has a later lap
  later_lap : (x y : ℕ) → y ≤ x → x % n < y % n → y / n < x / n
  later_lap x y h l = go (dec_lt (y / n) (x / n))
    where
      go : Dec (y / n < x / n) → y / n < x / n
      go (yes k) = k
      go (no k) = let j : x / n ≤ y / n = omega arith in absurd (omega (arith, mul-le-mul_right n j, mod-add-div' x n, mod-add-div' y n))

-- ---- the lap that lies between the passes

-- slot i is read before slot j: they are the slots of two of the n numbers from g on
pub record Ahead (n g i j : ℕ) : Type 0 where
  pub u : ℕ
  pub v : ℕ
  pub first : g ≤ u
  pub rising : u < v
  pub last : v < g + n
  pub i-is : i ≡ u % n
  pub j_is : j ≡ v % n

-- the lap of x or of y, from the pass of y on and before the pass of x
pub record Between (n g x y : ℕ) : Type 0 where
  pub lap : ℕ
  pub lap_is : (lap ≡ x / n) ⊎ (lap ≡ y / n)
  pub from : pass_of n g y ≤ lap
  pub under : lap < pass_of n g x

-- a number's slot, less than once or less than twice round
near : (n u : ℕ) → u < n → u % n ≡ u
near n u h = mod-eq_of_lt h

far : (n u : ℕ) → n ≤ u → u < n + n → u % n ≡ u - n
far n u h l = let k : u - n < n = omega arith in mod-eq-sub-mod h ∙ mod-eq_of_lt k

pub between : (n g x y : ℕ) → 0 < n → g ≤ n → Ahead n g (x % n) (y % n) → y ≤ x → Between n g x y
between n g x y z hg a le = go (dec_lt a.v n) (dec_lt a.u n)
  where
    go : Dec (a.v < n) → Dec (a.u < n) → Between n g x y
    go (yes v) w =
        let j : y % n ≡ a.v = a.j_is ∙ near n a.v v in
        let i : x % n ≡ a.u = a.i-is ∙ near n a.u (omega (arith, a.rising)) in
        let less : y / n < x / n = later_lap n g z hg x y le (omega (arith, j, i, a.rising)) in
        let px = pass-from n g z hg x (omega (arith, i, a.first)) in
        let py = pass-from n g z hg y (omega (arith, j, a.first, a.rising)) in
        record { lap = x / n; lap_is = inl refl; from = omega (arith, py, less); under = omega (arith, px) }
    go (no v) (yes w) =
        let j : y % n ≡ a.v - n = a.j_is ∙ far n a.v (omega arith) (omega (arith, a.last)) in
        let i : x % n ≡ a.u = a.i-is ∙ near n a.u w in
        let px = pass-from n g z hg x (omega (arith, i, a.first)) in
        let py = pass-before n g z hg y (omega (arith, j, a.last)) in
        record { lap = y / n; lap_is = inr refl; from = omega (arith, py); under = omega (arith, px, div_mono n le) }
    go (no v) (no w) =
        let j : y % n ≡ a.v - n = a.j_is ∙ far n a.v (omega arith) (omega (arith, a.last)) in
        let i : x % n ≡ a.u - n = a.i-is ∙ far n a.u (omega arith) (omega (arith, a.last, a.rising)) in
        let less : y / n < x / n = later_lap n g z hg x y le (omega (arith, j, i, a.rising)) in
        let px = pass-before n g z hg x (omega (arith, i, a.last, a.rising)) in
        let py = pass-before n g z hg y (omega (arith, j, a.last)) in
        record { lap = y / n; lap_is = inr refl; from = omega (arith, py); under = omega (arith, px, less) }

-- ---- how many passes back

-- a slot that is read is that of one of the numbers from g up to the cursor's, n + c. A number there, less than m rounds before one of the cursor's, has a pass less
-- than m before that one's lap
pub near_pass : (n g c m x y v : ℕ) → c < g → g ≤ n → x % n ≡ v % n → g ≤ v → v ≤ n + c → y % n ≡ c → y < x + m * n → y / n < pass_of n g x + m
near_pass n g c m x y v hc hg xv lo hi yc less = go (dec_lt v n) (dec_lt (y / n) (pass_of n g x + m))
  where
    z : 0 < n
    z = omega (arith, hc, hg)

    go : Dec (v < n) → Dec (y / n < pass_of n g x + m) → y / n < pass_of n g x + m
    go w (yes h) = h
    go (yes w) (no h) =
        let i : x % n ≡ v = xv ∙ near n v w in
        let p = pass-from n g z hg x (omega (arith, i, lo)) in
        let l : suc (x / n) + m ≤ y / n = omega (arith, p, h) in
        absurd (omega (arith, mul-le-mul_right n l, add-mul (suc (x / n)) m n, suc-mul (x / n) n, mod-add-div' x n, mod-add-div' y n, mod-lt x z, less))
    go (no w) (no h) =
        let i : x % n ≡ v - n = xv ∙ far n v (omega arith) (omega (arith, hi, hc, hg)) in
        let p = pass-before n g z hg x (omega (arith, i, hi, hc)) in
        let l : x / n + m ≤ y / n = omega (arith, p, h) in
        absurd (omega (arith, mul-le-mul_right n l, add-mul (x / n) m n, mod-add-div' x n, mod-add-div' y n, i, hi, yc, less))

-- a stamp less than m rounds behind another, by their numbers: the numbers lie m rounds apart at most, and fewer where their slots are not the same
pub near_number : (d n m t u : ℕ) → u < t + m * (d * n) → t < u → t / d % n ≢ u / d % n → u / d < t / d + m * n
near_number zero n m t u less rise other = absurd (omega (arith, less, rise, zero-mul n, ap (λ (x : ℕ). m * x) (zero-mul n), mul-zero m))
near_number (suc d) n m t u less rise other = go (ℕ_discrete (u / suc d) (t / suc d + m * n)) (dec_lt (u / suc d) (suc (t / suc d + m * n)))
  where
    z : 0 < suc d
    z = omega arith

    same : m * (suc d * n) ≡ m * n * suc d
    same = ap (λ (x : ℕ). m * x) (mul_comm (suc d) n) ∙ sym (mul_assoc m n (suc d))

    go : Dec (u / suc d ≡ t / suc d + m * n) → Dec (u / suc d < suc (t / suc d + m * n)) → u / suc d < t / suc d + m * n
    go (yes e) w = absurd (other (sym (ap (λ (x : ℕ). x % n) e ∙ add-mul-mod_self_right (t / suc d) m n)))
    go (no e) (yes h) = omega arith
    go (no e) (no h) =
        let l : suc (t / suc d) + m * n ≤ u / suc d = omega arith in
        let k : t < t / suc d * suc d + suc d = lt-div-mul-add z in
        absurd (omega (arith, mul-le-mul_right (suc d) l, add-mul (suc (t / suc d)) (m * n) (suc d), suc-mul (t / suc d) (suc d), div-mul-le_self u (suc d), k, same, less))

-- ---- slots in a row, by their numbers

pub before-left : (x y : ℕ) (is : List ℕ) → Before x y is → In x is
before-left x y [] h = elim h [ ]
before-left x y (z ∷ zs) (inl h) = inl h.0
before-left x y (z ∷ zs) (inr h) = inr (before-left x y zs h)

pub before-right : (x y : ℕ) (is : List ℕ) → Before x y is → In y is
before-right x y [] h = elim h [ ]
before-right x y (z ∷ zs) (inl h) = inr h.1
before-right x y (z ∷ zs) (inr h) = inr (before-right x y zs h)

in_slots : (n x p k : ℕ) → In x (slots_of n p k) → (u : ℕ) × (p ≤ u) × (u < p + k) × (x ≡ u % n)
unfolding slots_of
in_slots n x p zero h = elim h [ ]
in_slots n x p (suc k) (inl e) = (p, omega arith, omega arith, e)
in_slots n x p (suc k) (inr h) = let r = in_slots n x (suc p) k h in (r.0, omega (arith, r.1), omega (arith, r.2), r.3)

slots_in : (n u p k : ℕ) → p ≤ u → u < p + k → In (u % n) (slots_of n p k)
unfolding slots_of
slots_in n u p zero h l = absurd (omega arith)
slots_in n u p (suc k) h l = go (ℕ_discrete u p) (slots_in n u (suc p) k)
  where
    go : Dec (u ≡ p) → (suc p ≤ u → u < suc p + k → In (u % n) (slots_of n (suc p) k)) → (u % n ≡ p % n) ⊎ In (u % n) (slots_of n (suc p) k)
    go (yes e) later = inl (ap (λ (x : ℕ). x % n) e)
    go (no e) later = inr (later (omega arith) (omega arith))

before-slots : (n x y p k : ℕ) → Before x y (slots_of n p k) → (u : ℕ) × (v : ℕ) × (p ≤ u) × (u < v) × (v < p + k) × (x ≡ u % n) × (y ≡ v % n)
unfolding slots_of
before-slots n x y p zero h = elim h [ ]
before-slots n x y p (suc k) (inl h) = let r = in_slots n y (suc p) k h.1 in (p, r.0, omega arith, r.1, omega (arith, r.2), h.0, r.3)
before-slots n x y p (suc k) (inr h) =
    let r = before-slots n x y (suc p) k h in
    (r.0, r.1, omega (arith, r.2), r.3, omega (arith, r.4), r.5, r.6)

-- ---- the reading order: at most n slots, those of the numbers from `origin` up to the cursor's

pub origin : Ring → ℕ
origin r = cond r.wrapped (suc (cursor r.slab)) (slots r.slab)

-- it is empty, or ends at the cursor
record Numbered (r : Ring) : Type 0 where
  many : ℕ
  order_is : order r ≡ slots_of (slots r.slab) (origin r) many
  ends : 0 < many → origin r + many ≡ suc (slots r.slab + cursor r.slab)

numbered : (r : Ring) → Numbered r
unfolding order first_place origin walk slots_of
numbered r = go (is_empty r.slab) r.wrapped refl refl
  where
    n : ℕ
    n = slots r.slab

    c : ℕ
    c = cursor r.slab

    go : (e w : Bool) → is_empty r.slab ≡ e → r.wrapped ≡ w → Numbered r
    go true w e f = record { many = 0; order_is = rw e refl; ends = λ h. absurd (omega (arith, h)) }
    go false true e f = record { many = n; order_is = rw (e, f) (walk_is n (suc c) n); ends = λ h. rw f (omega arith) }
    go false false e f = record {
      many = suc c;
      order_is = rw (e, f) (ap (λ (x : ℕ). walk n x (suc c)) (sym (mod_self n)) ∙ walk_is n n (suc c));
      ends = λ h. rw f (omega arith);
    }

module _ (r : Ring) (cur : cursor r.slab < slots r.slab) where
  pub origin_in : (cursor r.slab < origin r) × (origin r ≤ slots r.slab)
  unfolding origin
  origin_in = go r.wrapped
    where
      go : (w : Bool) → (cursor r.slab < cond w (suc (cursor r.slab)) (slots r.slab)) × (cond w (suc (cursor r.slab)) (slots r.slab) ≤ slots r.slab)
      go true = (omega arith, cur)
      go false = (cur, omega arith)

  pub in_ring : (i : ℕ) → In i (order r) → i < slots r.slab
  in_ring i h =
      let o = numbered r in
      let m = in_slots (slots r.slab) i (origin r) o.many (subst (In i) o.order_is h) in
      let z : 0 < slots r.slab = omega (arith, cur) in
      rw m.3 (mod-lt m.0 z)

  pub ahead : (i j : ℕ) → Before i j (order r) → Ahead (slots r.slab) (origin r) i j
  ahead i j h =
      let o = numbered r in
      let m = before-slots (slots r.slab) i j (origin r) o.many (subst (Before i j) o.order_is h) in
      let e = o.ends (omega (arith, m.2, m.3, m.4)) in
      record { u = m.0; v = m.1; first = m.2; rising = m.3; last = omega (arith, m.4, e, origin_in.0); i-is = m.5; j_is = m.6 }

  -- a slot that is read is that of a number from `origin` up to the cursor's
  pub read_at : (i : ℕ) → In i (order r) → (v : ℕ) × (origin r ≤ v) × (v ≤ slots r.slab + cursor r.slab) × (i ≡ v % slots r.slab)
  read_at i h =
      let o = numbered r in
      let m = in_slots (slots r.slab) i (origin r) o.many (subst (In i) o.order_is h) in
      let e = o.ends (omega (arith, m.1, m.2)) in
      (m.0, m.1, omega (arith, m.2, e), m.3)

  -- where a slot is read, the cursor's is
  pub cursor-read : (i : ℕ) → In i (order r) → In (cursor r.slab) (order r)
  cursor-read i h =
      let o = numbered r in
      let n = slots r.slab in
      let c = cursor r.slab in
      let m = in_slots n i (origin r) o.many (subst (In i) o.order_is h) in
      let e = o.ends (omega (arith, m.1, m.2)) in
      let there = slots_in n (n + c) (origin r) o.many (omega (arith, origin_in.1)) (omega (arith, e)) in
      rw o.order_is (subst (λ (x : ℕ). In x (slots_of n (origin r) o.many)) (add-mod_left n c ∙ mod-eq_of_lt cur) there)
