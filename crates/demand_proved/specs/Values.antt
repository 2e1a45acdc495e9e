-- The values of one column, tier by tier: whole offsets in tier 0, and in every other tier the pattern of the average of the tier below. Each is finite, a
-- pair writes it as its window's answer, and it lies within k / 4,096 of the exact mean of all the offsets below it. Assumes nothing.
use Prim.Native.Nat.{ℕ, zero, suc, ◌+◌, ◌-◌, ◌*◌, ◌/◌, ◌%◌, ◌^◌, ◌≤◌, ◌<◌, min}
use Rattle.std.proofs.Common.{zero-add, add-zero, zero-mul, mul-one, mod-lt, mul-pos, le-div_iff_mul-le, div-mul-le_self, sym, ◌∙◌, lit<}
use Rattle.std.proofs.Math.Nat.{mul_comm, mul-le-mul_right, le_trans, mul-add-div_right}
use native.Mathlib.Omega.{arith}
use Rattle.std.specs.Prelude.{◌≡◌, Bool, true, false, cond, T, leb, ltb, eqb, length}
use Rattle.std.proofs.Math.Path.{refl, ap, subst}
use Rattle.std.proofs.lemmas.Bool.{false≢true}
use mathlib.Core.List.{List, [], ◌∷◌, ◌++◌, map, flatten}
use Rattle.std.proofs.Math.Arith.{mod-mul, digits_div}
use Rattle.std.proofs.lemmas.List.{length-map}
use lib.Ieee.{Float, nan, inf, fin, binary64, of_bits, of_fields, to_bits, up, down, fits}
use Rattle.std.specs.Float.Ieee.Bits.{of_bits-to_bits, to_bits-lt, of_bits-fits}
use Rattle.std.specs.Float.Ieee.Scale.{finite}
use Rattle.model.specs.declared.ConsolidationFn.TheVariants.{Average}
use Rattle.model.specs.Ring.{is_nan_bits, is_infinite}
use Rattle.model.specs.Window.{apply}
use Rattle.demand.specs.Demand.{whole_within, is_offset}
use Rattle.laws.specs.Tests.{and_left, and_right, eq_is, le_is}
use Rattle.ring_theory.specs.Numbers.{upto, length-upto}
use Rattle.pair_theory.specs.Answers.{patterns_of, values_of, answer_for, finite_answer}
use Rattle.pair_theory.specs.Fill.{Given, given_number}
use Rattle.sample_theory.specs.Schedule.{touched}
use Rattle.mean_theory.specs.Exact.{All, All2, Bounded, Within, Offset, Flat, whole_mean}
use Rattle.mean_theory.proofs.Average.{average_fits, average_bounded}
use Rattle.mean_theory.proofs.Tiers.{flat_within}

-- ---- patterns

field_is : (v : ℕ) → v % (2 ^ 52 * 2048) / 2 ^ 52 ≡ v / 2 ^ 52 % 2 ^ 11
field_is v = ap (λ (x : ℕ). x / 2 ^ 52) (mod-mul v {m = 2048} {c = 2 ^ 52} (lit< tt) (lit< tt)) ∙ digits_div (v / 2 ^ 52 % 2048) (mod-lt v (lit< tt))

-- exponent bits that are all ones do not make a finite value
not_ones : (v : ℕ) → T (finite (of_bits binary64 v)) → eqb (v / 2 ^ 52 % 2 ^ 11) 2047 ≡ false
not_ones v h = go (eqb (v / 2 ^ 52 % 2 ^ 11) 2047) refl
  where
    bad : (b s : Bool) → T (finite (cond b (inf s) nan)) → ⊥
    bad true s t = t
    bad false s t = t

    at_ones : (s : Bool) (t : ℕ) → T (finite (of_fields binary64 s 2047 t)) → ⊥
    at_ones s t k = bad (eqb t 0) s (unfold of_fields in k)

    go : (b : Bool) → eqb (v / 2 ^ 52 % 2 ^ 11) 2047 ≡ b → eqb (v / 2 ^ 52 % 2 ^ 11) 2047 ≡ false
    go false e = e
    go true e =
        let s = leb (lib.Ieee.top binary64) v in
        let x = v % lib.Ieee.top binary64 / lib.Ieee.hid binary64 in
        let t = v % lib.Ieee.hid binary64 in
        absurd (at_ones s t (subst (λ (y : ℕ). T (finite (of_fields binary64 s y t))) (field_is v ∙ eq_is (v / 2 ^ 52 % 2 ^ 11) 2047 e) (unfold of_bits in h)))

pub finite-bits : (v : ℕ) → T (finite (of_bits binary64 v)) → (is_nan_bits v ≡ false) × (is_infinite v ≡ false)
unfolding is_nan_bits is_infinite
finite-bits v h = let e = not_ones v h in (rw e, rw e)

-- a whole offset, as the statement has it and as the float bound has it
offset_within : (x : Float) → T (fits binary64 x) → whole_within (2 ^ 30) x ≡ true → Offset x
unfolding whole_within
offset_within nan f h = absurd (false≢true h)
offset_within (inf s) f h = absurd (false≢true h)
offset_within (fin s m e) f h =
    let a = eqb (m * up e % down e) 0 in
    let b = leb (m * up e / down e) (2 ^ 30) in
    ((tt, f, eq_is (m * up e % down e) 0 (and_left a b h)), le_is (m * up e / down e) (2 ^ 30) (and_right a b h))

offset_of : (v : ℕ) → is_offset v ≡ true → Offset (of_bits binary64 v)
unfolding is_offset
offset_of v h = offset_within (of_bits binary64 v) (of_bits-fits binary64 v) (and_right (ltb v (2 ^ 64)) (whole_within (2 ^ 30) (of_bits binary64 v)) h)

-- ---- numbers in a row

upto-append : (q i j : ℕ) → upto q (i + j) ≡ upto q i ++ upto (q + i) j
unfolding upto
upto-append q zero j = rw (zero-add j, add-zero q)
upto-append q (suc i) j =
    let e : suc i + j ≡ suc (i + j) = omega arith in
    let g : q + suc i ≡ suc q + i = omega arith in
    rw (e, g) (ap (λ (l : List ℕ). q ∷ l) (upto-append (suc q) i j))

map-append : {A : Type 0} (f : ℕ → A) (s t : List ℕ) → map f (s ++ t) ≡ map f s ++ map f t
map-append f [] t = refl
map-append f (x ∷ s) t = ap (λ l. f x ∷ l) (map-append f s t)

pub length-values : (X : ℕ → ℕ) (q n : ℕ) → length (values_of X q n) ≡ n
length-values X q n = length-map (upto q n) (λ (p : ℕ). of_bits binary64 (X p)) ∙ length-upto q n

-- n parts of L values each
flatten_upto : (X : ℕ → ℕ) (L q n : ℕ) → flatten (map (λ p. values_of X (p * L) L) (upto q n)) ≡ values_of X (q * L) (n * L)
unfolding upto flatten
flatten_upto X L q zero = rw (zero-mul L)
flatten_upto X L q (suc n) =
    let e : suc n * L ≡ L + n * L = omega arith in
    let g : q * L + L ≡ suc q * L = omega arith in
    rw (e, upto-append (q * L) L (n * L), g, map-append (λ (p : ℕ). of_bits binary64 (X p)) (upto (q * L) L) (upto (suc q * L) (n * L)))
    (ap (λ (l : List Float). values_of X (q * L) L ++ l) (flatten_upto X L (suc q) n))

-- ---- the tiers of one column

-- window q of tier k, where tier j + 1 has windows of r j values of tier j, over the patterns X
unfoldable pub tier_value : (ℕ → ℕ) → (ℕ → ℕ) → ℕ → ℕ → ℕ
tier_value r X zero q = X q
tier_value r X (suc k) q = to_bits binary64 (apply Average (values_of (tier_value r X k) (q * r k) (r k)))

-- how many values of tier 0 that is
unfoldable pub tier_long : (ℕ → ℕ) → ℕ → ℕ
tier_long r zero = 1
tier_long r (suc k) = tier_long r k * r k

all_of : {B : Type 0} (R : Float → B → Type 0) (f : ℕ → Float) (g : ℕ → B) (q n : ℕ)
    → ((p : ℕ) → q ≤ p → p < q + n → R (f p) (g p)) → All2 R (map f (upto q n)) (map g (upto q n))
unfolding upto
all_of R f g q zero h = tt
all_of R f g q (suc n) h = (h q (omega arith) (omega arith), all_of R f g (suc q) n (λ p x y. h p (omega arith) (omega arith)))

-- what lies in a window's part lies in the window
inside : (q r L p i : ℕ) → q * r ≤ p → p < q * r + r → p * L ≤ i → i < suc p * L → (q * (L * r) ≤ i) × (i < suc q * (L * r))
inside q r L p i x y z w =
    let a : q * r * L ≤ p * L = mul-le-mul_right L x in
    let b : suc p * L ≤ (q * r + r) * L = mul-le-mul_right L y in
    (omega arith, omega arith)

-- ratios within the bound's reach below tier k
abbrev pub Ratios : (ℕ → ℕ) → ℕ → Type 0
Ratios r k = (j : ℕ) → j < k → (0 < r j) × (r j ≤ 4096)

-- the patterns below window q of tier k are whole offsets
abbrev pub Offsets : (ℕ → ℕ) → (ℕ → ℕ) → ℕ → ℕ → Type 0
Offsets r X k q = (p : ℕ) → q * tier_long r k ≤ p → p < suc q * tier_long r k → is_offset (X p) ≡ true

module _ (r X : ℕ → ℕ) where
  offsets_below : (k q : ℕ) → Offsets r X (suc k) q → (p : ℕ) → q * r k ≤ p → p < q * r k + r k → Offsets r X k p
  unfolding tier_long
  offsets_below k q h p x y i z w = let c = inside q (r k) (tier_long r k) p i x y z w in h i c.0 c.1

  flat : (k q : ℕ) → Ratios r k → Offsets r X k q → Flat k (of_bits binary64 (tier_value r X k q)) (values_of X (q * tier_long r k) (tier_long r k))
  unfolding tier_value tier_long
  flat zero q hr h = (offset_of (X q) (h q (omega arith) (omega arith)), rw (mul-one q) (unfold upto in refl))
  flat (suc k) q hr h =
      let L = tier_long r k in
      let vs = values_of (tier_value r X k) (q * r k) (r k) in
      let e : q * (L * r k) ≡ q * r k * L = omega arith in
      record {
        values = vs;
        parts = map (λ p. values_of X (p * L) L) (upto (q * r k) (r k));
        long = L;
        counted = rw (length-values (tier_value r X k) (q * r k) (r k)) (hr k (omega arith));
        each = all_of (λ y ws. Flat k y ws × (length ws ≡ L)) (λ p. of_bits binary64 (tier_value r X k p)) (λ p. values_of X (p * L) L) (q * r k) (r k)
            (λ p x y. (flat k p (λ j l. hr j (omega arith)) (λ i z w. let c = inside q (r k) L p i x y z w in h i c.0 c.1), length-values X (p * L) L));
        average = of_bits-to_bits binary64 (apply Average vs) (average_fits vs);
        offsets = rw (e, mul_comm L (r k)) (sym (flatten_upto X L (q * r k) (r k)));
      }

  pub value_finite : (k q : ℕ) → Ratios r k → Offsets r X k q → T (finite (of_bits binary64 (tier_value r X k q)))
  value_finite k q hr h = (flat_within k (of_bits binary64 (tier_value r X k q)) (values_of X (q * tier_long r k) (tier_long r k)) (flat k q hr h)).0.0

  pub value_within : (k q : ℕ) → Ratios r k → Offsets r X k q
      → Within (of_bits binary64 (tier_value r X k q)) (whole_mean (values_of X (q * tier_long r k) (tier_long r k))) k
  value_within k q hr h = (flat_within k (of_bits binary64 (tier_value r X k q)) (values_of X (q * tier_long r k) (tier_long r k)) (flat k q hr h)).2

  -- a window's answer, as the pair writes it
  pub value_given : (k q : ℕ) → Ratios r (suc k) → Offsets r X (suc k) q
      → Given (answer_for Average (patterns_of (tier_value r X k) (q * r k) (r k))) (tier_value r X (suc k) q)
  value_given k q hr h =
      let vs = values_of (tier_value r X k) (q * r k) (r k) in
      given_number (apply Average vs) (tier_value r X (suc k) q)
      (finite_answer Average (tier_value r X k) (q * r k) (r k) (hr k (omega arith)).0
      (λ p x y. finite-bits (tier_value r X k p) (value_finite k p (λ j l. hr j (omega arith)) (offsets_below k q h p x y))))
      (unfold tier_value in refl) (finite-bits (tier_value r X (suc k) q) (value_finite (suc k) q hr h)).1
      (unfold tier_value in (to_bits-lt binary64 (apply Average vs) (average_fits vs)))

-- ---- the tiers of one column where the ticks below H are in: a window still open has what the tier below has of it

unfoldable pub so_far : (ℕ → ℕ) → (ℕ → ℕ) → ℕ → ℕ → ℕ → ℕ
so_far r X H zero q = X q
so_far r X H (suc k) q = to_bits binary64 (apply Average (values_of (so_far r X H k) (q * r k) (min (touched (tier_long r k) H) (suc q * r k) - q * r k)))

pub long_pos : (r : ℕ → ℕ) (k : ℕ) → Ratios r k → 0 < tier_long r k
unfolding tier_long
long_pos r zero hr = omega arith
long_pos r (suc k) hr = mul-pos (long_pos r k (λ j l. hr j (omega arith))) (hr k (omega arith)).0

-- windows of L ticks that end at tick H, or begin before it
touched_ge : (L y H : ℕ) → 0 < L → y * L ≤ H → y ≤ touched L H
unfolding touched
touched_ge L zero H z h = omega arith
touched_ge L (suc y) zero z h = absurd (omega arith)
touched_ge L (suc y) (suc x) z h = let k : y ≤ x / L = (le-div_iff_mul-le z).1 (omega arith) in omega arith

touched_gt : (L y H : ℕ) → 0 < L → y * L < H → y < touched L H
unfolding touched
touched_gt L y zero z h = absurd (omega arith)
touched_gt L y (suc x) z h = let k : y ≤ x / L = (le-div_iff_mul-le z).1 (omega arith) in omega arith

pub touched-lt : (L y H : ℕ) → y < touched L H → y * L < H
unfolding touched
touched-lt L y zero h = absurd (omega arith)
touched-lt L y (suc x) h = let k : y ≤ x / L = omega arith in omega (arith, mul-le-mul_right L k, div-mul-le_self x L)

-- counted from the start of a window on
pub touched-from : (a L e : ℕ) → 0 < L → 0 < e → touched L (a * L + e) ≡ a + touched L e
unfolding touched
touched-from a L zero z h = absurd (omega arith)
touched-from a L (suc x) z h = let s : a * L + suc x ≡ suc (a * L + x) = omega arith in rw (s, mul-add-div_right z a x) (omega arith)

same_map : (f g : ℕ → Float) (q n : ℕ) → ((p : ℕ) → q ≤ p → p < q + n → f p ≡ g p) → map f (upto q n) ≡ map g (upto q n)
unfolding upto
same_map f g q zero h = refl
same_map f g q (suc n) h = rw (h q (omega arith) (omega arith), same_map f g (suc q) n (λ p x y. h p (omega arith) (omega arith)))

all_one : (R : Float → Type 0) (f : ℕ → Float) (q n : ℕ) → ((p : ℕ) → q ≤ p → p < q + n → R (f p)) → All R (map f (upto q n))
unfolding upto
all_one R f q zero h = tt
all_one R f q (suc n) h = (h q (omega arith) (omega arith), all_one R f (suc q) n (λ p x y. h p (omega arith) (omega arith)))

module _ (r X : ℕ → ℕ) (H : ℕ) where
  -- how many values of tier k window q of tier k + 1 has
  abbrev many : ℕ → ℕ → ℕ
  many k q = min (touched (tier_long r k) H) (suc q * r k) - q * r k

  -- a closed window
  pub so_closed : (k q : ℕ) → Ratios r k → suc q * tier_long r k ≤ H → so_far r X H k q ≡ tier_value r X k q
  unfolding so_far tier_value tier_long
  so_closed zero q hr h = refl
  so_closed (suc k) q hr h =
      let L = tier_long r k in
      let z_l = long_pos r k (λ j l. hr j (omega arith)) in
      let t : suc q * r k ≤ touched L H = touched_ge L (suc q * r k) H z_l (omega arith) in
      let c : min (touched L H) (suc q * r k) - q * r k ≡ r k = omega arith in
      rw c (ap (λ (vs : List Float). to_bits binary64 (apply Average vs)) (same_map (λ p. of_bits binary64 (so_far r X H k p)) (λ p. of_bits binary64 (tier_value r X k p)) (q * r k) (r k)
      (λ p x y. ap (of_bits binary64) (so_closed k p (λ j l. hr j (omega arith)) (below p y h)))))
    where
      below : (p : ℕ) → p < q * r k + r k → suc q * (tier_long r k * r k) ≤ H → suc p * tier_long r k ≤ H
      below p y h = let a : suc p * tier_long r k ≤ (q * r k + r k) * tier_long r k = mul-le-mul_right (tier_long r k) y in omega arith

  -- the patterns of window q of tier k that are in are whole offsets
  abbrev pub OffsetsIn : ℕ → ℕ → Type 0
  OffsetsIn k q = (p : ℕ) → q * tier_long r k ≤ p → p < suc q * tier_long r k → p < H → is_offset (X p) ≡ true

  in_below : (k q : ℕ) → OffsetsIn (suc k) q → (p : ℕ) → q * r k ≤ p → p < q * r k + r k → OffsetsIn k p
  unfolding tier_long
  in_below k q h p x y i z w v = let c = inside q (r k) (tier_long r k) p i x y z w in h i c.0 c.1 v

  some_values : (k q : ℕ) → Ratios r (suc k) → q * tier_long r (suc k) < H → (0 < many k q) × (many k q ≤ r k)
  unfolding tier_long
  some_values k q hr h =
      let L = tier_long r k in
      let t : q * r k < touched L H = touched_gt L (q * r k) H (long_pos r k (λ j l. hr j (omega arith))) (omega arith) in
      (omega (arith, (hr k (omega arith)).0), omega arith)

  so_bounded : (k q : ℕ) → Ratios r k → OffsetsIn k q → q * tier_long r k < H → Bounded (of_bits binary64 (so_far r X H k q))
  unfolding so_far
  so_bounded zero q hr h l = (flat_within 0 (of_bits binary64 (X q)) (of_bits binary64 (X q) ∷ []) (offset_of (X q) (unfold tier_long in (h q (omega arith) (omega arith) (first l))), refl)).0
    where
      first : q * tier_long r 0 < H → q < H
      first l = unfold tier_long in (omega arith)
  so_bounded (suc k) q hr h l =
      let vs = values_of (so_far r X H k) (q * r k) (many k q) in
      let n = some_values k q hr l in
      subst Bounded (sym (of_bits-to_bits binary64 (apply Average vs) (average_fits vs)))
      (average_bounded vs (rw (length-values (so_far r X H k) (q * r k) (many k q)) (n.0, le_trans n.1 (hr k (omega arith)).1))
      (all_one Bounded (λ p. of_bits binary64 (so_far r X H k p)) (q * r k) (many k q)
      (λ p x y. so_bounded k p (λ j l. hr j (omega arith)) (in_below k q h p x (omega (arith, n.1))) (touched-lt (tier_long r k) p H (omega arith)))))

  pub so_finite : (k q : ℕ) → Ratios r k → OffsetsIn k q → q * tier_long r k < H → T (finite (of_bits binary64 (so_far r X H k q)))
  so_finite k q hr h l = (so_bounded k q hr h l).0

  -- a window's answer, as the pair writes it
  pub so_given : (k q : ℕ) → Ratios r (suc k) → OffsetsIn (suc k) q → q * tier_long r (suc k) < H
      → Given (answer_for Average (patterns_of (so_far r X H k) (q * r k) (many k q))) (so_far r X H (suc k) q)
  so_given k q hr h l =
      let vs = values_of (so_far r X H k) (q * r k) (many k q) in
      let n = some_values k q hr l in
      given_number (apply Average vs) (so_far r X H (suc k) q)
      (finite_answer Average (so_far r X H k) (q * r k) (many k q) n.0
      (λ p x y. finite-bits (so_far r X H k p) (so_finite k p (λ j l. hr j (omega arith)) (in_below k q h p x (omega (arith, n.1))) (touched-lt (tier_long r k) p H (omega arith)))))
      (unfold so_far in refl) (finite-bits (so_far r X H (suc k) q) (so_finite (suc k) q hr h l)).1
      (unfold so_far in (to_bits-lt binary64 (apply Average vs) (average_fits vs)))
