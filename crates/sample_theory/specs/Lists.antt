-- Lists of samples: how many there are of a kind, the order of their stamps, the first and the last, and the value at a column and stamp. What is said of
-- ticks, schedules and windows is counted by these. Assumes nothing.
use Rattle.std.specs.Prelude.{ℕ, suc, ◌+◌, ◌*◌, ◌/◌, ◌%◌, ◌≤◌, ◌<◌, ◌≡◌, refl, ◌≢◌, Bool, true, false, ◌&&◌, cond, List, [], ◌∷◌, ◌++◌, map}
use Rattle.std.proofs.Common.{zero-add, arith, sym, ap, ◌∙◌}
use Rattle.std.proofs.Math.Nat.{mod-add-div'}
use Rattle.std.proofs.Math.Bool.{and-false}
use lib.Dec.{leb, ltb, eqb}
use Rattle.demand.specs.Demand.{Sample, Event, took, ran, samples_in, first_of, last_of, ascending, all, count, is_at, used, is_offset}
use Rattle.laws.specs.Tests.{yes_lt, yes_eq, no_eq, and_left, and_right, le_is, lt-is, eq_is}

-- ---- counting

pub count-append : (f : Sample → Bool) (xs ys : List Sample) → count f (xs ++ ys) ≡ count f xs + count f ys
unfolding count
count-append f [] ys = sym (zero-add (count f ys))
count-append f (x ∷ xs) ys = rw (count-append f xs ys) (omega arith)

-- one sample more, counted or not
pub count-one : (f : Sample → Bool) (ys : List Sample) (x : Sample) → f x ≡ true → count f (ys ++ x ∷ []) ≡ suc (count f ys)
unfolding count
count-one f ys x e = count-append f ys (x ∷ []) ∙ rw e (omega arith)

pub count_none : (f : Sample → Bool) (ys : List Sample) (x : Sample) → f x ≡ false → count f (ys ++ x ∷ []) ≡ count f ys
unfolding count
count_none f ys x e = count-append f ys (x ∷ []) ∙ rw e (omega arith)

-- samples of a column
abbrev pub of_column : ℕ → Sample → Bool
of_column c x = eqb x.column c

pub at_yes : (x : Sample) (c t : ℕ) → x.column ≡ c → x.stamp ≡ t → is_at c t x ≡ true
unfolding is_at
at_yes x c t e f = rw (e, f, yes_eq c, yes_eq t)

pub at_no_stamp : (x : Sample) (c t : ℕ) → x.stamp ≢ t → is_at c t x ≡ false
unfolding is_at
at_no_stamp x c t h = rw (no_eq x.stamp t h) (and-false (eqb x.column c))

pub at_no_column : (x : Sample) (c t : ℕ) → x.column ≢ c → is_at c t x ≡ false
unfolding is_at
at_no_column x c t h = rw (no_eq x.column c h)

pub all-at : (f : Sample → Bool) (ys : List Sample) (x : Sample) (zs : List Sample) → all f (ys ++ x ∷ zs) ≡ true → f x ≡ true
unfolding all
all-at f [] x zs h = and_left (f x) (all f zs) h
all-at f (y ∷ ys) x zs h = all-at f ys x zs (and_right (f y) (all f (ys ++ x ∷ zs)) h)

-- three tests of all samples
pub all_three : (f g h : Sample → Bool) (xs : List Sample) → all (λ x. f x && g x && h x) xs ≡ all f xs && all g xs && all h xs
unfolding all
all_three f g h [] = refl
all_three f g h (x ∷ xs) = rw (all_three f g h xs) (swap (f x) (g x) (h x) (all f xs) (all g xs) (all h xs))
  where
    swap : (a b c A B C : Bool) → a && b && c && (A && B && C) ≡ (a && A) && (b && B) && (c && C)
    swap true true true A B C = refl
    swap true true false A B C = sym (and-false (A && B))
    swap true false c true B C = refl
    swap true false c false B C = refl
    swap false b c A B C = refl

-- ---- used columns

pub used_in : (c : ℕ) (ys : List Sample) (x : Sample) (zs : List Sample) → x.column ≡ c → used c (ys ++ x ∷ zs) ≡ true
unfolding used
used_in c ys x zs e = yes_lt 0 (count (λ y. eqb y.column c) (ys ++ x ∷ zs))
    (rw (count-append (λ y. eqb y.column c) ys (x ∷ zs)) (unfold count in (rw (e, yes_eq c) (omega arith))))

-- a used column's sample
pub find : (c : ℕ) (xs : List Sample) → used c xs ≡ true → (ys : List Sample) × (x : Sample) × (zs : List Sample) × (xs ≡ ys ++ x ∷ zs) × (x.column ≡ c)
unfolding used count
find c [] h = absurd (omega (arith, lt-is 0 0 h))
find c (x ∷ xs) h = go (λ y. find c xs y) (eqb x.column c) refl
  where
    go : (used c xs ≡ true → (ys : List Sample) × (x : Sample) × (zs : List Sample) × (xs ≡ ys ++ x ∷ zs) × (x.column ≡ c)) → (b : Bool) → eqb x.column c ≡ b
        → (ys : List Sample) × (y : Sample) × (zs : List Sample) × (x ∷ xs ≡ ys ++ y ∷ zs) × (y.column ≡ c)
    go rec true e = ([], x, xs, refl, eq_is x.column c e)
    go rec false e =
        let f : ltb 0 (count (λ y. eqb y.column c) xs) ≡ true = rw (e, zero-add) at h in
        let r = rec f in
        (x ∷ r.0, r.1, r.2, ap (λ (l : List Sample). x ∷ l) r.3, r.4)

-- a column that is not used has no sample so far
pub unused_none : (ys zs : List Sample) (c : ℕ) → used c (ys ++ zs) ≡ false → count (of_column c) ys ≡ 0
unfolding used
unused_none ys zs c h =
    let z : count (λ y. eqb y.column c) (ys ++ zs) ≤ 0 = lib.Dec.nltb→le 0 (count (λ y. eqb y.column c) (ys ++ zs)) (rw h tt) in
    omega (arith, count-append (λ y. eqb y.column c) ys zs)

-- ---- the order of the stamps

asc_cons : (p : ℕ) (x : Sample) (xs : List Sample) → ascending p (x ∷ xs) ≡ true → (p ≤ x.stamp) × (ascending x.stamp xs ≡ true)
unfolding ascending
asc_cons p x xs h =
    let a = leb p x.stamp in
    let b = ascending x.stamp xs in
    (le_is p x.stamp (and_left a b h), and_right a b h)

-- what stands behind a sample
pub asc_split : (p : ℕ) (ys : List Sample) (x : Sample) (zs : List Sample) → ascending p (ys ++ x ∷ zs) ≡ true → (p ≤ x.stamp) × (ascending x.stamp zs ≡ true)
asc_split p [] x zs h = asc_cons p x zs h
asc_split p (y ∷ ys) x zs h =
    let a = asc_cons p y (ys ++ x ∷ zs) h in
    let r = asc_split y.stamp ys x zs a.1 in
    (omega (arith, a.0, r.0), r.1)

-- none at a stamp that all are above
pub none_below : (c t p : ℕ) (xs : List Sample) → ascending p xs ≡ true → t < p → count (is_at c t) xs ≡ 0
unfolding count
none_below c t p [] h l = refl
none_below c t p (x ∷ xs) h l =
    let a = asc_cons p x xs h in
    rw (at_no_stamp x c t (omega (arith, a.0)), none_below c t x.stamp xs a.1 (omega (arith, a.0)))

-- ---- the last sample

pub last_snoc : (ys : List Sample) (x : Sample) → last_of (ys ++ x ∷ []) ≡ x.stamp
unfolding last_of
last_snoc [] x = refl
last_snoc (y ∷ []) x = refl
last_snoc (y ∷ z ∷ ys) x = last_snoc (z ∷ ys) x

pub last-append : (ys : List Sample) (x : Sample) (zs : List Sample) → last_of (ys ++ x ∷ zs) ≡ last_of (x ∷ zs)
unfolding last_of
last-append [] x zs = refl
last-append (y ∷ []) x zs = refl
last-append (y ∷ z ∷ ys) x zs = last-append (z ∷ ys) x zs

pub last_of_lem : (x : Sample) (xs : List Sample) → (ys : List Sample) × (z : Sample) × (x ∷ xs ≡ ys ++ z ∷ []) × (last_of (x ∷ xs) ≡ z.stamp)
unfolding last_of
last_of_lem x [] = ([], x, refl, refl)
last_of_lem x (y ∷ xs) = let r = last_of_lem y xs in (x ∷ r.0, r.1, ap (λ (l : List Sample). x ∷ l) r.2, r.3)

-- the greatest stamp
pub le-last : (x : Sample) (zs : List Sample) → ascending x.stamp zs ≡ true → x.stamp ≤ last_of (x ∷ zs)
unfolding last_of
le-last x [] h = omega arith
le-last x (z ∷ zs) h = let a = asc_cons x.stamp z zs h in omega (arith, a.0, le-last z zs a.1)

pub last-le : (p : ℕ) (ys : List Sample) (x : Sample) (zs : List Sample) → ascending p (ys ++ x ∷ zs) ≡ true → last_of ys ≤ x.stamp
unfolding last_of
last-le p [] x zs h = omega arith
last-le p (y ∷ []) x zs h = (asc_cons y.stamp x zs (asc_cons p y (x ∷ zs) h).1).0
last-le p (y ∷ z ∷ ys) x zs h = last-le y.stamp (z ∷ ys) x zs (asc_cons p y (z ∷ (ys ++ x ∷ zs)) h).1

pub first-le-last : (p : ℕ) (xs : List Sample) → ascending p xs ≡ true → first_of xs ≤ last_of xs
unfolding first_of last_of
first-le-last p [] h = omega arith
first-le-last p (x ∷ xs) h = le-last x xs (asc_cons p x xs h).1

-- ---- the value of column c's first sample at stamp t

unfoldable pub value_at : ℕ → ℕ → List Sample → ℕ
value_at c t [] = 0
value_at c t (x ∷ xs) = let v = value_at c t xs in cond (is_at c t x) x.value v

pub value_here : (c t : ℕ) (ys : List Sample) (x : Sample) (zs : List Sample) → count (is_at c t) ys ≡ 0 → is_at c t x ≡ true → value_at c t (ys ++ x ∷ zs) ≡ x.value
unfolding value_at count
value_here c t [] x zs h e = rw e
value_here c t (y ∷ ys) x zs h e = go (value_here c t ys x zs) (is_at c t y) refl
  where
    go : (count (is_at c t) ys ≡ 0 → is_at c t x ≡ true → value_at c t (ys ++ x ∷ zs) ≡ x.value) → (b : Bool) → is_at c t y ≡ b
        → cond (is_at c t y) y.value (value_at c t (ys ++ x ∷ zs)) ≡ x.value
    go rec true f = absurd (omega (arith, rw f at h))
    go rec false f = rw f (rec (rw (f, zero-add) at h) e)

-- where there is one, it is a whole offset, if all are
pub value_ok : (c t : ℕ) (xs : List Sample) → ((x : Sample) (ys zs : List Sample) → xs ≡ ys ++ x ∷ zs → is_offset x.value ≡ true)
    → count (is_at c t) xs ≡ 1 → is_offset (value_at c t xs) ≡ true
unfolding count value_at
value_ok c t [] h e = absurd (omega arith)
value_ok c t (x ∷ xs) h e = go (value_ok c t xs (λ y us bs p. h y (x ∷ us) bs (ap (λ (w : List Sample). x ∷ w) p))) (is_at c t x) refl
  where
    go : (count (is_at c t) xs ≡ 1 → is_offset (value_at c t xs) ≡ true) → (b : Bool) → is_at c t x ≡ b → is_offset (cond (is_at c t x) x.value (value_at c t xs)) ≡ true
    go rec true f = rw f (h x [] xs refl)
    go rec false f = rw f (rec (rw (f, zero-add) at e))

-- ---- the samples in a list of events

pub samples-append : (es fs : List Event) → samples_in (es ++ fs) ≡ samples_in es ++ samples_in fs
unfolding samples_in
samples-append [] fs = refl
samples-append (took x ∷ es) fs = ap (λ (l : List Sample). x ∷ l) (samples-append es fs)
samples-append (ran ∷ es) fs = samples-append es fs

pub samples_took : (xs : List Sample) → samples_in (map took xs) ≡ xs
unfolding samples_in
samples_took [] = refl
samples_took (x ∷ xs) = ap (λ (l : List Sample). x ∷ l) (samples_took xs)

-- ---- a multiple, as quotient times divisor

pub multiple : (v d : ℕ) → v % d ≡ 0 → v ≡ v / d * d
multiple v d e = sym (mod-add-div' v d) ∙ ap (λ (r : ℕ). r + v / d * d) e ∙ zero-add (v / d * d)
