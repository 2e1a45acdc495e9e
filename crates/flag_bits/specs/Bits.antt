-- A list of flags as one number, the first flag its lowest bit, and back, which gives the flags again; flag i is the test x / 2^i % 2. The edge to C lends
-- the flags so. Assumes nothing.
use Rattle.std.specs.Prelude.{ℕ, zero, suc, ◌+◌, ◌*◌, ◌/◌, ◌%◌, ◌^◌, ◌-◌, ◌<◌, ◌≤◌, ◌≡◌, refl, Bool, true, false, List, [], ◌∷◌, ◌++◌, length, get_or, take, drop, set, eqb}
use Rattle.std.proofs.Common.{arith, add-one, zero-add, pow-suc, div-one, sym, ap, ◌∙◌, append-nil, length-drop, take-suc-set, drop-cons, take_all}
use Rattle.std.proofs.Math.Nat.{pow-zero, pow-succ', one-le-pow, div-div-eq-div-mul, add-mul-div_left, add-mul-mod_self_left}
use Rattle.std.proofs.Math.Seq.{append_snoc}

-- the k lowest bits of x, the lowest first
unfoldable pub bits : ℕ → ℕ → List Bool
bits zero x = []
bits (suc k) x = eqb (x % 2) 1 ∷ bits k (x / 2)

abbrev pub bit_of : Bool → ℕ
bit_of true = 1
bit_of false = 0

-- the number whose bits these are
unfoldable pub number : List Bool → ℕ
number [] = 0
number (b ∷ bs) = bit_of b + 2 * number bs

-- ---- flag i is bit i

pub bit_at : (k x i : ℕ) → i < k → get_or (bits k x) i false ≡ eqb (x / 2 ^ i % 2) 1
unfolding bits
bit_at zero x i h = elim h [ ]
bit_at (suc k) x zero h = rw (pow-zero, div-one)
bit_at (suc k) x (suc i) h = rw (bit_at k (x / 2) i (omega arith), div-div-eq-div-mul, ← pow-succ')

-- ---- the bits of the flags' number are the flags

rest_of_bit : (b : Bool) → eqb (bit_of b % 2) 1 ≡ b
rest_of_bit true = refl
rest_of_bit false = refl

half_of_bit : (b : Bool) → bit_of b / 2 ≡ 0
half_of_bit true = refl
half_of_bit false = refl

pub bits-number : (bs : List Bool) → bits (length bs) (number bs) ≡ bs
unfolding bits number
bits-number [] = refl
bits-number (b ∷ bs) =
    let two : 0 < 2 = omega arith in
    rw (add-mul-mod_self_left (bit_of b) 2 (number bs), rest_of_bit b, add-mul-div_left (bit_of b) (number bs) two, half_of_bit b, zero-add (number bs), bits-number bs)

-- of k flags, by their number
pub bits_of_number : (bs : List Bool) (k x : ℕ) → length bs ≡ k → x ≡ number bs → bits k x ≡ bs
bits_of_number bs k x l e = rw (e, ← l, bits-number)

-- ---- the number fits as many bits as there are flags

bit_small : (b : Bool) → bit_of b ≤ 1
bit_small true = omega arith
bit_small false = omega arith

pub number_fits : (bs : List Bool) (k : ℕ) → length bs ≤ k → number bs < 2 ^ k
unfolding number
number_fits (b ∷ bs) zero h = elim h [ ]
number_fits [] k h = one-le-pow k 2 (omega arith)
number_fits (b ∷ bs) (suc k) h = omega (arith, pow-suc 2 k, number_fits bs k (omega arith), bit_small b)

-- ---- a turn of a loop over the flags, from the first and from the last

-- the flag of slot i stored, the rest halved
pub flag_stored : (w : List Bool) (i k j x : ℕ) → i < length w → j ≡ suc k → take (i + 1) (set w i (eqb (x % 2) 1)) ++ bits k (x / 2) ≡ take i w ++ bits j x
unfolding bits
flag_stored w i k j x h e = rw (e, add-one, take-suc-set, append_snoc)

-- all flags stored
pub all_stored : (w bs : List Bool) (n i x : ℕ) → length w ≡ n → i ≡ n → take i w ++ bits (n - i) x ≡ bs → w ≡ bs
unfolding bits
all_stored w bs n i x l e h =
    let none : n - i ≡ 0 = omega arith in
    sym (take_all i w (omega arith)) ∙ sym (append-nil (take i w)) ∙ (rw none at h)

-- what is left to go round to fits k bits
pub rest-fits : (w : List Bool) (i x k : ℕ) → x ≡ number (drop i w) → length w ≤ k + i → x < 2 ^ k
rest-fits w i x k e h = rw e (number_fits (drop i w) k (rw length-drop (omega arith)))

length_zero : (l : List Bool) → length l ≡ 0 → l ≡ []
length_zero [] h = refl
length_zero (b ∷ l) h = absurd (omega arith)

-- no flag yet
pub number_none : (w : List Bool) (i : ℕ) → length w ≤ i → 0 ≡ number (drop i w)
unfolding number
number_none w i h = rw (length_zero (drop i w) (rw length-drop (omega arith)))

-- a flag before those from i on
pub number_turn : (w : List Bool) (i b x : ℕ) → 0 < i → i ≤ length w → b ≡ bit_of (get_or w (i - 1) false) → x ≡ number (drop i w) → b + 2 * x ≡ number (drop (i - 1) w)
unfolding number
number_turn w i b x some h e f =
    let more : suc (i - 1) ≡ i = omega arith in
    let front : drop (i - 1) w ≡ get_or w (i - 1) false ∷ drop i w = rw more at (drop-cons w (i - 1) false (omega arith)) in
    let sum : number (drop (i - 1) w) ≡ bit_of (get_or w (i - 1) false) + 2 * number (drop i w) = ap number front in
    omega arith
