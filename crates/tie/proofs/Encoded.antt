-- Reading the bytes of calls gives the calls again. Assumes nothing.
use Rattle.std.specs.Prelude.{ℕ, zero, suc, ◌+◌, ◌*◌, ◌/◌, ◌≤◌, ◌≡◌, refl, Bool, List, [], ◌∷◌, ◌++◌, length, take, drop}
use Rattle.std.proofs.Common.{arith, sym, ap, ◌∙◌, length-append, length-drop, drop-drop, take_at, drop_at}
use Rattle.model.specs.Bytes.{le, bytes, part, get}
use Rattle.model.specs.Record.{Entry, entry_at, entries_from, entries}
use Rattle.model.specs.Store.{Call, record_call, batch_call, query_call, auto_call, consolidate_call, open_call}
use Rattle.laws.specs.Tests.{yes_le, no_le}
use Rattle.laws.specs.Bytes.{le_bytes}
use Rattle.flag_bits.specs.Bits.{bits, number, bits_of_number, number_fits}
use Rattle.tie_calls.specs.Encoded.{batch_size, size_at, size_low, record_at, batch_at, query_at, auto_at, handed_at, open_at, call_at, calls_from, calls_in}
use Rattle.tie.specs.Encode.{head, entry_bytes, entries_bytes, encode, encoded, EntryFits, EntriesFit, Fits, AllFit}

-- ---- a field behind offset o is a field of what stands from o on

get-here : (w : ℕ) (b : List ℕ) (o : ℕ) → get w b o ≡ get w (drop o b) 0
unfolding get part
get-here w b o = refl

part_at : (b : List ℕ) (o i n : ℕ) → part b (o + i) n ≡ part (drop o b) i n
unfolding part
part_at b o i n = ap (take n) (sym (drop-drop i o b))

get_at : (w : ℕ) (b : List ℕ) (o i : ℕ) → get w b (o + i) ≡ get w (drop o b) i
unfolding get
get_at w b o i = ap le (part_at b o i w)

-- ---- entries

same-entry : {k c v k' c' v' : ℕ} → k ≡ k' → c ≡ c' → v ≡ v' → ◌≡◌ {A = Entry} (record { schema = k; column = c; value = v }) (record { schema = k'; column = c'; value = v' })
same-entry p q r = rw (p, q, r)

entry-is : (e : Entry) (b r : List ℕ) (i : ℕ) → drop (16 * i) b ≡ entry_bytes e ++ r → EntryFits e → entry_at b i ≡ e
unfolding entry_at
entry-is e b r i d f =
    same-entry (get-here 4 b (16 * i) ∙ ap (λ (x : List ℕ). get 4 x 0) d ∙ one) (get_at 4 b (16 * i) 4 ∙ ap (λ (x : List ℕ). get 4 x 4) d ∙ two) (get_at 8 b (16 * i) 8 ∙ ap (λ (x : List ℕ). get 8 x 8) d ∙ three)
  where
    one : get 4 (entry_bytes e ++ r) 0 ≡ e.schema
    one = unfold get part bytes entry_bytes in (le_bytes 4 e.schema f.schema)

    two : get 4 (entry_bytes e ++ r) 4 ≡ e.column
    two = unfold get part bytes entry_bytes in (le_bytes 4 e.column f.column)

    three : get 8 (entry_bytes e ++ r) 8 ≡ e.value
    three = unfold get part bytes entry_bytes in (le_bytes 8 e.value f.value)

length-entry : (e : Entry) → length (entry_bytes e) ≡ 16
unfolding entry_bytes bytes
length-entry e = refl

length-entries : (es : List Entry) → length (entries_bytes es) ≡ 16 * length es
unfolding entries_bytes
length-entries [] = refl
length-entries (e ∷ es) = omega (arith, length-append (entry_bytes e) (entries_bytes es), length-entry e, length-entries es)

same_cons : {A : Type 0} {x y : A} {xs ys : List A} → x ≡ y → xs ≡ ys → x ∷ xs ≡ y ∷ ys
same_cons p q = rw (p, q)

entries_from_lem : (es : List Entry) (b : List ℕ) (i : ℕ) → drop (16 * i) b ≡ entries_bytes es → EntriesFit es → entries_from b i (length es) ≡ es
unfolding entries_from entries_bytes EntriesFit
entries_from_lem [] b i d f = refl
entries_from_lem (e ∷ es) b i d f =
    let z : 16 * suc i ≡ 16 * i + 16 = omega arith in
    same_cons
    (entry-is e b (entries_bytes es) i d f.0)
    (entries_from_lem es b (suc i) (ap (λ (n : ℕ). drop n b) z ∙ sym (drop-drop 16 (16 * i) b) ∙ ap (drop 16) d ∙ drop_at (entry_bytes e) (entries_bytes es) 16 (length-entry e)) f.1)

entries_are : (es : List Entry) → EntriesFit es → entries (entries_bytes es) ≡ es
unfolding entries
entries_are es f =
    let z : length (entries_bytes es) / 16 ≡ length es = omega (arith, length-entries es) in
    ap (entries_from (entries_bytes es) 0) z ∙ entries_from_lem es (entries_bytes es) 0 refl f

-- ---- one call

same_record : {k c v t k' c' v' t' : ℕ} → k ≡ k' → c ≡ c' → v ≡ v' → t ≡ t' → record_call k c v t ≡ record_call k' c' v' t'
same_record p q r s = rw (p, q, r, s)

same_batch : {es es' : List Entry} {t t' : ℕ} → es ≡ es' → t ≡ t' → batch_call es t ≡ batch_call es' t'
same_batch p q = rw (p, q)

same-query : {k c j x y k' c' j' x' y' : ℕ} → k ≡ k' → c ≡ c' → j ≡ j' → x ≡ x' → y ≡ y' → query_call k c j x y ≡ query_call k' c' j' x' y'
same-query p q r s t = rw (p, q, r, s, t)

same_auto : {k c x y k' c' x' y' : ℕ} → k ≡ k' → c ≡ c' → x ≡ x' → y ≡ y' → auto_call k c x y ≡ auto_call k' c' x' y'
same_auto p q r s = rw (p, q, r, s)

-- 32 flags fit the four bytes of their number
flags_are : (fs : List Bool) → length fs ≡ 32 → bits 32 (le (bytes 4 (number fs))) ≡ fs
flags_are fs h = bits_of_number fs 32 (le (bytes 4 (number fs))) h (le_bytes 4 (number fs) (number_fits fs 32 (omega arith)))

call-is : (c : Call) (r : List ℕ) → Fits c → call_at (encode c ++ r) 0 ≡ c
unfolding call_at record_at batch_at query_at auto_at open_at handed_at encode head get part bytes le Fits
call-is (record_call k c v t) r f = same_record (le_bytes 4 k f.0) (le_bytes 4 c f.1) (le_bytes 8 v f.2) (le_bytes 8 t f.3)
call-is (batch_call es t) r f =
    same_batch (ap (λ (n : ℕ). entries (take (16 * n) (entries_bytes es ++ r))) (le_bytes 4 (length es) f.0) ∙ ap entries (take_at (entries_bytes es) r (16 * length es) (length-entries es)) ∙ entries_are es f.1) (le_bytes 8 t f.2)
call-is (query_call k c j x y) r f = same-query (le_bytes 4 k f.0) (le_bytes 4 c f.1) (le_bytes 4 j f.2) (le_bytes 8 x f.3) (le_bytes 8 y f.4)
call-is (auto_call k c x y) r f = same_auto (le_bytes 4 k f.0) (le_bytes 4 c f.1) (le_bytes 8 x f.2) (le_bytes 8 y f.3)
call-is (open_call fs) r f = ap open_call (flags_are fs f)
call-is consolidate_call r f = refl

length-head : (kind k c j x y : ℕ) → length (head kind k c j x y) ≡ 32
unfolding head bytes
length-head kind k c j x y = refl

size_is : (c : Call) (r : List ℕ) → Fits c → size_at (encode c ++ r) 0 ≡ length (encode c)
unfolding size_at batch_size encode head get part bytes le Fits
size_is (record_call k c v t) r f = refl
size_is (batch_call es t) r f =
    ap (λ (n : ℕ). 32 + 16 * n) (le_bytes 4 (length es) f.0) ∙ sym (length-append (head 1 0 0 (length es) 0 t) (entries_bytes es) ∙ ap (λ (n : ℕ). 32 + n) (length-entries es))
size_is (query_call k c j x y) r f = refl
size_is (auto_call k c x y) r f = refl
size_is (open_call fs) r f = refl
size_is consolidate_call r f = refl

call_from : (b : List ℕ) (o : ℕ) → call_at b o ≡ call_at (drop o b) 0
unfolding call_at record_at batch_at query_at auto_at open_at handed_at
call_from b o = rw (get-here 4 b o, get_at 4 b o 4, get_at 4 b o 8, get_at 4 b o 12, get_at 8 b o 16, get_at 8 b o 24, part_at b o 32 (16 * get 4 (drop o b) 12))

size_from : (b : List ℕ) (o : ℕ) → size_at b o ≡ size_at (drop o b) 0
unfolding size_at batch_size
size_from b o = rw (get-here 4 b o, get_at 4 b o 12)

-- ---- the list

calls-from : (cs : List Call) (b : List ℕ) (o k : ℕ) → drop o b ≡ encoded cs → o ≤ length b → length cs ≤ k → AllFit cs → calls_from b o k ≡ cs
unfolding calls_from encoded AllFit
calls-from [] b o zero d h l f = refl
calls-from [] b o (suc k) d h l f = rw (no_le (o + size_at b o) (length b) (omega (arith, size_low b o, length-drop o b, ap length d)))
calls-from (c ∷ cs) b o zero d h l f = absurd (omega arith)
calls-from (c ∷ cs) b o (suc k) d h l f =
    let s : size_at b o ≡ length (encode c) = size_from b o ∙ ap (λ (x : List ℕ). size_at x 0) d ∙ size_is c (encoded cs) f.0 in
    let a : call_at b o ≡ c = call_from b o ∙ ap (λ (x : List ℕ). call_at x 0) d ∙ call-is c (encoded cs) f.0 in
    let n : o + size_at b o ≤ length b = omega (arith, s, length-drop o b, ap length d, length-append (encode c) (encoded cs)) in
    let r : drop (o + size_at b o) b ≡ encoded cs = sym (drop-drop (size_at b o) o b) ∙ ap (drop (size_at b o)) d ∙ drop_at (encode c) (encoded cs) (size_at b o) (sym s) in
    rw (yes_le (o + size_at b o) (length b) n) (same_cons a (calls-from cs b (o + size_at b o) k r n (omega arith) f.1))

-- a call takes 32 bytes or more
enough : (cs : List Call) → AllFit cs → 32 * length cs ≤ length (encoded cs)
unfolding encoded AllFit
enough [] f = omega arith
enough (c ∷ cs) f = omega (arith, enough cs f.1, length-append (encode c) (encoded cs), size_low (encode c ++ encoded cs) 0, size_is c (encoded cs) f.0)

pub calls_are : (cs : List Call) → AllFit cs → calls_in (encoded cs) ≡ cs
unfolding calls_in
calls_are cs f = calls-from cs (encoded cs) 0 (length (encoded cs) / 32) refl (omega arith) (omega (arith, enough cs f)) f
