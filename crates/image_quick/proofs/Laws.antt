-- What the quick pass works out: a slab's length, slots by a product, schema and tier by words. Assumes nothing.
use Rattle.std.proofs.Common.{◌≡◌, ℕ, suc, ◌+◌, ◌*◌, ◌%◌, ◌^◌, ◌<◌, ◌≤◌, ◌≢◌, List, sym, refl, ap, ◌∙◌, inl, inr, mul-le-mul_right, mod-eq_of_lt, mul_assoc, mul_comm, mul-suc, mul-add, arith}
use lib.Bits.{bit_or, or_add_and, and_le_l, and_le_r}
use Rattle.model.specs.declared.Row.{Row}
use Rattle.model.specs.Bytes.{get}
use Rattle.model.specs.Image.{schemas, row_place, row_at}
use Rattle.image_quick.specs.declared.Shared.{Shared}
use Rattle.image_quick.specs.Pass.{Start}
use Rattle.image_quick.specs.Seen.{TwoAt, Known, Begun, Followed, Joined, Early, Only, NextTier, Ends, Low, Slotted, Timed, Slab, Here}
use Rattle.model.specs.Layout.{slab_length, column_at, column_behind, stamps_at, stamps_behind, directory}

pub length-is : (n m : ℕ) → n * (8 * m + 8) + stamps_at m ≡ slab_length n m
unfolding slab_length column_at column_behind stamps_at stamps_behind directory
length-is n m = omega (arith, mul-add n (8 * m) 8, mul_assoc n 8 m, mul_assoc 8 n m, mul_comm n 8, mul-suc n m)

-- a product that cannot wrap
pub product_low : (n q : ℕ) → 0 < n → n < 134_217_728 → q * n < 1_006_632_960 → Low n q
product_low n q some few h d l =
    let up : d ≤ q * 4_294_967_296 + 4_294_967_295 = omega arith in
    let one : 1 ≤ n = omega arith in
    omega (arith, mul-le-mul_right n up, mul-le-mul_right q one)

-- two numbers joined by `|` that give 0
pub or_zero : (a b : ℕ) → bit_or a b ≡ 0 → (a ≡ 0) × (b ≡ 0)
or_zero a b z = (omega (arith, or_add_and a b, and_le_r a b, z), omega (arith, or_add_and a b, and_le_l a b, z))

-- ---- words of rows

pub schema_low : {s : List ℕ} {i : ℕ} → Early s i → get 4 s (32 + 64 * i) ≤ i
unfolding row_at row_place
schema_low e = e.schema_low

pub tier-low : {s : List ℕ} {i : ℕ} → Early s i → get 4 s (32 + 64 * i + 4) ≤ i
unfolding row_at row_place
tier-low e = e.tier-low

pub start_is : (s : List ℕ) (i k : ℕ) {w f m : ℕ} → TwoAt s (32 + 64 * i) w → w ≡ k → k < 4_294_967_296
    → f ≡ get 4 s (32 + 64 * i + 24) → f ≡ 0 → m ≡ get 4 s (32 + 64 * i + 28) → m ≢ 0 → Start k (row_at s i)
unfolding row_at row_place
start_is s i k p e l f n m g = record {
  schema_is = omega (arith, p.0, p.1, e, l);
  tier-is = omega (arith, p.0, p.1, e, l);
  no_function = sym f ∙ n;
  some_series = omega (arith, m, g);
}

-- what a first row shares
pub known_start : (s : List ℕ) (i k : ℕ) (p : Shared) → Start k (row_at s i) → p.series ≡ get 4 s (32 + 64 * i + 28) → p.series < 4_294_967_296 → p.high ≡ 4_294_967_296 * p.series
    → p.hash ≡ get 8 s (32 + 64 * i + 56) → Begun s i k p
unfolding row_at row_place
known_start s i k p st m l e h = record { start = st; known = record { series-is = m; high_is = e; hash_is = h; series-low = l; function_low = omega (arith, st.no_function) } }

-- a field of row i + 1, from row i on
next : (w : ℕ) (s : List ℕ) (i a b : ℕ) → a ≡ b + 64 → get w s (32 + 64 * i + a) ≡ get w s (32 + 64 * (i + 1) + b)
next w s i a b e = let q : 32 + 64 * i + a ≡ 32 + 64 * (i + 1) + b = omega (arith, e) in ap (get w s) q

-- the row after row i shares the same
pub followed_is : (s : List ℕ) (i : ℕ) (p : Shared) {x f h d e : ℕ} → Known s i p
    → TwoAt s (32 + 64 * i + 88) x → (f + p.high) % 2 ^ 64 ≡ x → f ≤ 6
    → h ≡ get 8 s (32 + 64 * i + 120) → h ≡ p.hash → d ≡ get 8 s (32 + 64 * i + 8) → e ≡ get 8 s (32 + 64 * i + 72) → d < e → Followed s i p
unfolding row_at row_place
followed_is s i p {x} {f} k a w l h g d e r =
    let whole : f + p.high < 2 ^ 64 = omega (arith, k.high_is, k.series-low, l) in
    let sum : f + p.high ≡ x = sym (mod-eq_of_lt whole) ∙ w in
    let four : 32 + 64 * i + 88 + 4 ≡ 32 + 64 * i + 92 = omega arith in
    let function_is : get 4 s (32 + 64 * (i + 1) + 24) ≡ f = sym (next 4 s i 88 24 refl) ∙ omega (arith, a.0, a.1, sum, k.high_is, l) in
    let series-is : get 4 s (32 + 64 * (i + 1) + 28) ≡ p.series = sym (next 4 s i 92 28 refl) ∙ ap (get 4 s) (sym four) ∙ omega (arith, a.0, a.1, sum, k.high_is, l) in
    let hash_is : get 8 s (32 + 64 * (i + 1) + 56) ≡ p.hash = sym (next 8 s i 120 56 refl) ∙ sym h ∙ g in
    record {
      series-is = series-is ∙ k.series-is;
      hash_is = hash_is ∙ k.hash_is;
      longer = omega (arith, d, e, r, next 8 s i 72 8 refl);
      known = record { series-is = sym series-is; high_is = k.high_is; hash_is = sym hash_is; series-low = k.series-low; function_low = omega (arith, function_is, l) };
    }

-- the schema after row i's
pub next_start : (s : List ℕ) (i : ℕ) {g : ℕ} {q : Shared} → g ≡ get 4 s (32 + 64 * i) → Begun s (i + 1) (g + 1) q → Joined s i q
unfolding row_at row_place
next_start s i {g} e h =
    let k : g + 1 ≡ suc (get 4 s (32 + 64 * i)) = omega (arith, e) in
    record { joins = inr (rw k at h.start); known = h.known }

-- the tier after row i's
pub next-tier : (s : List ℕ) (i : ℕ) {w x : ℕ} {q : Shared} → TwoAt s (32 + 64 * i) w
    → TwoAt s (32 + 64 * i + 64) x → x ≡ w + 4_294_967_296 → Followed s i q → Joined s i q
unfolding row_at row_place
next-tier s i {w} {x} a b e f =
    let n : 32 + 64 * i + 64 ≡ 32 + 64 * (i + 1) = omega arith in
    let b' : TwoAt s (32 + 64 * (i + 1)) x = rw n at b in
    record {
      joins = inl (record {
        schema_is = omega (arith, a.0, a.1, b'.0, b'.1, e);
        tier-is = omega (arith, a.0, a.1, b'.0, b'.1, e);
        series-is = f.series-is;
        hash_is = f.hash_is;
        longer = f.longer;
      });
      known = f.known;
    }

-- the tier after row i's, where all rows are of schema 0
pub next_only : (s : List ℕ) (i : ℕ) {x : ℕ} {q : Shared} → Only s i → TwoAt s (96 + 64 * i) x → x ≡ 4_294_967_296 * (i + 1) → Followed s i q → NextTier s i q
unfolding row_at row_place
next_only s i {x} o b e f =
    let a : 96 + 64 * i ≡ 32 + 64 * i + 64 = omega arith in
    let n : 96 + 64 * i ≡ 32 + 64 * (i + 1) = omega arith in
    let w : TwoAt s (32 + 64 * i) (4_294_967_296 * i) = (omega (arith, o.schema_is, o.tier-is), omega (arith, o.schema_is)) in
    let b' : TwoAt s (32 + 64 * (i + 1)) x = rw n at b in
    record {
      joined = next-tier s i w (rw a at b) (omega (arith, e)) f;
      only = record { schema_is = omega (arith, b'.0, b'.1, e); tier-is = omega (arith, b'.0, b'.1, e) };
    }

-- the last row's schema, by its word
pub ends_is : (s : List ℕ) (i : ℕ) {g l : ℕ} → g ≡ get 4 s 8 → g ≤ 8 → l ≡ get 4 s (32 + 64 * i) → g ≡ l + 1 → Ends s i
unfolding schemas row_at row_place
ends_is s i a f b e = record { few_schemas = omega (arith, a, f); last-is = omega (arith, a, b, e) }

-- the length that row i says
pub len_is : (s : List ℕ) (i : ℕ) {x : ℕ} → x ≡ get 8 s (72 + 64 * i) → x ≡ (row_at s i).len
unfolding row_at row_place
len_is s i e = let q : 72 + 64 * i ≡ 32 + 64 * i + 40 = omega arith in e ∙ ap (get 8 s) q

-- ---- slabs

-- n slots by what is left of the retention, which cannot have wrapped
pub slotted_is : (n d r : ℕ) {x : ℕ} → n * d + d < 2 ^ 63 → (x + n * d) % 2 ^ 64 ≡ r → x < d → Slotted n d r
slotted_is n d r {x} low e l =
    let whole : x + n * d < 2 ^ 64 = omega arith in
    let sum : x + n * d ≡ r = sym (mod-eq_of_lt whole) ∙ e in
    record { held = omega (arith, sum); rest = omega (arith, sum, l); low = low }

-- a slab by its words
pub slab-is : (s : List ℕ) (at : ℕ) (r : Row) (m h : ℕ) {w y n c g high k : ℕ} → m < 4_294_967_296 → high ≡ 4_294_967_296 * m → TwoAt s at w → w ≡ 0x1_4f44_4e52
    → g ≡ get 8 s (at + 8) → g ≡ h → TwoAt s (at + 16) y → (n + high) % 2 ^ 64 ≡ y → n < 134_217_728
    → c ≡ get 4 s (at + 32) → c < n → k ≡ stamps_at m → r.len ≡ n * (8 * m + 8) + k → Timed s at r n → Slab s at r m h
unfolding stamps_at stamps_behind directory
slab-is s at r m h {w} {y} {n} {high = high} few k a named g hash b e l c low stamps len t =
    let whole : n + high < 2 ^ 64 = omega arith in
    let sum : n + high ≡ y = sym (mod-eq_of_lt whole) ∙ e in
    let four : at + 16 + 4 ≡ at + 20 = omega arith in
    let slots-is : n ≡ get 4 s (at + 16) = omega (arith, b.0, b.1, sum, k) in
    let series-is : get 4 s (at + 16 + 4) ≡ m = omega (arith, b.0, b.1, sum, k) in
    let up : n * (8 * m + 8) ≤ 134_217_728 * (8 * m + 8) = mul-le-mul_right (8 * m + 8) (omega arith) in
    record {
      magic_is = omega (arith, a.0, a.1, named);
      version_is = omega (arith, a.0, a.1, named);
      hash_is = sym g ∙ hash;
      series-is = rw four at series-is;
      few_slots = omega (arith, slots-is);
      cursor-low = omega (arith, slots-is, c, low);
      length-is = rw (← slots-is) (len ∙ (ap (λ x. n * (8 * m + 8) + x) stamps ∙ length-is n m));
      head_in = omega (arith, stamps, len);
      small = omega (arith, stamps, len, up);
      timed = rw (← slots-is) t;
    }

pub here-is : (s : List ℕ) (i at : ℕ) (p : Shared) {r : Row} → Known s i p → r ≡ row_at s i → r.offset ≡ at → r.mark < 2 ^ 63 → Slab s at r p.series p.hash → Here s i at
here-is s i at p {r} k e o m h = record {
  function_low = k.function_low;
  mark_low = rw (← e) m;
  offset_is = rw (← e) o;
  slab = rw (k.series-is, k.hash_is, e) at h;
}
