-- The fresh image, part behind part: a row's bytes, the rows, the slabs, the whole. Assumes nothing.
use Rattle.std.specs.Prelude.{ℕ, suc, ◌+◌, ◌*◌, ◌-◌, ◌≤◌, ◌<◌, ◌≡◌, refl, List, ◌++◌, length, take, drop, set, get_or, replicate}
use Rattle.std.proofs.Math.Nat.{sub-zero}
use Rattle.std.proofs.Common.{add-one, arith, ap, ◌∙◌, length-append, drop-cons, length-take-le}
use Rattle.std.proofs.Math.Path.{sym}
use Rattle.std.proofs.lemmas.List.{length-replicate}
use Rattle.model.specs.declared.Row.{Row}
use Rattle.model.specs.Bytes.{bytes, part, splice, put, get}
use Rattle.model.specs.Image.{row_count, row_place, row_at, row_length, row_bytes, placed_row, placed_rows, all_rows, slabs_end, image_length, fresh_slabs, fresh_image}
use borrow.Rule.Slice.PartMut.{put_mid}
use Rattle.laws.specs.Bytes.{splice_nil, splice_cons, splice-append, splice_front, splice-whole, length-bytes, length-splice, length_part, lent-splice}
use Rattle.laws.specs.Fresh.{fresh_of, length-fresh_of, length_slabs, length-row, length-rows}
use Rattle.image_theory.specs.Rows.{length-rows_from}
use Rattle.rows.specs.Rows.{rows_to, rows_all, rows_step, rows_end}
use Rattle.layout.specs.Ends.{capped, ends_more}
use Rattle.slab_bytes.specs.Fresh.{put-splice, Front, front_none, front_field, front_part}

-- ---- a row

module _ (r : Row) where
  -- the first five fields
  abbrev low : List ℕ
  low = bytes 4 r.schema ++ bytes 4 r.tier ++ bytes 8 r.interval ++ bytes 8 r.retention ++ bytes 4 r.function

  pub low-made : (s : List ℕ) {x1 x2 x3 x4 x5 : List ℕ} → x1 ≡ put 4 s 0 r.schema → x2 ≡ put 4 x1 4 r.tier → x3 ≡ put 8 x2 8 r.interval
      → x4 ≡ put 8 x3 16 r.retention → x5 ≡ put 4 x4 24 r.function → x5 ≡ splice s 0 low
  low-made s e1 e2 e3 e4 e5 =
      let to_schema = front_field 4 r.schema (front_none s) e1 in
      let to_tier = front_field 4 r.tier to_schema e2 in
      let to_interval = front_field 8 r.interval to_tier e3 in
      let to_retention = front_field 8 r.retention to_interval e4 in
      (front_field 4 r.function to_retention e5).is

  pub row_made : (s : List ℕ) {x5 x6 x7 x8 x9 x10 : List ℕ} → length s ≡ 64 → x5 ≡ splice s 0 low → x6 ≡ put 4 x5 28 r.series → x7 ≡ put 8 x6 32 r.offset → x8 ≡ put 8 x7 40 r.len
      → x9 ≡ put 8 x8 48 r.mark → x10 ≡ put 8 x9 56 r.hash → x10 ≡ row_bytes r
  unfolding row_bytes
  row_made s h e5 e6 e7 e8 e9 e10 =
      let to_function : Front s _ low 28 = record { is = e5; long = simp (length-append, length-bytes) } in
      let to_series = front_field 4 r.series to_function e6 in
      let to_offset = front_field 8 r.offset to_series e7 in
      let to_len = front_field 8 r.len to_offset e8 in
      let to_mark = front_field 8 r.mark to_len e9 in
      (front_field 8 r.hash to_mark e10).is ∙ splice-whole s (row_bytes r) (length-row r ∙ sym h)

-- ---- a part lent as `&mut im[a..a + k]`

pub lent : (im : List ℕ) (a k : ℕ) (ys : List ℕ) → a + k ≤ length im → length ys ≡ k → put_mid a (a + k - a) im ys ≡ splice im a ys
lent im a k ys h l = let e : a + k - a ≡ k = omega arith in rw e (lent-splice im a k ys h l)

pub lent-long : (im : List ℕ) (a k : ℕ) → a + k ≤ length im → length (take (a + k - a) (drop a im)) ≡ k
unfolding part
lent-long im a k h = let e : a + k - a ≡ k = omega arith in rw e (length_part im a k h)

pub lent-kept : (im : List ℕ) (a k : ℕ) (ys : List ℕ) → a + k ≤ length im → length ys ≡ k → length (put_mid a (a + k - a) im ys) ≡ length im
lent-kept im a k ys h l = ap length (lent im a k ys h l) ∙ length-splice im a ys

-- ---- the rows, one behind the other

rows_on : (p : List ℕ) (n i : ℕ) → i < n → (im : List ℕ) (at : ℕ)
    → splice (splice im (32 + 64 * i) (row_bytes (placed_row (row_at p i) at))) (32 + 64 * (i + 1)) (all_rows (placed_rows (at + row_length (row_at p i)) (rows_to p n (i + 1))))
    ≡ splice im (32 + 64 * i) (all_rows (placed_rows at (rows_to p n i)))
unfolding all_rows placed_rows
rows_on p n i h im at =
    let r = row_at p i in
    let b = row_bytes (placed_row r at) in
    let e : 32 + 64 * i + length b ≡ 32 + 64 * (i + 1) = omega (arith, length-row (placed_row r at)) in
    sym (rw (rows_step p n i h) (splice-append b (all_rows (placed_rows (at + row_length r) (rows_to p n (i + 1)))) im (32 + 64 * i) ∙ rw e))

-- a row lent to its writer, and come back
pub rows_turn : (p : List ℕ) (n i : ℕ) → i < n → (im : List ℕ) (at : ℕ) {len : ℕ} {ys : List ℕ} → 32 + 64 * n ≤ length im → len ≡ row_length (row_at p i)
    → ys ≡ row_bytes (placed_row (row_at p i) at)
    → splice (put_mid (32 + 64 * i) (32 + 64 * i + 64 - (32 + 64 * i)) im ys) (32 + 64 * (i + 1)) (all_rows (placed_rows (at + len) (rows_to p n (i + 1))))
    ≡ splice im (32 + 64 * i) (all_rows (placed_rows at (rows_to p n i)))
rows_turn p n i h im at {ys = ys} l e f =
    let g = ap length f ∙ length-row (placed_row (row_at p i) at) in
    rw (lent im (32 + 64 * i) 64 ys (omega arith) g, e, f) (rows_on p n i h im at)

pub rows_none : (p : List ℕ) (n i : ℕ) (im : List ℕ) (o at : ℕ) → n ≤ i → splice im o (all_rows (placed_rows at (rows_to p n i))) ≡ im
unfolding all_rows placed_rows
rows_none p n i im o at h = rw (rows_end p n i h) (splice_nil im o)

-- ---- the slabs, one behind the other

slabs_on : (p : List ℕ) (n i : ℕ) → i < n → (im : List ℕ) (at : ℕ)
    → splice (splice im at (fresh_of (row_at p i))) (at + row_length (row_at p i)) (fresh_slabs (rows_to p n (i + 1))) ≡ splice im at (fresh_slabs (rows_to p n i))
unfolding fresh_slabs
slabs_on p n i h im at =
    sym (rw (rows_step p n i h) (splice-append (fresh_of (row_at p i)) (fresh_slabs (rows_to p n (i + 1))) im at ∙ rw length-fresh_of))

-- a slab lent to its writer, and come back
pub slabs_turn : (p : List ℕ) (n i : ℕ) → i < n → (im : List ℕ) (at : ℕ) {len : ℕ} {ys : List ℕ} → at + len ≤ length im → len ≡ row_length (row_at p i)
    → ys ≡ fresh_of (row_at p i) → splice (put_mid at (at + len - at) im ys) (at + len) (fresh_slabs (rows_to p n (i + 1))) ≡ splice im at (fresh_slabs (rows_to p n i))
slabs_turn p n i h im at {len} {ys} l e f =
    let g : length ys ≡ len = ap length f ∙ length-fresh_of (row_at p i) ∙ sym e in
    rw (lent im at len ys l g, e, f) (slabs_on p n i h im at)

-- the next slab fits: its length is no more than 2^40, and the slice holds it
pub slabs_fit : (p : List ℕ) (n i : ℕ) → i < n → (at total room : ℕ) {r : Row} {len : ℕ} → r ≡ row_at p i → len ≡ capped (row_length r) → slabs_end at (rows_to p n i) ≡ total
    → total ≤ 1099511627776 → total ≤ room → (len ≡ row_length r) × (at + len ≤ room)
slabs_fit p n i h at total room e f g a b =
    let m = ends_more p n i h at in
    let q = ap row_length e in
    (omega arith, omega arith)

pub slabs_none : (p : List ℕ) (n i : ℕ) (im : List ℕ) (at : ℕ) → n ≤ i → splice im at (fresh_slabs (rows_to p n i)) ≡ im
unfolding fresh_slabs
slabs_none p n i im at h = rw (rows_end p n i h) (splice_nil im at)

-- ---- the first 16 bytes

pub copy_on : (s p : List ℕ) (i : ℕ) → i < 16 → i < length p
    → splice (set s i (get_or p i 0)) (i + 1) (take (16 - (i + 1)) (drop (i + 1) p)) ≡ splice s i (take (16 - i) (drop i p))
copy_on s p i h l =
    let e : 16 - i ≡ suc (16 - (i + 1)) = omega arith in
    rw (e, drop-cons p i 0 l, add-one i) (sym (splice_cons s i (get_or p i 0) (take (16 - suc i) (drop (suc i) p))))

pub copy_end : (s p : List ℕ) (i : ℕ) → 16 ≤ i → splice s i (take (16 - i) (drop i p)) ≡ s
copy_end s p i h = let e : 16 - i ≡ 0 = omega arith in rw e (splice_nil s i)

-- ---- the whole

module _ (p s : List ℕ) (fits : 32 ≤ length p) where
  abbrev N : ℕ
  N = get 4 p 12

  abbrev R : List Row
  R = rows_to p N 0

  abbrev placed : List ℕ
  placed = all_rows (placed_rows (32 + 64 * N) R)

  -- the parts one behind the other
  abbrev parts : List ℕ
  parts = take 16 p ++ bytes 8 (image_length p) ++ replicate 8 0 ++ placed ++ fresh_slabs R

  ends : slabs_end (32 + 64 * N) R ≡ image_length p
  unfolding image_length row_place row_count
  ends = rw (rows_all p)

  count : length R ≡ N
  unfolding rows_to
  count = rw sub-zero (length-rows_from p 0 N)

  -- how long the first part is, the rows, and all
  head-long : length (take 16 p) ≡ 16
  head-long = length-take-le 16 p (omega arith)

  placed-long : length placed ≡ 64 * N
  placed-long = length-rows (32 + 64 * N) R ∙ rw count

  parts-long : length parts ≡ image_length p
  parts-long = simp (length-append, length-bytes, length-replicate, head-long, placed-long) (omega (arith, length_slabs (32 + 64 * N) R, ends))

  fresh-is : parts ≡ fresh_image p
  unfolding fresh_image row_place row_count
  fresh-is = rw (rows_all p)

  zeros : (t : List ℕ) → put 8 t 24 0 ≡ splice t 24 (replicate 8 0)
  unfolding bytes
  zeros t = put-splice 8 t 24 0

  pub image_made : {b : List ℕ} {n l : ℕ} {x1 x2 x3 x4 x5 : List ℕ} → image_length p ≤ length s → b ≡ p → n ≡ get 4 p 12 → l ≡ image_length p → x1 ≡ splice s 0 (take 16 p) → x2 ≡ put 8 x1 16 l
      → x3 ≡ put 8 x2 24 0 → x4 ≡ splice x3 32 (all_rows (placed_rows (32 + 64 * n) (rows_to b n 0))) → x5 ≡ splice x4 (32 + 64 * n) (fresh_slabs (rows_to b n 0))
      → x5 ≡ fresh_image p ++ drop (image_length p) s
  image_made {x2 = x2} h is en el e1 e2 e3 e4 e5 =
      let head : Front s _ (take 16 p) 16 = record { is = e1; long = head-long } in
      let to_length = front_field 8 (image_length p) head (rw el at e2) in
      let header = front_part (replicate 8 0) to_length (length-replicate {A = ℕ} 8 0) (e3 ∙ zeros x2) in
      let to_rows = front_part placed header placed-long (rw (is, en) at e4) in
      let all = front_part (fresh_slabs R) to_rows refl (rw (is, en) at e5) in
      let f : length parts ≤ length s = omega (arith, parts-long) in
      let e : splice s 0 parts ≡ fresh_image p ++ drop (image_length p) s = splice_front s parts f ∙ rw (parts-long, fresh-is) in
      all.is ∙ e
