-- A fresh slab as it is written, part behind part. Assumes nothing.
use Rattle.std.specs.Prelude.{ℕ, suc, ◌+◌, ◌*◌, ◌-◌, ◌≤◌, ◌<◌, ◌≡◌, length, set, replicate}
use Rattle.std.proofs.Common.{add-one, ap, ◌∙◌, length-append}
use native.Mathlib.Omega.{arith}
use Rattle.std.proofs.Math.Path.{refl, sym}
use mathlib.Core.List.{List, [], ◌∷◌, ◌++◌}
use Rattle.std.proofs.lemmas.List.{length-replicate}
use Rattle.model.specs.Bytes.{bytes, splice, put}
use Rattle.model.specs.Layout.{stamps_at, stamps_behind, slab_length, directory, fresh_head, fresh_slab, copies, fresh_value}
use Rattle.laws.specs.Bytes.{splice_nil, splice_cons, splice-append, splice-whole, grow, length-bytes}
use Rattle.laws.specs.Fresh.{length-head, length-fresh}

-- ---- fills, one turn

pub fill_on : (s : List ℕ) (i end b : ℕ) → i < end → splice (set s i b) (i + 1) (replicate (end - (i + 1)) b) ≡ splice s i (replicate (end - i) b)
fill_on s i end b h = let e : end - i ≡ suc (end - (i + 1)) = omega arith in rw (e, splice_cons s i b (replicate (end - (i + 1)) b), add-one i)

pub fill_end : (s : List ℕ) (i end b : ℕ) → end ≤ i → splice s i (replicate (end - i) b) ≡ s
fill_end s i end b h = let e : end - i ≡ 0 = omega arith in rw e (splice_nil s i)

-- stored words are a splice of their bytes
pub put-splice : (w : ℕ) (s : List ℕ) (at x : ℕ) → put w s at x ≡ splice s at (bytes w x)
unfolding put
put-splice w s at x = refl

pub cells_on : (s : List ℕ) (at left : ℕ) → 0 < left
    → splice (put 8 s at 0x7ff8_0000_0000_0000) (at + 8) (copies (left - 1) (bytes 8 fresh_value)) ≡ splice s at (copies left (bytes 8 fresh_value))
unfolding copies fresh_value
cells_on s at left h =
    let e : left ≡ suc (left - 1) = omega arith in
    let v = bytes 8 0x7ff8_0000_0000_0000 in
    let z : length v ≡ 8 = length-bytes 8 0x7ff8_0000_0000_0000 in
    sym (ap (λ (k : ℕ). splice s at (copies k v)) e ∙ splice-append v (copies (left - 1) v) s at ∙ rw (z, put-splice))

-- the same by the cell's index
pub cells_next : (s : List ℕ) (from count i : ℕ) → i < count
    → splice (put 8 s (from + 8 * i) 0x7ff8_0000_0000_0000) (from + 8 * (i + 1)) (copies (count - (i + 1)) (bytes 8 fresh_value))
    ≡ splice s (from + 8 * i) (copies (count - i) (bytes 8 fresh_value))
unfolding copies fresh_value
cells_next s from count i h =
    let e : count - i ≡ suc (count - (i + 1)) = omega arith in
    let v = bytes 8 0x7ff8_0000_0000_0000 in
    let z : length v ≡ 8 = length-bytes 8 0x7ff8_0000_0000_0000 in
    let on : from + 8 * i + length v ≡ from + 8 * (i + 1) = omega (arith, z) in
    sym (ap (λ (k : ℕ). splice s (from + 8 * i) (copies k v)) e ∙ splice-append v (copies (count - (i + 1)) v) s (from + 8 * i) ∙ rw (on, put-splice))

pub cells_end : (s : List ℕ) (at left : ℕ) → left ≤ 0 → splice s at (copies left (bytes 8 fresh_value)) ≡ s
unfolding copies
cells_end s at left h = let e : left ≡ 0 = omega arith in rw e (splice_nil s at)

-- ---- the parts of a fresh slab

-- t is s with xs put at its front: k bytes
pub record Front (s t xs : List ℕ) (k : ℕ) : Type 0 where
  pub is : t ≡ splice s 0 xs
  pub long : length xs ≡ k

pub front_none : (s : List ℕ) → Front s s [] 0
front_none s = record { is = sym (splice_nil s 0); long = refl }

-- a part put right behind, and a field
pub front_part : {s t u xs : List ℕ} {k : ℕ} (ys : List ℕ) {j : ℕ} → Front s t xs k → length ys ≡ j → u ≡ splice t k ys → Front s u (xs ++ ys) (k + j)
front_part {s} {xs = xs} {k} ys f l e = record { is = e ∙ grow s xs ys k f.is f.long; long = omega (arith, length-append xs ys, f.long, l) }

pub front_field : {s t u xs : List ℕ} {k : ℕ} (w x : ℕ) → Front s t xs k → u ≡ put w t k x → Front s u (xs ++ bytes w x) (k + w)
front_field w x f e = front_part (bytes w x) f (length-bytes w x) (e ∙ put-splice w _ _ x)

module _ (hash n m interval : ℕ) where
  -- the header, field behind field
  pub head-made : (s : List ℕ) {x1 x2 x3 x4 x5 x6 x7 : List ℕ} → x1 ≡ put 4 s 0 0x4f444e52 → x2 ≡ put 4 x1 4 1 → x3 ≡ put 8 x2 8 hash → x4 ≡ put 4 x3 16 n
      → x5 ≡ put 4 x4 20 m → x6 ≡ put 8 x5 24 interval → x7 ≡ splice x6 32 (replicate 32 0) → x7 ≡ splice s 0 (fresh_head hash n m interval)
  unfolding fresh_head
  head-made s e1 e2 e3 e4 e5 e6 e7 =
      let to_version = front_field 4 1 (magic e1) e2 in
      let to_hash = front_field 8 hash to_version e3 in
      let to_sizes = front_field 4 m (front_field 4 n to_hash e4) e5 in
      let to_interval = front_field 8 interval to_sizes e6 in
      (front_part (replicate 32 0) to_interval (length-replicate {A = ℕ} 32 0) e7).is
    where
      magic : {x : List ℕ} → x ≡ put 4 s 0 0x4f444e52 → Front s x (0x52 ∷ 0x4e ∷ 0x44 ∷ 0x4f ∷ []) 4
      magic e = unfold bytes in (front_field 4 0x4f444e52 (front_none s) e)

  -- the slab, part behind part; the stamps stand at k
  pub slab-made : (s : List ℕ) {x7 x8 x9 x10 : List ℕ} {k : ℕ} → length s ≡ slab_length n m → k ≡ stamps_at m → x7 ≡ splice s 0 (fresh_head hash n m interval)
      → x8 ≡ splice x7 64 (replicate (k - 64) 255) → x9 ≡ splice x8 k (replicate (k + 8 * n - k) 0) → x10 ≡ splice x9 (k + 8 * n) (copies (n * m) (bytes 8 fresh_value))
      → x10 ≡ fresh_slab hash n m interval
  unfolding fresh_slab directory stamps_at stamps_behind
  slab-made s h e e7 e8 e9 e10 =
      let head : Front s _ (fresh_head hash n m interval) 64 = record { is = e7; long = length-head hash n m interval } in
      let a : 64 + 4 * m - 64 ≡ 4 * m = omega arith in
      let b : 64 + 4 * m + 8 * n - (64 + 4 * m) ≡ 8 * n = omega arith in
      let entries = front_part (replicate (4 * m) 255) head (length-replicate {A = ℕ} (4 * m) 255) (rw (e, a) at e8) in
      let stamps = front_part (replicate (8 * n) 0) entries (length-replicate {A = ℕ} (8 * n) 0) (rw (e, b) at e9) in
      (front_part (copies (n * m) (bytes 8 fresh_value)) stamps refl (rw e at e10)).is ∙ splice-whole s (fresh_slab hash n m interval) (length-fresh hash n m interval ∙ sym h)
