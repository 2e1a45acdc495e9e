-- The fresh image of a plan, read back: each row is the plan's row with its slab's place, each field cut to its width; each row's slab is a fresh one.
-- Nothing is supposed of the plan but its length, so numbers too large for their fields are let in. Assumes nothing.
use Rattle.std.specs.Prelude.{ℕ, zero, suc, ◌+◌, ◌%◌, ◌^◌, ◌≤◌, ◌<◌, ◌≡◌, refl, length, take}
use Rattle.std.proofs.Common.{add-zero, arith, ◌∙◌, length-take-le}
use Rattle.std.proofs.Math.Nat.{zero-add}
use Rattle.std.proofs.Math.Path.{sym, ap}
use mathlib.Core.List.{List, [], ◌∷◌, ◌++◌, append_assoc}
use Rattle.std.proofs.Math.ListN.{length-append}
use Rattle.model.specs.declared.Row.{Row}
use Rattle.model.specs.Bytes.{bytes, part, get, u64}
use Rattle.model.specs.Image.{schemas, row_count, total_length, row_place, mark_at, row_at, rows_from, rows, row_length, slabs_end, image_length, placed_row, placed_rows, row_bytes, all_rows, fresh_slabs, fresh_image}
use Rattle.laws.specs.Bytes.{get-part}
use Rattle.laws.specs.Fresh.{fresh_of, length-fresh_of, length_slabs, length-row, length-rows}
use Rattle.image_theory.specs.Rows.{length-rows_from}
use Rattle.image_theory.specs.Good.{slab_start}
use Rattle.fresh_theory.specs.Fields.{Field, fields, place_of, field_at, IsField, get_field, part_skip, part-here, get_skip, get_front}

-- a row with each field cut to its width
unfoldable pub cut_row : Row → Row
cut_row r = record {
  schema = r.schema % 256 ^ 4;
  tier = r.tier % 256 ^ 4;
  interval = r.interval % 256 ^ 8;
  retention = r.retention % 256 ^ 8;
  function = r.function % 256 ^ 4;
  series = r.series % 256 ^ 4;
  offset = r.offset % 256 ^ 8;
  len = r.len % 256 ^ 8;
  mark = r.mark % 256 ^ 8;
  hash = r.hash % 256 ^ 8;
}

-- the fresh image, and what stands behind it in the slice
abbrev pub made : List ℕ → List ℕ → List ℕ
made p tail = fresh_image p ++ tail

-- ---- one row

row_fields : Row → List Field
row_fields r =
    record { width = 4; value = r.schema } ∷ record { width = 4; value = r.tier } ∷ record { width = 8; value = r.interval }
    ∷ record { width = 8; value = r.retention } ∷ record { width = 4; value = r.function } ∷ record { width = 4; value = r.series }
    ∷ record { width = 8; value = r.offset } ∷ record { width = 8; value = r.len } ∷ record { width = 8; value = r.mark }
    ∷ record { width = 8; value = r.hash } ∷ []

row-fields : (r : Row) → row_bytes r ≡ fields (row_fields r)
unfolding row_bytes fields row_fields bytes
row-fields r = refl

row_back : (pre : List ℕ) (r : Row) (rest : List ℕ) (i : ℕ) → length pre ≡ row_place i → row_at (pre ++ (row_bytes r ++ rest)) i ≡ cut_row r
unfolding row_at mark_at cut_row row_fields field_at place_of
row_back pre r rest i e =
    let o = add-zero (row_place i) in
    λ x. record {
      schema = (ap (get 4 (pre ++ (row_bytes r ++ rest))) (sym o) ∙ field 0 (omega arith)) x;
      tier = field 1 (omega arith) x;
      interval = field 2 (omega arith) x;
      retention = field 3 (omega arith) x;
      function = field 4 (omega arith) x;
      series = field 5 (omega arith) x;
      offset = field 6 (omega arith) x;
      len = field 7 (omega arith) x;
      mark = field 8 (omega arith) x;
      hash = field 9 (omega arith) x;
    }
  where
    field : (k : ℕ) → k < 10 → IsField (pre ++ (row_bytes r ++ rest)) (row_place i + place_of (row_fields r) k) (field_at (row_fields r) k)
    field k l = get_skip (field_at (row_fields r) k).width pre (row_bytes r ++ rest) (row_place i) (place_of (row_fields r) k) e
        ∙ rw (row-fields r) (get_field (row_fields r) rest k l)

-- ---- all rows

rows_back : (p pre rest : List ℕ) (at i k : ℕ) → length pre ≡ row_place i → (j : ℕ) → j < k
    → row_at (pre ++ (all_rows (placed_rows at (rows_from p i k)) ++ rest)) (i + j) ≡ cut_row (placed_row (row_at p (i + j)) (slabs_end at (rows_from p i j)))
unfolding rows_from placed_rows all_rows slabs_end
rows_back p pre rest at i zero e j l = absurd (omega arith)
rows_back p pre rest at i (suc k) e zero l =
    let q = placed_row (row_at p i) at in
    let more = all_rows (placed_rows (at + row_length (row_at p i)) (rows_from p (suc i) k)) in
    rw (add-zero i, append_assoc (row_bytes q) more rest) (row_back pre q (more ++ rest) i e)
rows_back p pre rest at i (suc k) e (suc j) l =
    let q = placed_row (row_at p i) at in
    let more = all_rows (placed_rows (at + row_length (row_at p i)) (rows_from p (suc i) k)) in
    let n : i + suc j ≡ suc i + j = omega arith in
    rw (n, append_assoc (row_bytes q) more rest, ← append_assoc pre (row_bytes q) (more ++ rest))
    (rows_back p (pre ++ row_bytes q) rest (at + row_length (row_at p i)) (suc i) k (longer (length-append pre (row_bytes q)) (length-row q)) j (omega arith))
  where
    next : row_place i + 64 ≡ row_place (suc i)
    next = unfold row_place in (omega arith)

    longer : {x y : ℕ} → x ≡ length pre + y → y ≡ 64 → x ≡ row_place (suc i)
    longer f g = omega (arith, next)

-- ---- the slabs

slabs_back : (p pre rest : List ℕ) (at i k : ℕ) → length pre ≡ at → (j : ℕ) → j < k
    → part (pre ++ (fresh_slabs (rows_from p i k) ++ rest)) (slabs_end at (rows_from p i j)) (row_length (row_at p (i + j))) ≡ fresh_of (row_at p (i + j))
unfolding rows_from fresh_slabs slabs_end
slabs_back p pre rest at i zero e j l = absurd (omega arith)
slabs_back p pre rest at i (suc k) e zero l =
    let r = row_at p i in
    let more = fresh_slabs (rows_from p (suc i) k) in
    rw (add-zero i, append_assoc (fresh_of r) more rest) (here r (more ++ rest))
  where
    here : (r : Row) (ys : List ℕ) → part (pre ++ (fresh_of r ++ ys)) at (row_length r) ≡ fresh_of r
    here r ys = ap (λ (o : ℕ). part (pre ++ (fresh_of r ++ ys)) o (row_length r)) (sym (add-zero at))
        ∙ part_skip pre (fresh_of r ++ ys) at 0 (row_length r) e ∙ part-here (fresh_of r) ys (row_length r) (length-fresh_of r)
slabs_back p pre rest at i (suc k) e (suc j) l =
    let r = row_at p i in
    let more = fresh_slabs (rows_from p (suc i) k) in
    let n : i + suc j ≡ suc i + j = omega arith in
    rw (n, append_assoc (fresh_of r) more rest, ← append_assoc pre (fresh_of r) (more ++ rest))
    (slabs_back p (pre ++ fresh_of r) rest (at + row_length r) (suc i) k (length-append pre (fresh_of r) ∙ rw (e, length-fresh_of r)) j (omega arith))

-- ---- the image

module _ (p tail : List ℕ) (long : 32 ≤ length p) where
  slabs : List ℕ
  slabs = fresh_slabs (rows p) ++ tail

  table : List ℕ
  table = all_rows (placed_rows (row_place (row_count p)) (rows p)) ++ slabs

  size_fields : List Field
  size_fields = record { width = 8; value = image_length p } ∷ record { width = 8; value = 0 } ∷ []

  -- the header, and what stands before the slabs
  header : List ℕ
  header = take 16 p ++ fields size_fields

  front : List ℕ
  front = header ++ all_rows (placed_rows (row_place (row_count p)) (rows p))

  image_header : made p tail ≡ header ++ table
  unfolding fresh_image header table slabs size_fields fields bytes
  image_header = simp append_assoc

  image_front : made p tail ≡ front ++ slabs
  unfolding front table
  image_front = image_header ∙ sym (append_assoc header (all_rows (placed_rows (row_place (row_count p)) (rows p))) slabs)

  length-header : length header ≡ 32
  unfolding header size_fields fields bytes
  length-header = length-append (take 16 p) (fields size_fields) ∙ rw (length-take-le 16 p (omega arith))

  length_front : length front ≡ row_place (row_count p)
  unfolding front row_place rows
  length_front =
      length-append header (all_rows (placed_rows (row_place (row_count p)) (rows_from p 0 (row_count p))))
      ∙ rw (length-header, length-rows (row_place (row_count p)) (rows_from p 0 (row_count p)), length-rows_from p 0 (row_count p))

  sixteen : length (take 16 p) ≡ 16
  sixteen = length-take-le 16 p (omega arith)

  -- the plan's first 16 bytes are taken over
  pub low_back : (w o : ℕ) → o + w ≤ 16 → get w (made p tail) o ≡ get w p o
  unfolding header
  low_back w o h =
      rw image_header
      (get_front w header table o (omega (arith, length-header)) ∙ get_front w (take 16 p) (fields size_fields) o (omega (arith, sixteen))
      ∙ taken ∙ ap (get w p) (zero-add o))
    where
      taken : get w (take 16 p) o ≡ get w p (0 + o)
      taken = unfold part in (get-part w p 0 16 o h)

  size_field : (k : ℕ) → k < 2 → IsField (made p tail) (16 + place_of size_fields k) (field_at size_fields k)
  unfolding header
  size_field k l =
      rw (image_header, append_assoc (take 16 p) (fields size_fields) table)
      (get_skip (field_at size_fields k).width (take 16 p) (fields size_fields ++ table) 16 (place_of size_fields k) sixteen
      ∙ get_field size_fields table k (unfold size_fields in l))

  pub total_back : total_length (made p tail) ≡ image_length p % 256 ^ 8
  unfolding total_length size_fields field_at place_of
  total_back = size_field 0 (omega arith)

  pub zero_back : u64 (made p tail) 24 ≡ 0
  unfolding size_fields field_at place_of
  zero_back = size_field 1 (omega arith)

  pub count_back : row_count (made p tail) ≡ row_count p
  unfolding row_count
  count_back = low_back 4 12 (omega arith)

  pub schemas_back : schemas (made p tail) ≡ schemas p
  unfolding schemas
  schemas_back = low_back 4 8 (omega arith)

  pub row-at_back : (i : ℕ) → i < row_count p → row_at (made p tail) i ≡ cut_row (placed_row (row_at p i) (slab_start p i))
  unfolding table rows
  row-at_back i l = rw image_header (rw zero-add at (rows_back p header slabs (row_place (row_count p)) 0 (row_count p) (length-header ∙ unfold row_place in refl) i l))

  pub slab-at_back : (i : ℕ) → i < row_count p → part (made p tail) (slab_start p i) (row_length (row_at p i)) ≡ fresh_of (row_at p i)
  unfolding slabs rows
  slab-at_back i l = rw image_front (rw zero-add at (slabs_back p front tail (row_place (row_count p)) 0 (row_count p) length_front i l))

  pub length_back : image_length p ≤ length (made p tail)
  unfolding image_length slabs
  length_back =
      let e = length_slabs (row_place (row_count p)) (rows p) in
      rw image_front (omega (arith, length-append front slabs, length-append (fresh_slabs (rows p)) tail, length_front))
