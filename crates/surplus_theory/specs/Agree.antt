-- Two slices that agree up to a length: the same fields, the same rows, the same checks of header, rows and layout. Assumes nothing.
use Rattle.std.specs.Prelude.{ℕ, ◌+◌, ◌≤◌, ◌≡◌, List, length}
use Rattle.std.proofs.Common.{zero-add, arith, sym, ap, ◌∙◌}
use Rattle.laws.specs.Tests.{yes_le}
use Rattle.laws.specs.Bytes.{part-part, get-part}
use Rattle.model.specs.Bytes.{get, part}
use Rattle.model.specs.declared.Row.{Row}
use Rattle.model.specs.Image.{schemas, row_count, total_length, row_place, mark_at, row_at, rows, image_length, header, shape, blank, layout_check}
use Rattle.image_theory.specs.Rows.{rows_from-same}

-- the first n bytes are the same
pub record Agree (n : ℕ) (s t : List ℕ) : Type 0 where
  pub same : part s 0 n ≡ part t 0 n

module _ {n : ℕ} {s t : List ℕ} (a : Agree n s t) where
  pub get-same : (w p : ℕ) → p + w ≤ n → get w s p ≡ get w t p
  get-same w p h =
      let x : get w (part s 0 n) p ≡ get w s p = rw (get-part w s 0 n p h, zero-add) in
      let y : get w (part t 0 n) p ≡ get w t p = rw (get-part w t 0 n p h, zero-add) in
      sym x ∙ ap (λ (l : List ℕ). get w l p) a.same ∙ y

  pub part_same : (p w : ℕ) → p + w ≤ n → part s p w ≡ part t p w
  part_same p w h =
      let x : part (part s 0 n) p w ≡ part s p w = rw (part-part s 0 n p w h, zero-add) in
      let y : part (part t 0 n) p w ≡ part t p w = rw (part-part t 0 n p w h, zero-add) in
      sym x ∙ ap (λ (l : List ℕ). part l p w) a.same ∙ y

  row_same : (i : ℕ) → row_place i + 64 ≤ n → row_at s i ≡ row_at t i
  unfolding row_at mark_at
  row_same i h =
      rw (
        get-same 4 (row_place i) (omega arith),
        get-same 4 (row_place i + 4) (omega arith),
        get-same 8 (row_place i + 8) (omega arith),
        get-same 8 (row_place i + 16) (omega arith),
        get-same 4 (row_place i + 24) (omega arith),
        get-same 4 (row_place i + 28) (omega arith),
        get-same 8 (row_place i + 32) (omega arith),
        get-same 8 (row_place i + 40) (omega arith),
        get-same 8 (row_place i + 48) (omega arith),
        get-same 8 (row_place i + 56) (omega arith),
      )

  module _ (h : row_place (row_count s) ≤ n) where
    here : 32 ≤ n
    here = unfold row_place in (omega arith)

    pub count_same : row_count s ≡ row_count t
    unfolding row_count
    count_same = get-same 4 12 (omega (arith, here))

    pub schemas-same : schemas s ≡ schemas t
    unfolding schemas
    schemas-same = get-same 4 8 (omega (arith, here))

    pub total_same : total_length s ≡ total_length t
    unfolding total_length
    total_same = get-same 8 16 (omega (arith, here))

    pub rows_same : rows s ≡ rows t
    unfolding rows row_place
    rows_same = rw (← count_same) (rows_from-same s t 0 (row_count s) (λ j p q. row_same j (unfold row_place in (omega arith))))

    pub length-same : image_length s ≡ image_length t
    unfolding image_length
    length-same = rw (rows_same, count_same)

    pub layout_same : (f : Row → ℕ) → layout_check f s ≡ layout_check f t
    unfolding layout_check
    layout_same f = rw (rows_same, schemas-same, length-same)

    pub blank-same : blank s ≡ blank t
    unfolding blank
    blank-same = rw (rows_same, total_same)

    pub shape_same : n ≤ length s → n ≤ length t → shape s ≡ shape t
    unfolding shape header
    shape_same ls lt =
        let c : row_place (row_count t) ≤ n = rw (← count_same) h in
        rw (
          yes_le 32 (length s) (omega (arith, here)),
          yes_le 32 (length t) (omega (arith, here)),
          yes_le (row_place (row_count s)) (length s) (omega arith),
          yes_le (row_place (row_count t)) (length t) (omega arith),
          get-same 4 0 (omega (arith, here)),
          get-same 4 4 (omega (arith, here)),
          get-same 8 24 (omega (arith, here)),
          schemas-same,
          count_same,
          rows_same,
        )
