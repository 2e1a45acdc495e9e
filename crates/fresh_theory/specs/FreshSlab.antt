-- A fresh slab: its header's fields, cursor 0, every stamp 0, every cell the fresh value; so it suits its row, and it is a ring that took
-- nothing. Creation makes every slab so, and the theorem about lists of calls starts from there. Assumes nothing.
use Rattle.std.specs.Prelude.{ℕ, ◌+◌, ◌*◌, ◌%◌, ◌^◌, ◌<◌, ◌≡◌, refl, false, replicate}
use Rattle.std.proofs.Common.{mul-le-mul_left, sym, ap, ◌∙◌, lit<}
use Rattle.std.proofs.Math.Nat.{mod-eq_of_lt}
use native.Mathlib.Omega.{arith}
use mathlib.Core.List.{List, [], ◌∷◌, ◌++◌, append_assoc, append-nil}
use Rattle.std.proofs.lemmas.List.{length-replicate}
use Rattle.model.specs.declared.Row.{Row}
use Rattle.model.specs.Bytes.{le, bytes, part, get, u32, u64}
use Rattle.model.specs.Layout.{directory, stamps_behind, column_behind, stamps_at, column_at, copies, fresh_value, fresh_head, fresh_slab}
use Rattle.model.specs.Image.{row_slots}
use Rattle.model.specs.Ring.{slots, series, interval, cursor, stamp_at, cell_at, stamp, cell}
use Rattle.laws.specs.Bytes.{length-bytes, le_bytes}
use Rattle.laws.specs.Fresh.{length-head, length-fresh}
use Rattle.ring_theory.specs.Hold.{Blank}
use Rattle.image_theory.specs.Checks.{Suits}
use Rattle.fresh_theory.specs.Fields.{Field, fields, place_of, field_at, IsField, get_field, get_skip, get_zeros, part-copies}

head_fields : ℕ → ℕ → ℕ → ℕ → List Field
head_fields h n m d =
    record { width = 4; value = 0x4f444e52 } ∷ record { width = 4; value = 1 } ∷ record { width = 8; value = h } ∷ record { width = 4; value = n }
    ∷ record { width = 4; value = m } ∷ record { width = 8; value = d } ∷ record { width = 4; value = 0 } ∷ record { width = 28; value = 0 } ∷ []

head-fields : (h n m d : ℕ) → fresh_head h n m d ≡ fields (head_fields h n m d)
unfolding fresh_head fields head_fields bytes
head-fields h n m d = refl

module _ (h n m d : ℕ) where
  cells : List ℕ
  cells = copies (n * m) (bytes 8 fresh_value)

  body : List ℕ
  body = replicate (directory m) 255 ++ (replicate (8 * n) 0 ++ cells)

  fresh-is : fresh_slab h n m d ≡ fresh_head h n m d ++ body
  unfolding fresh_slab body cells
  fresh-is = simp append_assoc

  -- field k of the header
  field : (k : ℕ) → k < 8 → IsField (fresh_slab h n m d) (place_of (head_fields h n m d) k) (field_at (head_fields h n m d) k)
  field k l = rw (fresh-is, head-fields h n m d) (get_field (head_fields h n m d) body k (unfold head_fields in l))

  pub fresh_magic : u32 (fresh_slab h n m d) 0 ≡ 0x4f444e52
  unfolding head_fields field_at place_of
  fresh_magic = field 0 (omega arith)

  pub fresh_version : u32 (fresh_slab h n m d) 4 ≡ 1
  unfolding head_fields field_at place_of
  fresh_version = field 1 (omega arith)

  -- a hash too large for its field is cut to it
  pub fresh_hash : u64 (fresh_slab h n m d) 8 ≡ h % 256 ^ 8
  unfolding head_fields field_at place_of
  fresh_hash = field 2 (omega arith)

  pub fresh-cursor : cursor (fresh_slab h n m d) ≡ 0
  unfolding head_fields field_at place_of cursor
  fresh-cursor = field 6 (omega arith)

  -- behind the header
  behind : (w o : ℕ) → get w (fresh_slab h n m d) (64 + o) ≡ get w body o
  behind w o = rw fresh-is (get_skip w (fresh_head h n m d) body 64 o (length-head h n m d))

  module _ (fn : n < 2 ^ 32) (fm : m < 2 ^ 32) (fd : d < 2 ^ 64) where
    pub fresh-slots : slots (fresh_slab h n m d) ≡ n
    unfolding head_fields field_at place_of slots
    fresh-slots = field 3 (omega arith) ∙ mod-eq_of_lt fn

    pub fresh-series : series (fresh_slab h n m d) ≡ m
    unfolding head_fields field_at place_of series
    fresh-series = field 4 (omega arith) ∙ mod-eq_of_lt fm

    pub fresh-interval : interval (fresh_slab h n m d) ≡ d
    unfolding head_fields field_at place_of interval
    fresh-interval = field 5 (omega arith) ∙ mod-eq_of_lt fd

    pub fresh-stamp : (i : ℕ) → i < n → stamp (fresh_slab h n m d) i ≡ 0
    unfolding stamp stamp_at stamps_at stamps_behind body
    fresh-stamp i hi =
        rw fresh-series (ap (get 8 (fresh_slab h n m d)) (place (directory m) i) ∙ behind 8 (directory m + 8 * i)
        ∙ get_skip 8 (replicate (directory m) 255) (replicate (8 * n) 0 ++ cells) (directory m) (8 * i) (length-replicate {A = ℕ} (directory m) 255)
        ∙ get_zeros 8 (8 * n) cells (8 * i) (omega arith))
      where
        place : (x i : ℕ) → 64 + x + 8 * i ≡ 64 + (x + 8 * i)
        place x i = omega arith

    pub cell-fresh : (c i : ℕ) → c < m → i < n → cell (fresh_slab h n m d) c i ≡ fresh_value
    unfolding cell cell_at column_at column_behind stamps_behind body cells
    cell-fresh c i hc hi =
        rw (fresh-series, fresh-slots) (ap (get 8 (fresh_slab h n m d)) (place (directory m)) ∙ behind 8 (directory m + (8 * n + 8 * (n * c + i)))
        ∙ get_skip 8 (replicate (directory m) 255) (replicate (8 * n) 0 ++ cells) (directory m) (8 * n + 8 * (n * c + i))
        (length-replicate {A = ℕ} (directory m) 255)
        ∙ get_skip 8 (replicate (8 * n) 0) cells (8 * n) (8 * (n * c + i)) (length-replicate {A = ℕ} (8 * n) 0) ∙ copy)
      where
        place : (x : ℕ) → 64 + x + 8 * n + 8 * n * c + 8 * i ≡ 64 + (x + (8 * n + 8 * (n * c + i)))
        place x = omega arith

        low : n * c + i < n * m
        low = omega (arith, mul-le-mul_left n hc)

        copy : get 8 cells (8 * (n * c + i)) ≡ fresh_value
        copy = unfold get in (ap le (unfold cells in part_nil) ∙ le_bytes 8 fresh_value (unfold fresh_value in (lit< tt)))
          where
            part_nil : part (copies (n * m) (bytes 8 fresh_value)) (8 * (n * c + i)) 8 ≡ bytes 8 fresh_value
            part_nil = rw append-nil at (rw (length-bytes 8 fresh_value) at (part-copies (bytes 8 fresh_value) [] (n * m) (n * c + i) low))

    -- it suits its row
    pub suits_fresh : (r : Row) → r.hash ≡ h % 256 ^ 8 → row_slots r ≡ n → r.series ≡ m → r.interval ≡ d → 0 < n → Suits r (fresh_slab h n m d)
    suits_fresh r eh en em ed zn = record {
      magic_is = fresh_magic;
      version_is = fresh_version;
      hash_is = fresh_hash ∙ sym eh;
      slots-is = fresh-slots ∙ sym en;
      series-is = fresh-series ∙ sym em;
      interval-is = fresh-interval ∙ sym ed;
      cursor-low = rw (fresh-cursor, en) zn;
    }

    -- and took nothing
    pub blank-fresh : 0 < n → 0 < d → Blank (record { slab = fresh_slab h n m d; wrapped = false }) n m d
    blank-fresh zn zd = record {
      slab-is = record {
        sound = record {
          whole = length-fresh h n m d;
          slots-is = fresh-slots;
          series-is = fresh-series;
          interval-is = fresh-interval;
          cursor_in = rw fresh-cursor zn;
          few_slots = fn;
        };
        long = zd;
        low = λ i hi. rw (fresh-stamp i hi) (lit< tt);
      };
      cursor-is = fresh-cursor;
      stamps = fresh-stamp;
      flag = refl;
    }
