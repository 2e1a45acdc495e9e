-- A slab that was lent on and written is the model's write to its ring; the answer of `record`, one law a way. Assumes nothing.
use Rattle.std.specs.Prelude.{Some, None}
use Prim.Native.Nat.{ℕ, ◌+◌, ◌-◌, ◌≤◌}
use native.Mathlib.Omega.{arith}
use mathlib.Core.Path.{◌≡◌, ap, ◌∙◌}
use mathlib.Core.Bool.{Bool, true, false, not}
use mathlib.Core.List.{List, []}
use lib.ListN.{length, get_or, set}
use borrow.Rule.Slice.PartMut.{put_mid, mid_of}
use Rattle.model.specs.Image.{unless, first, row_at, slab_of, open_check}
use Rattle.model.specs.Ring.{Ring, ColumnValue, flag_after, store, write, is_infinite, is_old}
use Rattle.model.specs.Lent.{row, ring, with_ring}
use Rattle.model.specs.Record.{stamp_ok, takes, record_check}
use Rattle.laws.specs.Bytes.{lent-splice}
use Rattle.ring.specs.Parts.{ring_of}
use Rattle.lookup.specs.Parts.{SlabAt, finest_of}
use Rattle.lookup.specs.Handle.{handle_none, handle_at, row_there, takes_at}
use Rattle.lookup.proofs.Laws.{few_rows, part-is}
use Rattle.record.specs.Ready.{lent_by, ReadyAt, RowWritten}

-- ---- the slab lent on

module _ {s : List ℕ} {i from to n m d : ℕ} (p : SlabAt s i from to n m d) where
  -- what comes back as ys with the flag b is the write
  module _ (es : List ColumnValue) (t : ℕ) {w b : Bool} {ys : List ℕ} (k : length ys ≡ to - from) (e : ring_of ys b ≡ write (ring_of (mid_of from (to - from) s) w) es t) where
    lent_is : (bs : List Bool) → w ≡ get_or bs i false → lent_by (put_mid from (to - from) s ys) (set bs i b) ≡ with_ring (lent_by s bs) i (write (ring (lent_by s bs) i) es t)
    unfolding with_ring ring row
    lent_is bs x =
        let h : from + (to - from) ≤ length s = omega (arith, p.inside, p.to_is) in
        let z : ring_of ys b ≡ write (ring_of (slab_of s (row_at s i)) (get_or bs i false)) es t = e ∙ rw (part-is p, x) in
        rw (lent-splice s from (to - from) ys h k, p.from_is, ← z)

    stays : w ≡ true → b ≡ true
    unfolding write store flag_after
    stays z = ap (λ (r : Ring). r.wrapped) e ∙ rw z

    pub lent-write : RowWritten s (put_mid from (to - from) s ys) i es t w b
    lent-write = record { lent_is = lent_is; stays = stays }

-- ---- the answer

module _ (s : List ℕ) (k c v t : ℕ) (h : open_check s ≡ 0) where
  pub refused_handle : finest_of s k c ≡ None → (bs : List Bool) → 11 ≡ record_check (lent_by s bs) k c v t
  unfolding record_check first unless
  refused_handle e bs = rw (h, handle_none (lent_by s bs) k c e)

  module _ {i : ℕ} (e : finest_of s k c ≡ Some i) where
    pub refused_value : is_infinite v ≡ true → (bs : List Bool) → 12 ≡ record_check (lent_by s bs) k c v t
    unfolding record_check first unless
    refused_value a bs = rw (h, (handle_at (lent_by s bs) k c e).0, a)

    pub refused_stamp : is_infinite v ≡ false → stamp_ok t ≡ false → (bs : List Bool) → 13 ≡ record_check (lent_by s bs) k c v t
    unfolding record_check first unless
    refused_stamp a b bs = rw (h, (handle_at (lent_by s bs) k c e).0, a, b)

    -- 18 by the row's slab, x: whatever the flags
    module _ {x : Bool} (old : is_old (slab_of s (row_at s i)) t ≡ x) (bs : List Bool) where
      takes-is : takes (lent_by s bs) k t ≡ not x
      takes-is = takes_at (lent_by s bs) k t (handle_at (lent_by s bs) k c e).1 ∙ rw old

    pub refused_old : is_infinite v ≡ false → stamp_ok t ≡ true → is_old (slab_of s (row_at s i)) t ≡ true → (bs : List Bool) → 18 ≡ record_check (lent_by s bs) k c v t
    unfolding record_check first unless
    refused_old a b d bs = rw (h, (handle_at (lent_by s bs) k c e).0, a, b, takes-is d bs)

    pub ready_at : is_infinite v ≡ false → stamp_ok t ≡ true → is_old (slab_of s (row_at s i)) t ≡ false → ReadyAt s k c v t i
    ready_at a b d = record { opened = h; row_is = e; few_rows = omega (arith, few_rows s h, (row_there (lent_by s []) k c h e).0); accepted = accepted }
      where
        accepted : (bs : List Bool) → record_check (lent_by s bs) k c v t ≡ 0
        accepted bs = unfold record_check first unless in (rw (h, (handle_at (lent_by s bs) k c e).0, a, b, takes-is d bs))
