-- What the writers' proofs rest on: a store behind the header keeps a slab in good order; a write is its stamp, its cells and its cursor, stored in this
-- order; one value more. Assumes nothing.
use Prim.Native.Nat.{ℕ, ◌≤◌}
use native.Mathlib.Omega.{arith}
use mathlib.Core.Path.{◌≡◌, sym, ◌∙◌}
use mathlib.Core.Bool.{Bool}
use mathlib.Core.List.{List, ◌∷◌}
use Rattle.model.specs.Bytes.{put}
use Rattle.model.specs.Ring.{ColumnValue, slot_of, put_cells, write}
use Rattle.laws.specs.Bytes.{before, get-put, length-put}
use Rattle.laws.specs.Slab.{cursor-put}
use Rattle.ring_theory.specs.Write.{write-is, flag_is}
use Rattle.ring_theory.specs.Sound.{Sound, slot_is, sound_as, sound-write}
use Rattle.ring.specs.Parts.{ring_of, one}
use Rattle.ring_write.specs.Stored.{Stamp}

pub sound-put : {s : List ℕ} {n m d : ℕ} → Sound s n m d → (o x : ℕ) → 64 ≤ o → Sound (put 8 s o x) n m d
sound-put {s} {n} {m} {d} h o x k =
    sound_as h (put 8 s o x) (length-put 8 s o x) (λ w p l. get-put w 8 s p o x (before (omega arith))) (rw (cursor-put s o x k) h.cursor_in)

-- the stamp stored in the slot i, then cells and cursor, with the flag f, are a write
pub written : {s : List ℕ} {n m d t : ℕ} {w : Bool} {i : ℕ} {f : Bool} {v : List ℕ} → Sound s n m d → Stamp s n m d t w i f v
    → (es : List ColumnValue) {u : List ℕ} → u ≡ put 4 (put_cells v i es) 32 i → (ring_of u f ≡ write (ring_of s w) es t) × Sound u n m d
written {s} {n} {m} {d} {t} {w} {i} {f} {v} h p es {u} q =
    let e : i ≡ slot_of s t = p.slot_is ∙ sym (slot_is h t) in
    let us : u ≡ (write (ring_of s w) es t).slab = q ∙ rw (p.slab-is, e, write-is (ring_of s w) es t) in
    let fs : f ≡ (write (ring_of s w) es t).wrapped = p.flag_is ∙ rw (e, flag_is (ring_of s w) es t) in
    (rw (us, fs), rw us (sound-write (ring_of s w) es t n m d h))

-- the first value stored, then the others
pub cell_turn : (s : List ℕ) {u t : List ℕ} (i c v : ℕ) (es : List ColumnValue) → u ≡ put_cells s i (one c v) → put_cells s i (record { column = c; value = v } ∷ es) ≡ t → put_cells u i es ≡ t
unfolding put_cells
cell_turn s i c v es p h = rw p h
