-- A batch's entries one by one, as a loop over the lent bytes meets them: entry i of c and those behind it, all of them or a schema's. Assumes nothing.
use Prim.Native.Nat.{ℕ, suc, ◌+◌, ◌-◌, ◌*◌, ◌≤◌, ◌<◌}
use native.Mathlib.Omega.{arith}
use Rattle.std.proofs.Math.Numerals.{add-one}
use Rattle.std.specs.Prelude.{◌≡◌, true, false, List, [], ◌∷◌, eqb}
use Rattle.model.specs.Bytes.{get}
use Rattle.model.specs.Record.{entry_at, entries_from, entries_of, keep_entry}

module _ (b : List ℕ) (i c : ℕ) where
  pub entries_more : i < c → entries_from b i (c - i) ≡ entry_at b i ∷ entries_from b (i + 1) (c - (i + 1))
  unfolding entries_from
  entries_more h = let e : c - i ≡ suc (c - (i + 1)) = omega arith in rw (e, add-one i)

  pub entries_none : c ≤ i → entries_from b i (c - i) ≡ []
  unfolding entries_from
  entries_none h = let e : c - i ≡ 0 = omega arith in rw e

  -- a schema's
  module _ (k : ℕ) where
    pub skip_entry : i < c → eqb (get 4 b (16 * i)) k ≡ false → entries_of k (entries_from b i (c - i)) ≡ entries_of k (entries_from b (i + 1) (c - (i + 1)))
    unfolding entries_of keep_entry entry_at
    skip_entry h e = rw (entries_more h, e)

    pub keep-entry : i < c → eqb (get 4 b (16 * i)) k ≡ true
        → entries_of k (entries_from b i (c - i)) ≡ record { column = get 4 b (16 * i + 4); value = get 8 b (16 * i + 8) } ∷ entries_of k (entries_from b (i + 1) (c - (i + 1)))
    unfolding entries_of keep_entry entry_at
    keep-entry h e = rw (entries_more h, e)

    pub no_entry : c ≤ i → entries_of k (entries_from b i (c - i)) ≡ []
    unfolding entries_of
    no_entry h = rw (entries_none h)
