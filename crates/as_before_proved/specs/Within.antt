-- Where the windows of a pair lie; where the reading of a job starts. Assumes nothing.
use Prim.Native.Nat.{ℕ, suc, ◌≤◌, ◌<◌}
use Rattle.std.proofs.Common.{arith}
use Rattle.std.specs.Prelude.{◌≡◌, Bool, ◌&&◌, Option, None}
use Rattle.std.proofs.Math.Path.{refl}
use Rattle.std.proofs.Math.Bool.{true, false}
use mathlib.Core.List.{List, [], ◌∷◌}
use Rattle.std.proofs.Math.Dec.{leb, ltb}
use Rattle.model.specs.Ring.{stamp, order}
use Rattle.model.specs.Window.{Job, window_of}
use Rattle.model.specs.Consolidate.{lower_if, is_next, least_from, next_window}
use Rattle.laws.specs.Tests.{yes_le, le_is}
use Rattle.laws.specs.Windows.{window_mono}

-- from b on, at most top, each above the one before it
abbrev pub Within : ℕ → ℕ → List ℕ → Type 0
Within b top [] = Unit {0}
Within b top (w ∷ ws) = (b ≤ w) × (w ≤ top) × Within (suc w) top ws

-- ---- a job's windows

module _ (q : Job) (z : 0 < q.long) where
  -- a stamp that is read falls in the start's window or a later one
  next-from : (b t : ℕ) → b ≤ window_of q.long q.start → is_next q 0 t ≡ is_next q b t
  unfolding is_next
  next-from b t h = go (leb q.start t) refl
    where
      go : (a : Bool) → leb q.start t ≡ a → (a && ltb t q.end && leb 0 (window_of q.long t)) ≡ (a && ltb t q.end && leb b (window_of q.long t))
      go false e = refl
      go true e =
          let le = le_is q.start t e in
          rw (yes_le 0 (window_of q.long t) (omega arith), yes_le b (window_of q.long t) (omega (arith, window_mono q.long le)))

  least_from_lem : (b : ℕ) → b ≤ window_of q.long q.start → (is : List ℕ) (e : Option ℕ) → least_from q 0 e is ≡ least_from q b e is
  unfolding least_from
  least_from_lem b h [] e = refl
  least_from_lem b h (i ∷ is) e =
      let t = stamp q.source.slab i in
      rw (next-from b t h) (least_from_lem b h is (lower_if (is_next q b t) e (window_of q.long t)))

  pub first-from : (b : ℕ) → b ≤ window_of q.long q.start → next_window q 0 ≡ next_window q b
  unfolding next_window
  first-from b h = least_from_lem b h (order q.source) None
