-- What the search finds: a window that is found starts at the bound or above it, and below the range's end. So windows ascend, and none is found twice. And it
-- is the start of a window. Assumes nothing.
use Rattle.std.specs.Prelude.{ℕ, ◌≤◌, ◌<◌, ◌≡◌, refl, Bool, true, false, ◌&&◌, cond, List, [], ◌∷◌, leb, ltb, Option, Some, None}
use Rattle.std.proofs.Common.{arith, subst}
use Rattle.model.specs.Ring.{stamp, order}
use Rattle.model.specs.Window.{Job, window_of}
use Rattle.model.specs.Consolidate.{lower, lower_if, is_next, least_from, next_window}
use Rattle.laws.specs.Tests.{le_is, lt-is}
use Rattle.laws.specs.Windows.{window_le, window_again}

-- a start that was found lies from the bound up to the end, and starts a window of length d
abbrev Within : ℕ → ℕ → ℕ → Option ℕ → Type 0
Within d bound end None = Unit {0}
Within d bound end (Some w) = (bound ≤ w) × (w < end) × (window_of d w ≡ w)

lower-within : (d bound end : ℕ) (e : Option ℕ) (w : ℕ) → Within d bound end e → Within d bound end (Some w) → Within d bound end (lower e w)
unfolding lower
lower-within d bound end None w h a = a
lower-within d bound end (Some v) w h a = go (ltb w v)
  where
    go : (t : Bool) → Within d bound end (Some (cond t w v))
    go true = a
    go false = h

one-within : (q : Job) → 0 < q.long → (bound : ℕ) (e : Option ℕ) (t : ℕ) → Within q.long bound q.end e
    → Within q.long bound q.end (lower_if (is_next q bound t) e (window_of q.long t))
unfolding is_next lower_if
one-within q z bound e t h = go (leb q.start t) (ltb t q.end) refl (leb bound (window_of q.long t)) refl
  where
    go : (a b : Bool) → ltb t q.end ≡ b → (c : Bool) → leb bound (window_of q.long t) ≡ c → Within q.long bound q.end (lower_if (a && b && c) e (window_of q.long t))
    go false b p c r = h
    go true false p c r = h
    go true true p false r = h
    go true true p true r =
        lower-within q.long bound q.end e (window_of q.long t) h
        (le_is bound (window_of q.long t) r, omega (arith, lt-is t q.end p, window_le q.long t), window_again q.long z t)

least_within : (q : Job) → 0 < q.long → (bound : ℕ) (is : List ℕ) (e : Option ℕ) → Within q.long bound q.end e
    → Within q.long bound q.end (least_from q bound e is)
unfolding least_from
least_within q z bound [] e h = h
least_within q z bound (i ∷ is) e h =
    let t = stamp q.source.slab i in
    least_within q z bound is (lower_if (is_next q bound t) e (window_of q.long t)) (one-within q z bound e t h)

pub found : (q : Job) → 0 < q.long → (bound : ℕ) {w : ℕ} → next_window q bound ≡ Some w → (bound ≤ w) × (w < q.end) × (window_of q.long w ≡ w)
unfolding next_window
found q z bound {w} e = subst (Within q.long bound q.end) e (least_within q z bound (order q.source) None tt)
