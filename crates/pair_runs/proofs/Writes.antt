-- How many writes: no more than the columns of the windows, and never fewer as a filling goes on. Assumes nothing.
use Rattle.std.specs.Prelude.{Option, Some, None}
use Prim.Native.Nat.{ℕ, zero, suc, ◌+◌, ◌*◌, ◌≤◌}
use native.Mathlib.Nat.{mul-suc, mul-le-mul_left}
use native.Mathlib.Omega.{arith}
use mathlib.Core.Path.{◌≡◌, ap}
use mathlib.Core.Bool.{Bool, true, false}
use mathlib.Core.List.{List, [], ◌∷◌}
use lib.ListN.{length}
use lib.Ieee.{binary64, to_bits}
use Rattle.model.specs.declared.WindowAnswer.{WindowAnswer}
use Rattle.model.specs.declared.WindowAnswer.TheVariants.{Empty, Number, NothingFinite}
use Rattle.model.specs.Layout.{fresh_value}
use Rattle.model.specs.Ring.{slots, is_old}
use Rattle.model.specs.Window.{Job, window_answer}
use Rattle.model.specs.Consolidate.{Filled, next_window, windows_from, windows, write_check, write_unless, write_on, write_bits, write_answer, unless_refused, fill_window, fill}
use Rattle.pair_fill.specs.declared.Pair.{Pair}
use Rattle.pair_fill.specs.Parts.{Lies, pair_job}

-- from a to b, at most j more
record Few (a b j : ℕ) : Type 0 where
  no_less : a ≤ b
  no_more : b ≤ a + j

-- written, or passed over
unless_old_few : (b : Bool) (f : Filled) (w c v : ℕ) → Few f.writes (write_unless b f w c v).writes 1
unfolding write_unless
unless_old_few true f w c v = record { no_less = omega arith; no_more = omega arith }
unless_old_few false f w c v = record { no_less = omega arith; no_more = omega arith }

on_few : (n : ℕ) (f : Filled) (w c v : ℕ) → Few f.writes (write_on n f w c v).writes 1
unfolding write_on
on_few zero f w c v = unless_old_few (is_old f.ring.slab w) f w c v
on_few (suc n) f w c v = record { no_less = omega arith; no_more = omega arith }

answer_few : (x : WindowAnswer) (f : Filled) (w c : ℕ) → Few f.writes (write_answer x f w c).writes 1
unfolding write_answer write_bits
answer_few Empty f w c = record { no_less = omega arith; no_more = omega arith }
answer_few (Number x) f w c = on_few (write_check (to_bits binary64 x) w) f w c (to_bits binary64 x)
answer_few NothingFinite f w c = on_few (write_check fresh_value w) f w c fresh_value

unless_few : (n : ℕ) (f g : Filled) → Few f.writes g.writes 1 → Few f.writes (unless_refused n f g).writes 1
unfolding unless_refused
unless_few zero f g h = h
unless_few (suc n) f g h = record { no_less = omega arith; no_more = omega arith }

columns_few : (q : Job) (w j c : ℕ) (f : Filled) → Few f.writes (fill_window q f w c j).writes j
unfolding fill_window
columns_few q w zero c f = record { no_less = omega arith; no_more = omega arith }
columns_few q w (suc j) c f =
    let g = unless_refused f.refusal f (write_answer (window_answer q w c) f w c) in
    let a = unless_few f.refusal f (write_answer (window_answer q w c) f w c) (answer_few (window_answer q w c) f w c) in
    let b = columns_few q w j (suc c) g in
    record { no_less = omega (arith, a.no_less, b.no_less); no_more = omega (arith, a.no_more, b.no_more) }

fill_few : (q : Job) (m : ℕ) (ws : List ℕ) (f : Filled) → Few f.writes (fill q f ws m).writes (m * length ws)
unfolding fill
fill_few q m [] f = record { no_less = omega arith; no_more = omega arith }
fill_few q m (w ∷ ws) f =
    let a = columns_few q w m 0 f in
    let b = fill_few q m ws (fill_window q f w 0 m) in
    record { no_less = omega (arith, a.no_less, b.no_less); no_more = omega (arith, a.no_more, b.no_more, mul-suc m (length ws)) }

few_windows : (q : Job) (k : ℕ) (e : Option ℕ) → length (windows_from q k e) ≤ k
few_windows q zero e = unfold windows_from in omega arith
few_windows q (suc k) None = unfold windows_from in omega arith
few_windows q (suc k) (Some w) = go (few_windows q k (next_window q (suc w)))
  where
    go : length (windows_from q k (next_window q (suc w))) ≤ k → length (windows_from q (suc k) (Some w)) ≤ suc k
    go h = unfold windows_from in omega (arith, h)

-- a filling g on the way from f to all that a pair's windows make of it
pub writes_few : (s : List ℕ) (p : Pair) → Lies s p → (q : Job) (ws : List ℕ) (m : ℕ) (g f : Filled) → fill q g ws m ≡ fill (pair_job s p) f (windows (pair_job s p)) m
    → g.writes ≤ f.writes + m * p.reading.slots
writes_few s p l q ws m g f e =
    let job = pair_job s p in
    let a = fill_few q m ws g in
    let b = fill_few job m (windows job) f in
    let n : length (windows job) ≤ slots job.source.slab = unfold windows in few_windows job (slots job.source.slab) (next_window job 0) in
    let k : length (windows job) ≤ p.reading.slots = omega (arith, n, l.readable.sized.slots-is) in
    let w : (fill q g ws m).writes ≡ (fill job f (windows job) m).writes = ap (λ (x : Filled). x.writes) e in
    omega (arith, a.no_less, b.no_more, mul-le-mul_left m k, w)
