-- A part that is cut short by the list's end: what `part` hands back where its bounds are no bounds of the slice. Assumes nothing.
use Prim.Native.Nat.{ℕ, ◌+◌, ◌-◌, ◌≤◌}
use native.Mathlib.Omega.{arith}
use mathlib.Core.Path.{◌≡◌, sym, ap, ◌∙◌}
use mathlib.Core.List.{List, []}
use lib.ListN.{length, take, drop, length-drop}
use lib.Seq.{take_all, take-nil, drop-nil, drop-length, drop-drop}
use Rattle.model.specs.Bytes.{part}

-- nothing, as it ends where it starts or before
pub part_none : (s : List ℕ) (a e : ℕ) → e ≤ a → [] ≡ part s a (e - a)
unfolding part
part_none s a e h = let z : e - a ≡ 0 = omega arith in sym (ap (λ (n : ℕ). take n (drop a s)) z)

drop_past : (s : List ℕ) (a : ℕ) → length s ≤ a → drop a s ≡ []
drop_past s a h =
    let e : length s + (a - length s) ≡ a = omega arith in
    sym (ap (λ (k : ℕ). drop k s) e) ∙ sym (drop-drop (a - length s) (length s) s) ∙ ap (drop (a - length s)) (drop-length s) ∙ drop-nil (a - length s)

-- nothing, as it starts at the end or past it
pub part_past : (s : List ℕ) (a n : ℕ) → length s ≤ a → [] ≡ part s a n
unfolding part
part_past s a n h = sym (ap (take n) (drop_past s a h) ∙ take-nil n)

-- the rest, as it ends at the end or past it
pub part-rest : (s : List ℕ) (a e : ℕ) → length s ≤ e → take (length s - a) (drop a s) ≡ part s a (e - a)
unfolding part
part-rest s a e h = take_all (length s - a) (drop a s) (omega (arith, length-drop a s)) ∙ sym (take_all (e - a) (drop a s) (omega (arith, length-drop a s)))
