-- The search backward, a slot at a time. Assumes nothing.
use Rattle.std.specs.Prelude.{Some, None}
use Prim.Native.Nat.{ℕ, zero, suc, ◌-◌, ◌≤◌, ◌<◌}
use native.Mathlib.Omega.{arith}
use mathlib.Core.Path.{◌≡◌, sym, ◌∙◌}
use mathlib.Core.Bool.{true, false, ◌&&◌, and-false}
use mathlib.Core.List.{List}
use lib.Dec.{leb, ltb}
use Rattle.model.specs.Ring.{stamp, cell, is_nan_bits}
use Rattle.model.specs.Read.{is_handed}
use Rattle.model.specs.Figure.{end_of_time}
use Rattle.laws.specs.Tests.{yes_le, yes_lt, no_lt}
use Rattle.figure_theory.specs.Back.{slot_before, or_back, back_from}

pub before-first : (n i : ℕ) → i ≡ 0 → n - 1 ≡ slot_before n i
unfolding slot_before
before-first n i e = rw e

pub before-later : (n i : ℕ) → 0 < i → i - 1 ≡ slot_before n i
unfolding slot_before
before-later n zero h = elim h [ ]
before-later n (suc i) h = omega arith

module _ (s : List ℕ) (c n i k : ℕ) where
  -- the slot is handed out: the value is a number, and the stamp is not the end of all time
  pub is-handed : stamp s i < end_of_time → is_nan_bits (cell s c i) ≡ false → is_handed s c 0 end_of_time i ≡ true
  unfolding is_handed
  is-handed l e = rw (yes_le 0 (stamp s i) (omega arith), yes_lt (stamp s i) end_of_time l, e)

  pub nan_not-handed : is_nan_bits (cell s c i) ≡ true → is_handed s c 0 end_of_time i ≡ false
  unfolding is_handed
  nan_not-handed e = rw e (and-false (leb 0 (stamp s i) && ltb (stamp s i) end_of_time))

  pub late-not-handed : end_of_time ≤ stamp s i → is_handed s c 0 end_of_time i ≡ false
  unfolding is_handed
  late-not-handed l = rw (yes_le 0 (stamp s i) (omega arith), no_lt (stamp s i) end_of_time l)

  -- one turn
  turn : (j : ℕ) → k ≡ suc j → back_from s c n i k ≡ or_back (is_handed s c 0 end_of_time i) s c i (back_from s c n (slot_before n i) j)
  unfolding back_from
  turn j e = rw e

  pub back_there : 0 < k → is_handed s c 0 end_of_time i ≡ true → Some (record { stamp = stamp s i; value = cell s c i }) ≡ back_from s c n i k
  unfolding or_back
  back_there h e = sym (turn (k - 1) (omega arith) ∙ rw e)

  pub back_later : 0 < k → is_handed s c 0 end_of_time i ≡ false → back_from s c n (slot_before n i) (k - 1) ≡ back_from s c n i k
  unfolding or_back
  back_later h e = sym (turn (k - 1) (omega arith) ∙ rw e)

  pub back_none : k ≡ 0 → None ≡ back_from s c n i k
  unfolding back_from
  back_none e = rw e

-- the loop's invariant: going backward from slot i over k slots finds what it does from slot i₀ over k₀
pub record Same (s : List ℕ) (c n i₀ k₀ i k : ℕ) : Type 0 where
  pub in_slots : i < n
  pub finds : back_from s c n i k ≡ back_from s c n i₀ k₀

-- slot i is not handed out: the search goes on from slot j, the one before
pub same_next : {s : List ℕ} {c n i₀ k₀ i k : ℕ} (j : ℕ) → Same s c n i₀ k₀ i k → 0 < k → is_handed s c 0 end_of_time i ≡ false → (j ≡ slot_before n i) × (j < n)
    → Same s c n i₀ k₀ j (k - 1)
same_next {s} {c} {n} {i = i} {k = k} j h some e b = record { in_slots = b.1; finds = rw b.0 (back_later s c n i k some e ∙ h.finds) }
