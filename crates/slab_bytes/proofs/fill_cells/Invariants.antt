use Rattle.std.proofs.Common.{ℕ, ◌+◌, ◌*◌, ◌-◌, ◌≤◌, ◌≡◌, List, length}
use Rattle.model.specs.Bytes.{bytes, splice}
use Rattle.model.specs.Layout.{copies, fresh_value}
use Rattle.slab_bytes.proofs.fill_cells.Given as goal

-- what is filled before cell i and the cells left make the whole fill
pub record Filled (s₀ : List ℕ) (from count : ℕ) (s : List ℕ) (i : ℕ) : Type 0 where
  pub in_part : i ≤ count
  pub same-long : length s ≡ length s₀
  pub filled : splice s (from + 8 * i) (copies (count - i) (bytes 8 fresh_value)) ≡ splice s₀ from (copies count (bytes 8 fresh_value))

abbrev pub invariant-loop-i : goal.invariant-loop-i
invariant-loop-i l = Filled l.initial.s l.from l.count l.s l.i
