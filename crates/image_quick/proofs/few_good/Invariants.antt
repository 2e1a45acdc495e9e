use Rattle.std.proofs.Common.{ℕ, ◌+◌, ◌^◌, ◌<◌, ◌≤◌, List}
use Rattle.image_quick.specs.declared.Shared.{Shared}
use Rattle.image_quick.specs.Seen.{Known, Only, JoinsTo, Placed}
use Rattle.image_quick.proofs.few_good.Given as goal

pub record Inv (s : List ℕ) (n : ℕ) (p : Shared) (at i : ℕ) : Type 0 where
  pub in_rows : i < n
  pub low : at ≤ 2 ^ 63 + 2 ^ 40
  pub joins : JoinsTo s i
  pub only : Only s i
  pub known : Known s i p
  pub placed : Placed s (i + 1) at

abbrev pub invariant-loop-i : goal.invariant-loop-i
invariant-loop-i l = Inv l.s l.n l.p l.at l.i
