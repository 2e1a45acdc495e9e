use Rattle.std.proofs.Common.{ℕ, ◌+◌, ◌<◌, ◌≤◌, List}
use Rattle.image_quick.specs.declared.Shared.{Shared}
use Rattle.image_quick.specs.Seen.{Known, Early, Here, JoinsTo, Placed}
use Rattle.image_quick.proofs.rows_good.Given as goal

pub record Inv (s : List ℕ) (n total : ℕ) (p : Shared) (at i : ℕ) : Type 0 where
  pub in_rows : i < n
  pub in_image : at + 64 ≤ total
  pub joins : JoinsTo s i
  pub early : Early s i
  pub known : Known s i p
  pub placed : Placed s i at
  pub here : Here s i at

abbrev pub invariant-loop-i : goal.invariant-loop-i
invariant-loop-i l = Inv l.s l.n l.total l.p l.at l.i
