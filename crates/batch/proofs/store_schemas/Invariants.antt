use Prim.Native.Nat.{ℕ}
use mathlib.Core.List.{List}
use mathlib.Core.Path.{◌≡◌}
use lib.ListN.{length}
use Rattle.model.specs.Record.{entries}
use Rattle.flag_bits.specs.One.{lent_at}
use Rattle.batch.proofs.Laws.{Running}
use Rattle.batch.proofs.store_schemas.Given as goal

pub record Inv (image₀ : List ℕ) (next₀ : ℕ) (batch : List ℕ) (stamp count : ℕ) (image : List ℕ) (next k : ℕ) : Type 0 where
  pub long : length image ≡ length image₀
  pub running : Running (lent_at image₀ next₀) (entries batch) stamp count (lent_at image next) k

abbrev pub invariant-loop-k : goal.invariant-loop-k
invariant-loop-k l = Inv l.initial.image l.initial.next l.batch l.stamp l.count l.image l.next l.k
