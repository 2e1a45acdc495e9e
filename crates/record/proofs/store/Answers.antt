-- `record::store` meets its contract: the row's slab is lent on, and what comes back is put in its place. Assumes nothing.
use native.Mathlib.Omega.{arith}
use Rattle.ring.specs.Parts.{one}
use Rattle.lookup.proofs.Laws.{part_sound}
use Rattle.record.proofs.Laws.{lent-write}
use borrow.Author.Rules.{rules}
use Rattle.record.proofs.store.Goals as goal

pub write-requires : goal.write-requires
write-requires c = record { sound = part_sound c.slab_at-slab.ensures; interval_nonzero = (c.slab_at-slab.ensures.some_interval, omega arith) }

pub returns : goal.returns
returns c = lent-write c.slab_at-slab.ensures (one _ _) _ (search rules) c.write.ensures.0
