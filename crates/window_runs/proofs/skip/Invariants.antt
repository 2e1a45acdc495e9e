use Prim.Native.Nat.{ℕ, ◌+◌, ◌-◌, ◌≤◌, ◌<◌}
use mathlib.Core.Path.{◌≡◌}
use mathlib.Core.List.{List}
use Rattle.model.specs.Ring.{walk}
use Rattle.window.specs.declared.Reading.{Reading}
use Rattle.window.specs.Parts.{job_in}
use Rattle.ring_theory.specs.Walk.{steps}
use Rattle.window_runs.specs.Parts.{from, Parted}
use Rattle.window_runs.proofs.skip.Given as goal

-- the slots from slot₀ on, left₀ of them, with those before `slot` passed over
pub record Over (s : List ℕ) (q : Reading) (limit slot₀ left₀ slot left last : ℕ) : Type 0 where
  pub slot_in : slot < q.slots
  pub fewer : left ≤ left₀
  pub last_few : last ≤ left₀
  pub slot_is : slot ≡ steps q.slots slot₀ (left₀ - left)
  pub rest-is : from (job_in s q) limit (walk q.slots slot left) ≡ from (job_in s q) limit (walk q.slots slot₀ left₀)
  pub parted : Parted (job_in s q) q.slots (walk q.slots slot₀ left₀) (record { slot = slot₀; left = left₀ - last }) (record { slot = slot; left = left })

abbrev pub invariant-loop-left : goal.invariant-loop-left
invariant-loop-left l = Over l.slab l.q (l.window + l.width) l.initial.slot l.initial.left l.slot l.left l.last
