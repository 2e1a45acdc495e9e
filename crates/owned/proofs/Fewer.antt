-- A step that hands out a point leaves fewer slots. Assumes nothing.
use Prim.Native.Nat.{ℕ, zero, suc, ◌%◌, ◌<◌}
use Rattle.std.specs.Prelude.{◌≡◌, Bool, List, cond, Some, None}
use Rattle.std.proofs.Common.{arith}
use Rattle.std.proofs.Math.Bool.{true, false}
use Rattle.model.specs.declared.Place.{Place}
use Rattle.model.specs.declared.Point.{Point}
use Rattle.model.specs.declared.Stepped.{Stepped}
use Rattle.model.specs.Ring.{slots}
use Rattle.model.specs.Read.{is_handed, stepped, handed, step_from, readable, step}

module _ (x : Point) where
  -- fewer than k, if it handed out x
  abbrev pub Fewer : ℕ → Stepped → Type 0
  Fewer k d = d.next ≡ Some x → d.place.left < k

  either : (b : Bool) (k : ℕ) (d e : Stepped) → Fewer k d → Fewer k e → Fewer k (cond b d e)
  either true k d e f g = f
  either false k d e f g = g

  module _ (s : List ℕ) (c start end : ℕ) where
    from : (k i : ℕ) → Fewer k (step_from s c start end i k)
    unfolding step_from stepped
    from zero i = λ h. cc
    from (suc k) i =
        either (is_handed s c start end i) (suc k) (stepped (handed s c i) (suc i % slots s) k) (step_from s c start end (suc i % slots s) k)
        (λ h. omega arith)
        (λ h. omega (arith, from k (suc i % slots s) h))

    pub fewer : (p : Place) → Fewer p.left (step s c start end p)
    unfolding step stepped
    fewer p = either (readable s c p) p.left (step_from s c start end p.slot p.left) (stepped None p.slot 0) (from p.left p.slot) (λ h. cc)
