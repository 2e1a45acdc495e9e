-- Several steps of a reader in one call: the points that up to k steps hand out, and the place after them. Assumes nothing.
use Rattle.std.specs.Prelude.{ℕ, zero, suc, List, [], ◌∷◌, Option, Some, None}
use Rattle.model.specs.declared.Place.{Place}
use Rattle.model.specs.declared.Point.{Point}
use Rattle.model.specs.Read.{step}

pub record Fetch : Type 0 where
  pub points : List Point
  pub place : Place

-- what a step hands out, before what the later ones fetch; p is the place after it
unfoldable pub then_fetch : Option Point → Place → Fetch → Fetch
then_fetch None p later = record { points = []; place = p }
then_fetch (Some x) p later = record { points = x ∷ later.points; place = later.place }

-- up to k steps, from place p on
unfoldable pub fetch_up_to : ℕ → List ℕ → ℕ → ℕ → ℕ → Place → Fetch
fetch_up_to zero s c start end p = record { points = []; place = p }
fetch_up_to (suc k) s c start end p =
    let d = step s c start end p in
    let later = fetch_up_to k s c start end d.place in
    then_fetch d.next d.place later

-- points as words: stamp, value, one point after the other
unfoldable pub words : List Point → List ℕ
words [] = []
words (x ∷ xs) = x.stamp ∷ x.value ∷ words xs
