-- What is fetched are the reader's points, as many as there is room for. For callers that speak of a reader's points. Assumes nothing.
use Rattle.std.specs.Prelude.{ℕ, zero, suc, ◌≡◌, Bool, Option, Some, None}
use Rattle.std.proofs.Math.Path.{refl, ap}
use Rattle.std.proofs.Common.{sym, ◌∙◌}
use Rattle.std.proofs.Math.Bool.{true, false}
use mathlib.Core.List.{List, [], ◌∷◌}
use Rattle.std.proofs.Math.ListN.{take}
use Rattle.model.specs.declared.Place.{Place}
use Rattle.model.specs.declared.Point.{Point}
use Rattle.model.specs.Read.{Reader, readable, step, stepped, and_then, points_of}
use Rattle.ring_theory.specs.Points.{points_unreadable}
use Rattle.ring_theory.proofs.Points.{points-step}
use Rattle.fetch.specs.Fetch.{Fetch, then_fetch, fetch_up_to}

module _ (s : List ℕ) (c start end : ℕ) where
  abbrev from : Place → Reader
  from p = record { slab = s; column = c; start = start; end = end; place = p }

  one : (k : ℕ) (x : Option Point) (q : Place) (later : Fetch) (ps : List Point) → later.points ≡ take k ps → (then_fetch x q later).points ≡ take (suc k) (and_then x ps)
  unfolding then_fetch and_then
  one k None q later ps h = refl
  one k (Some y) q later ps h = ap (λ (zs : List Point). y ∷ zs) h

  none : (k : ℕ) (p : Place) → readable s c p ≡ false → (fetch_up_to (suc k) s c start end p).points ≡ []
  unfolding fetch_up_to step stepped then_fetch
  none k p r = rw r

  some : (k : ℕ) (p : Place) → readable s c p ≡ true → (fetch_up_to k s c start end (step s c start end p).place).points ≡ take k (points_of (from (step s c start end p).place))
      → (fetch_up_to (suc k) s c start end p).points ≡ take (suc k) (points_of (from p))
  unfolding fetch_up_to
  some k p r h =
      let d = step s c start end p in
      one k d.next d.place (fetch_up_to k s c start end d.place) (points_of (from d.place)) h ∙ ap (take (suc k)) (sym (points-step (from p) r))

  pub fetched_are : (k : ℕ) (p : Place) → (fetch_up_to k s c start end p).points ≡ take k (points_of (from p))
  fetched_are zero p = unfold fetch_up_to in refl
  fetched_are (suc k) p = go (readable s c p) refl (fetched_are k (step s c start end p).place)
    where
      go : (b : Bool) → readable s c p ≡ b → (fetch_up_to k s c start end (step s c start end p).place).points ≡ take k (points_of (from (step s c start end p).place))
          → (fetch_up_to (suc k) s c start end p).points ≡ take (suc k) (points_of (from p))
      go true r h = some k p r h
      go false r h = none k p r ∙ ap (take (suc k)) (sym (points_unreadable (from p) r))
