-- Where a reading over all time hands out a point, both ends are there: service tools get no point without its ends. Assumes nothing.
use Rattle.std.specs.Prelude.{ℕ, zero, suc, ◌+◌, ◌≡◌, Option, Some, None}
use Rattle.std.proofs.Math.Path.{refl}
use Rattle.std.proofs.Math.Bool.{true}
use mathlib.Core.List.{List, []}
use Rattle.model.specs.declared.Point.{Point}
use Rattle.model.specs.Image.{rows}
use Rattle.model.specs.Ring.{Ring, cursor, stamp, end_of, oldest, newest}
use Rattle.model.specs.Read.{both_ends, points_of}
use Rattle.model.specs.Lent.{Lent, row, ring, row_no, tiers, first_row}
use Rattle.model.specs.Query.{Answered, QueryReply, found, not_found, query, answered}
use Rattle.model.specs.Figure.{end_of_time, reading, last_after, last_on, serves, served_point, service_on, service}
use Rattle.ring_theory.specs.Sound.{Sound}
use Rattle.ring_theory.specs.Hold.{order_none}
use Rattle.ring_theory.specs.Points.{points_in, points}
use Rattle.image_theory.specs.Good.{good_open, slab-sound}
use Rattle.image_theory.specs.Tiers.{tier-row}
use Rattle.query_theory.specs.Ends.{BothOrNeither, both, neither}
use Rattle.query_theory.proofs.Ends.{ends-agree}
use Rattle.query_theory.proofs.Answer.{query_zero, query_found, query-points}

-- an end that is missing is a stamp of 0
no_stamp : (t : ℕ) → end_of t ≡ None → t ≡ 0
unfolding end_of
no_stamp zero e = refl
no_stamp (suc t) e = cc

-- of a ring
pub ring-ends : (r : Ring) {n m d : ℕ} → Sound r.slab n m d → (c : ℕ) {p : Point} → last_after None (points r c 0 end_of_time) ≡ Some p → both_ends (oldest r) (newest r) ≡ true
unfolding both_ends last_after
ring-ends r h c {p} e = go (ends-agree r h)
  where
    go : BothOrNeither (oldest r) (newest r) → both_ends (oldest r) (newest r) ≡ true
    go (both o n) = rw (o, n)
    go (neither o n) =
        let none : points r c 0 end_of_time ≡ [] = unfold points points_in in (rw (order_none r (no_stamp (stamp r.slab (cursor r.slab)) (unfold newest in n)))) in
        nothing (points r c 0 end_of_time) none e
      where
        nothing : (ps : List Point) → ps ≡ [] → last_after None ps ≡ Some p → both_ends (oldest r) (newest r) ≡ true
        nothing ps z f = let g : None ≡ Some p = rw z at f in cc

-- of an answer: its ends are those of the tier's ring
module _ (l : Lent) (k c j : ℕ) where
  answer_ends : (a : Answered) → query l k c j 0 end_of_time ≡ found a → {p : Point} → last_after None (points_of a.reader) ≡ Some p → both_ends a.oldest a.newest ≡ true
  unfolding answered ring row row_no tiers
  answer_ends a e f =
      let q = query_found l k c 0 end_of_time j e in
      let z = query_zero l k c j 0 end_of_time q.0 in
      let g = good_open l.image z.0 in
      let w = tier-row l.image g.shape_is k j z.2 in
      let i = first_row k (rows l.image) + j in
      let last = rw (query-points l k c 0 end_of_time j e) at f in
      rw q.1 (ring-ends (ring l i) (slab-sound l.image g i w.there) c last)

  -- of a service figure
  pub service-ends : {t v : ℕ} {o n : Option ℕ} → service l k c j ≡ serves t v o n → both_ends o n ≡ true
  unfolding service reading service_on last_on served_point
  service-ends {t} {v} {o} {n} e = go (query l k c j 0 end_of_time) refl e
    where
      go : (x : QueryReply) → query l k c j 0 end_of_time ≡ x → service_on x ≡ serves t v o n → both_ends o n ≡ true
      go (not_found m) f g = cc
      go (found a) f g = pick (last_after None (points_of a.reader)) refl g
        where
          pick : (x : Option Point) → last_after None (points_of a.reader) ≡ x → served_point x a.oldest a.newest ≡ serves t v o n → both_ends o n ≡ true
          pick None e h = cc
          pick (Some p) e h =
              let oldest-is : a.oldest ≡ o = cc in
              let newest-is : a.newest ≡ n = cc in
              rw (← oldest-is, ← newest-is) (answer_ends a f e)
